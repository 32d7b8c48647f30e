-- The program check's contract settles its answer. Assumes nothing.
use mathlib.Core.Path.{◌≡◌, refl, sym, ap₂}
use Rattle.std.proofs.Common.{ℕ, Result, Ok, Err}
use Rattle.refusal.specs.Number.{number_of}
use Rattle.refusal.specs.declared.Refusal.{Refusal}
use Rattle.refusal.specs.declared.RefusedAt.{RefusedAt}
use Rattle.refusal.proofs.Numbers.{number_names_one}
use Rattle.accept.specs.Check.{verdict}
use Rattle.accept.proofs.Soundness.{clash}

-- two answers that say the same are the same
pub checked_one : (a b : Result Unit RefusedAt) → verdict a ≡ verdict b → a ≡ b
checked_one (Ok _) (Ok _) e = refl
checked_one (Ok _) (Err r) e = absurd (clash (number_of r.refusal) r.offset (sym e))
checked_one (Err r) (Ok _) e = absurd (clash (number_of r.refusal) r.offset e)
checked_one (Err q) (Err r) e =
    let n : number_of q.refusal ≡ number_of r.refusal = cc in
    let m : q.offset ≡ r.offset = cc in
    ap₂ (λ (f : Refusal) (o : ℕ). Err (record { refusal = f; offset = o })) (number_names_one q.refusal r.refusal n) m
