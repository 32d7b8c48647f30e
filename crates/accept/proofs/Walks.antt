-- Laws of the walk through a program. Assumes nothing.
use Prim.Native.Nat.{ℕ, suc, ◌+◌, ◌-◌, ◌<◌}
use mathlib.Core.Path.{◌≡◌, refl}
use mathlib.Core.List.{List}
use mathlib.Core.Bool.{Bool, true, false}
use native.Mathlib.Omega.{arith}
use borrow.Author.Tests.{eq-eqb, ne_eqb}
use lib.ListN.{length, drop}
use Rattle.bytecode.specs.Instruction.{Inst}
use Rattle.bytecode.specs.Parse.{whole, refused, parse}
use Rattle.refusal.specs.declared.Refusal.{Refusal}
use Rattle.refusal.specs.declared.Refusal.TheVariants as R
use Rattle.accept.specs.Check.{Verdict, accepted, refusal, refuse, shift_bad_amount, bad_hint, bad_register, overlap, judged, walk_from}

-- ---- a turn of the walk

module _ (rows : ℕ) (s : List ℕ) (at : ℕ) where
  pub walk_end : (k : ℕ) → length s ≡ 0 → walk_from k rows s at ≡ accepted
  unfolding walk_from
  walk_end ℕ.zero e = refl
  walk_end (suc k) e = rw (eq-eqb (length s) 0 e)

  pub walk_refused : (k r o : ℕ) → 0 < k → (length s ≡ 0 → ⊥) → parse s ≡ refused r o → walk_from k rows s at ≡ refusal r (at + o)
  unfolding walk_from
  walk_refused ℕ.zero r o h e f = absurd (omega arith)
  walk_refused (suc k) r o h e f = rw (ne_eqb (length s) 0 e, f)

  pub walk_judged : (k : ℕ) (i : Inst) (n r o : ℕ) → 0 < k → (length s ≡ 0 → ⊥) → parse s ≡ whole i n → judged rows i ≡ refusal r o → walk_from k rows s at ≡ refusal r (at + o)
  unfolding walk_from
  walk_judged ℕ.zero i n r o h e f g = absurd (omega arith)
  walk_judged (suc k) i n r o h e f g = rw (ne_eqb (length s) 0 e, f, g)

  pub walk_next : (k : ℕ) (i : Inst) (n : ℕ) → 0 < k → (length s ≡ 0 → ⊥) → parse s ≡ whole i n → judged rows i ≡ accepted → walk_from k rows s at ≡ walk_from (k - 1) rows (drop n s) (at + n)
  unfolding walk_from
  walk_next ℕ.zero i n h e f g = absurd (omega arith)
  walk_next (suc k) i n h e f g = let q : suc k - 1 ≡ k = omega arith in rw (ne_eqb (length s) 0 e, f, g, q)

-- ---- every refusal of one instruction points at its opcode byte

accept_refusal : (r o : ℕ) → accepted ≡ refusal r o → ⊥
accept_refusal r o e = let z : ◌≡◌ {A = ℕ} 0 1 = cc in omega arith

refuse_at : (t : Bool) (q : Refusal) (v : Verdict) (r o : ℕ) → (v ≡ refusal r o → o ≡ 0) → refuse t q v ≡ refusal r o → o ≡ 0
refuse_at true q v r o h e = cc
refuse_at false q v r o h e = h e

pub judged_at : (rows : ℕ) (i : Inst) (r o : ℕ) → judged rows i ≡ refusal r o → o ≡ 0
unfolding judged
judged_at rows i r o e =
    refuse_at (shift_bad_amount i) R.BadShift _ r o
    (refuse_at (bad_hint i) R.BadHint _ r o
    (refuse_at (bad_register rows i) R.BadRegister _ r o
    (refuse_at (overlap i.dests i.sources) R.Overlap accepted r o (λ z. absurd (accept_refusal r o z)))))
    e
