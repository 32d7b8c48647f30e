-- Working definitions: what the contracts of the run's inner functions cite. No reader of document 01 needs them. Assumes nothing.
use Rattle.std.specs.Prelude.{ℕ, ◌+◌, ◌*◌, ◌^◌, ◌<◌, ◌≤◌, ◌≡◌, Bool, true, false, cond, List, [], ◌∷◌, ◌++◌, length, Option, Some, None}
use Rattle.word.specs.Assertions.{eq_fails, eq_cond_fails, zero_fails, non_zero_fails, false_fails, true_fails}
use Rattle.bytecode.specs.declared.instruction.Instruction.{Instruction}
use Rattle.bytecode.specs.declared.instruction.Instruction.TheVariants as I
use Rattle.report.specs.Records.{packed, lowest}
use Rattle.report.specs.Working.{Shows}
use Rattle.report.specs.declared.record.Failure.{Failure}
use Rattle.report.specs.declared.noting.Noting.{Noting}
use Rattle.rows.specs.Column.{Col, column}
use Rattle.rows.specs.declared.Stripe.{Stripe}
use Rattle.fill.specs.declared.assertions.Kind.{Kind}
use Rattle.fill.specs.declared.assertions.Kind.TheVariants.{Eq, EqCond, Zero, NonZero, False, True}
use Rattle.fill.specs.declared.assertions.Claim.{Claim}

-- ---- assertions by kind: a condition, and the two words that are compared

abbrev pub fails_by : Kind → ℕ → ℕ → ℕ → Bool
fails_by Eq c a b = eq_fails a b
fails_by EqCond c a b = eq_cond_fails c a b
fails_by Zero c a b = zero_fails a
fails_by NonZero c a b = non_zero_fails a
fails_by False c a b = false_fails a
fails_by True c a b = true_fails a

abbrev pub told_by : Kind → ℕ → ℕ → ℕ → ℕ → Failure
told_by Eq n path a b = record { head = packed 0x60 n path; one = a; two = b }
told_by EqCond n path a b = record { head = packed 0x61 n path; one = a; two = b }
told_by Zero n path a b = record { head = packed 0x62 n path; one = a; two = 0 }
told_by NonZero n path a b = record { head = packed 0x63 n path; one = a; two = 0 }
told_by False n path a b = record { head = packed 0x64 n path; one = a; two = 0 }
told_by True n path a b = record { head = packed 0x65 n path; one = a; two = 0 }

-- what an instruction claims
abbrev pub claim_of : Instruction → Option Claim
claim_of (I.Band a b c) = None
claim_of (I.Bor a b c) = None
claim_of (I.Bxor a b c) = None
claim_of (I.Select a b c d) = None
claim_of (I.BxorMulti a b) = None
claim_of (I.Fax a b c d) = None
claim_of (I.Shift a b c d) = None
claim_of (I.IaddCinCout a b c d e) = None
claim_of (I.IaddCarry a b c) = None
claim_of (I.IsubBinBout a b c d e) = None
claim_of (I.Imul a b c d) = None
claim_of (I.Iadd32CinCout a b c d e) = None
claim_of (I.Iadd32Cout a b c d) = None
claim_of (I.Hint a b c d) = None
claim_of (I.AssertEq a b path) = Some (record { kind = Eq; condition = a; one = a; two = b; path = path })
claim_of (I.AssertEqCond c a b path) = Some (record { kind = EqCond; condition = c; one = a; two = b; path = path })
claim_of (I.AssertZero v path) = Some (record { kind = Zero; condition = v; one = v; two = v; path = path })
claim_of (I.AssertNonZero v path) = Some (record { kind = NonZero; condition = v; one = v; two = v; path = path })
claim_of (I.AssertFalse v path) = Some (record { kind = False; condition = v; one = v; two = v; path = path })
claim_of (I.AssertTrue v path) = Some (record { kind = True; condition = v; one = v; two = v; path = path })

-- the records of a claim of instruction n
abbrev pub claimed : ℕ → Option Claim → Col → List Failure
claimed n None col = []
claimed n (Some c) col =
    cond (fails_by c.kind (col c.condition) (col c.one) (col c.two)) (told_by c.kind n c.path (col c.one) (col c.two) ∷ []) []

-- the registers that it reads are rows
abbrev pub Reads : ℕ → Option Claim → Type 0
Reads rows None = Unit {0}
Reads rows (Some c) = (c.condition < rows) × (c.one < rows) × (c.two < rows)

-- ---- a stripe

-- column k of the stripe
abbrev pub column_of : Stripe → List ℕ → ℕ → Col
column_of s xs k = column s.rows s.width xs (s.first + k)

-- a test of three words answers as p
pub record Tests (post : ℕ → ℕ → ℕ → Bool → Type 0) (p : ℕ → ℕ → ℕ → Bool) : Type 0 where
  pub value : (x y z : ℕ) (r : Bool) → x < 2 ^ 64 → y < 2 ^ 64 → z < 2 ^ 64 → post x y z r → r ≡ p x y z

-- where a test of two words answers false, p is false of them, whatever the third word is
pub record Spares (post : ℕ → ℕ → Bool → Type 0) (p : ℕ → ℕ → ℕ → Bool) : Type 0 where
  pub value : (x y z : ℕ) (r : Bool) → x < 2 ^ 64 → y < 2 ^ 64 → z < 2 ^ 64 → post y z r → r ≡ false → p x y z ≡ false

-- p is true at none of the first n
abbrev pub Never : (ℕ → Bool) → ℕ → Type 0
Never p n = (k : ℕ) → k < n → p k ≡ false

-- the first of n at which p is true, if there is one
abbrev pub First : (ℕ → Bool) → ℕ → Option ℕ → Type 0
First p n None = Never p n
First p n (Some r) = (r < n) × Never p r × (p r ≡ true)

-- what was shown of the columns' violations v is shown of them with the further ones u
abbrev pub Judged : (ℕ → List Failure) → ℕ → Noting → Noting → Type 0
Judged u count before after = (v : ℕ → List Failure) → Shows (lowest v count) before → Shows (lowest (λ k. v k ++ u k) count) after

-- ---- the lists of an instruction stand in its bytes

abbrev pub Held : Instruction → List ℕ → Type 0
Held (I.BxorMulti d n) bs = 9 + 4 * n ≤ length bs
Held (I.Hint id d i o) bs = 17 + 4 * (d + i + o) ≤ length bs
Held (I.Band a b c) bs = Unit {0}
Held (I.Bor a b c) bs = Unit {0}
Held (I.Bxor a b c) bs = Unit {0}
Held (I.Select a b c d) bs = Unit {0}
Held (I.Fax a b c d) bs = Unit {0}
Held (I.Shift a b c d) bs = Unit {0}
Held (I.IaddCinCout a b c d e) bs = Unit {0}
Held (I.IaddCarry a b c) bs = Unit {0}
Held (I.IsubBinBout a b c d e) bs = Unit {0}
Held (I.Imul a b c d) bs = Unit {0}
Held (I.Iadd32CinCout a b c d e) bs = Unit {0}
Held (I.Iadd32Cout a b c d) bs = Unit {0}
Held (I.AssertEq a b c) bs = Unit {0}
Held (I.AssertEqCond a b c d) bs = Unit {0}
Held (I.AssertZero a b) bs = Unit {0}
Held (I.AssertNonZero a b) bs = Unit {0}
Held (I.AssertFalse a b) bs = Unit {0}
Held (I.AssertTrue a b) bs = Unit {0}
