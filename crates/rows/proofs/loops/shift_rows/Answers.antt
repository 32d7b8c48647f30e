-- `rows::loops::shift_rows` meets its contract: each arm's calls shift by the variant that the code names. Assumes nothing.
use Rattle.std.proofs.Common.{rules, arith, ℕ, zero, suc, ◌≡◌, ◌≤◌, List, [], ◌∷◌, ◌++◌, length, get_or, refl}
use Rattle.shift.specs.Variant.{shift_word, variant_of}
use Rattle.shift.specs.declared.ShiftVariant.TheVariants.{Sll, Slr, Sar, Rotr, Sll32, Srl32, Sra32, Rotr32}
use Rattle.rows.proofs.loops.shift_rows.Goals as goal

-- the last of a list is also what stands past its end
at_last {ℓ} : {A : Type ℓ} (xs : List A) (d : A) (k : ℕ) → length xs ≤ k → get_or (xs ++ d ∷ []) k d ≡ d
at_last [] d zero h = refl
at_last [] d (suc k) h = refl
at_last (x ∷ xs) d zero h = absurd (omega arith)
at_last (x ∷ xs) d (suc k) h = at_last xs d k (omega arith)

-- a code that is none of the first seven has the last variant
last_variant : (k : ℕ) → 7 ≤ k → variant_of k ≡ Rotr32
last_variant k h = at_last (Sll ∷ Slr ∷ Sar ∷ Rotr ∷ Sll32 ∷ Srl32 ∷ Sra32 ∷ []) Rotr32 k h

abbrev shifted : ℕ → ℕ → ℕ → ℕ → ℕ → ℕ
shifted code n x y z = shift_word (variant_of code) n x

pub returns-in-0 : goal.returns-in-0
returns-in-0 c = c.one_row.ensures (shifted c.args.code c.args.n) (search rules)

pub returns-in-1 : goal.returns-in-1
returns-in-1 c = c.one_row-in-1.ensures (shifted c.args.code c.args.n) (search rules)

pub returns-in-2 : goal.returns-in-2
returns-in-2 c = c.one_row-in-2.ensures (shifted c.args.code c.args.n) (search rules)

pub returns-in-3 : goal.returns-in-3
returns-in-3 c = c.one_row-in-3.ensures (shifted c.args.code c.args.n) (search rules)

pub returns-in-4 : goal.returns-in-4
returns-in-4 c = c.one_row-in-4.ensures (shifted c.args.code c.args.n) (search rules)

pub returns-in-5 : goal.returns-in-5
returns-in-5 c = c.one_row-in-5.ensures (shifted c.args.code c.args.n) (search rules)

pub returns-in-6 : goal.returns-in-6
returns-in-6 c = c.one_row-in-6.ensures (shifted c.args.code c.args.n) (search rules)

pub returns-in_default : goal.returns-in_default
returns-in_default c = rw (last_variant c.args.code (omega arith)) (c.one_row-in_default.ensures (shifted 7 c.args.n) (search rules))
