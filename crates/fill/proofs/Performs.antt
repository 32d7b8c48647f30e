-- What a checked instruction gives to the row loops: its registers are rows, its amount fits, and a hint is one of the three. Assumes nothing.
use mathlib.Core.Path.{◌≡◌, refl, sym, ap, ◌∙◌}
use mathlib.Core.Bool.{true, false}
use mathlib.Core.List.{List, [], ◌∷◌}
use Prim.Native.Nat.{ℕ, ◌+◌, ◌*◌, ◌-◌, ◌<◌, ◌≤◌}
use native.Mathlib.Decide.{dec_lt}
use native.Mathlib.Omega.{arith}
use lib.ListN.{length, take, drop}
use borrow.Author.Tests.{lt-ltb, le-ltb}
use Rattle.common.specs.Lists.{all_below}
use Rattle.common.proofs.Below.{below_head, below_tail}
use Rattle.shift.specs.Variant.{width_of, variant_of, bad_amount}
use Rattle.shift.proofs.Codes.{let_by}
use Rattle.bytecode.specs.Layout.{words}
use Rattle.bytecode.specs.Instruction.{inst}
use Rattle.bytecode.specs.declared.instruction.Instruction.{Instruction}
use Rattle.bytecode.specs.declared.instruction.Instruction.TheVariants as I
use Rattle.bytecode.proofs.Words.{length-words}
use Rattle.accept.specs.Sound.{Sound, Listed, divide, leading_zeros, mirror, FittingAmount}
use Rattle.rows.specs.declared.Stripe.{Stripe}
use Rattle.rows.proofs.Stripes.{InRows, in_row}
use Rattle.rows.proofs.Columns.{words_of_part}

-- ---- registers

pub rows_in : (s : Stripe) {n : ℕ} → n ≡ s.rows * s.width → (rs : List ℕ) → all_below s.rows rs ≡ true → InRows s n rs
rows_in s e [] b = tt
rows_in s e (r ∷ rs) b = (in_row s e (below_head s.rows r rs b), rows_in s e rs (below_tail s.rows r rs b))

-- the destinations and the sources of a checked instruction, which is j, as the row loops ask for them
pub registers_in : (s : Stripe) (n : ℕ) (code : List ℕ) (i j : Instruction) → i ≡ j → n ≡ s.rows * s.width → Sound s.rows (inst code i)
    → InRows s n (inst code j).dests × InRows s n (inst code j).sources
registers_in s n code i j is whole sound =
    let S = rw is at sound in (rows_in s whole (inst code j).dests S.dests_below, rows_in s whole (inst code j).sources S.sources_below)

-- ---- a shift's amount

pub amount_under : (v n : ℕ) → v ≤ 7 → FittingAmount v n → n < width_of (variant_of v)
amount_under v n h f = let_by v n (le-ltb 7 v h) (go (dec_lt v 4))
  where
    go : Dec (v < 4) → bad_amount v n ≡ false
    go (yes l) = rw (lt-ltb v 4 l) (le-ltb 63 n f.0)
    go (no m) = rw (le-ltb v 4 (omega arith)) (le-ltb 31 n (f.1 (omega arith)))

-- ---- hints

listed_1 : {id : ℕ} {ds : List ℕ} {i o : ℕ} → Listed id ds i o → id ≡ 1 → (length ds ≡ 0) × (i ≡ 2) × (o ≡ 2)
listed_1 divide e = (refl, refl, refl)
listed_1 leading_zeros e = absurd (omega arith)
listed_1 (mirror k a b) e = absurd (omega arith)

listed_2 : {id : ℕ} {ds : List ℕ} {i o : ℕ} → Listed id ds i o → id ≡ 2 → (length ds ≡ 0) × (i ≡ 1) × (o ≡ 1)
listed_2 divide e = absurd (omega arith)
listed_2 leading_zeros e = (refl, refl, refl)
listed_2 (mirror k a b) e = absurd (omega arith)

listed_3 : {id : ℕ} {ds : List ℕ} {i o : ℕ} → Listed id ds i o → (id ≡ 1 → ⊥) → (id ≡ 2 → ⊥) → (id ≡ 3) × (length ds ≡ 1) × (o ≡ i)
listed_3 divide n m = absurd (n refl)
listed_3 leading_zeros n m = absurd (m refl)
listed_3 (mirror k a b) n m = (refl, refl, refl)

module _ {rows : ℕ} (code : List ℕ) (id d i o : ℕ) (s : Sound rows (inst code (I.Hint id d i o))) where
  listed : Listed id (words code 9 d) i o
  unfolding inst
  listed = rw (length-words code (17 + 4 * d) i, length-words code (17 + 4 * (d + i)) o) at (s.hint refl)

  pub hint_1 : id ≡ 1 → I.Hint id d i o ≡ I.Hint 1 0 2 2
  hint_1 e =
      let l = listed_1 listed e in
      let z : d ≡ 0 = sym (length-words code 9 d) ∙ l.0 in
      λ j. I.Hint (e j) (z j) (l.1 j) (l.2 j)

  pub hint_2 : id ≡ 2 → I.Hint id d i o ≡ I.Hint 2 0 1 1
  hint_2 e =
      let l = listed_2 listed e in
      let z : d ≡ 0 = sym (length-words code 9 d) ∙ l.0 in
      λ j. I.Hint (e j) (z j) (l.1 j) (l.2 j)

  pub hint_3 : (id ≡ 1 → ⊥) → (id ≡ 2 → ⊥) → I.Hint id d i o ≡ I.Hint 3 1 i i
  hint_3 n m =
      let l = listed_3 listed n m in
      let z : d ≡ 1 = sym (length-words code 9 d) ∙ l.1 in
      λ j. I.Hint (l.0 j) (z j) i (l.2 j)

-- the inputs and the outputs of hint 3 as parts of the bytes
pub inputs_part : (code : List ℕ) (k : ℕ) → words (take (21 + 4 * k - 21) (drop 21 code)) 0 k ≡ words code 21 k
inputs_part code k = words_of_part code (21 + 4 * k - 21) 21 0 k (omega arith)

pub outputs_part : (code : List ℕ) (k : ℕ) → words (take (21 + 8 * k - (21 + 4 * k)) (drop (21 + 4 * k) code)) 0 k ≡ words code (17 + 4 * (1 + k)) k
outputs_part code k =
    let place : 21 + 4 * k + 0 ≡ 17 + 4 * (1 + k) = omega arith in
    words_of_part code (21 + 8 * k - (21 + 4 * k)) (21 + 4 * k) 0 k (omega arith) ∙ ap (λ at. words code at k) place
