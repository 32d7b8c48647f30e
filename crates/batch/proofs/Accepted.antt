-- The destinations of an accepted program are below the rows, so it leaves the registers past them alone; and so what a run leaves in the array is,
-- column by column, each column's own run. Assumes nothing.
use Prim.Native.Nat.{ℕ, zero, suc, ◌+◌, ◌*◌, ◌/◌, ◌%◌, ◌<◌, ◌≤◌}
use mathlib.Core.Path.{◌≡◌, sym, ap, ap₂, ◌∙◌, subst, fun_ext}
use mathlib.Core.Bool.{Bool, true, false, cond}
use mathlib.Core.Logic.{⊎_elim}
use mathlib.Core.List.{List}
use native.Mathlib.Omega.{arith}
use native.Mathlib.Decide.{dec_lt}
use lib.ListN.{length, get_or, drop, length-drop}
use lib.Arith.{digits_div, digits_mod, digits_lt}
use borrow.Author.Tests.{not-false, ne_eqb}
use Rattle.common.specs.Lists.{all_below}
use Rattle.common.proofs.Bools.{both}
use Rattle.bytecode.specs.Instruction.{Inst}
use Rattle.bytecode.specs.Parse.{parse}
use Rattle.bytecode.specs.Program.{program_of}
use Rattle.bytecode.proofs.Tables.{settle}
use Rattle.bytecode.proofs.Programs.{program_next, program_empty, whole_within}
use Rattle.accept.specs.Check.{accepted, judged, bad_register, walk_from, check_of}
use Rattle.accept.proofs.Soundness.{faultless}
use Rattle.accept.proofs.Acceptance.{first_accepted, limits}
use Rattle.rows.specs.Column.{Col, column, tabulate, in_stripe, on_stripe}
use Rattle.rows.specs.Working.{Across}
use Rattle.rows.specs.declared.Stripe.{Stripe}
use Rattle.rows.proofs.Stripes.{column_at_lem, column_past, length-tabulate, get_d_tabulate, in_stripe_lem, below_stripe, above_stripe}
use Rattle.fill.proofs.Meanings.{Keeps, DestsBelow}

-- ---- the destinations of an accepted program are below the rows

judged_dests : (rows : ℕ) (i : Inst) → judged rows i ≡ accepted → all_below rows i.dests ≡ true
unfolding bad_register
judged_dests rows i e = (both (all_below rows i.dests) (all_below rows i.sources) (not-false _ (faultless rows i e).register)).0

walk_dests : (k rows : ℕ) (s : List ℕ) (at : ℕ) → length s ≤ k → walk_from k rows s at ≡ accepted → DestsBelow rows (program_of s)
unfolding walk_from
walk_dests zero rows s at h e = rw (program_empty s (omega arith)) tt
walk_dests (suc k) rows s at h e =
    settle (length s) 0
    (λ z. rw (program_empty s z) tt)
    (λ z.
    let f = first_accepted rows (parse s) at (λ n. walk_from k rows (drop n s) (at + n)) (rw (ne_eqb (length s) 0 z) at e) in
    let n = f.1 in
    rw (program_next s f.0 n f.2) (
      judged_dests rows f.0 f.3,
      walk_dests k rows (drop n s) (at + n) (omega (arith, whole_within s f.0 n f.2, length-drop n s)) f.4,
    ))

pub checked_dests : (s : List ℕ) (rows : ℕ) → check_of s rows ≡ accepted → DestsBelow rows (program_of s)
checked_dests s rows e = walk_dests (length s) rows s 0 (omega arith) (limits s rows e).2

-- ---- where the registers past the rows are left alone, `on_stripe` is `Across`: each column of the stripe is its own run, every other one as it was

module _ (F : Col → Col) (s : Stripe) (xs : List ℕ) (size : length xs ≡ s.rows * s.width) (keeps : Keeps s.rows F) where
  abbrev on : List ℕ
  on = on_stripe F s.rows s.width s.first s.count xs

  abbrev col : ℕ → Col
  col c = column s.rows s.width xs c

  on_column : (c : ℕ) → c < s.width → (r : ℕ)
      → column s.rows s.width on c r ≡ cond (in_stripe s.first s.count c) (F (col c) r) (col c r)
  unfolding on_stripe
  on_column c h r = go (dec_lt r s.rows)
    where
      word : ℕ → ℕ
      word k = cond (in_stripe s.first s.count (k % s.width)) (F (col (k % s.width)) (k / s.width)) (get_or xs k 0)

      same : (b : Bool) (x y : ℕ) → x ≡ 0 → y ≡ 0 → 0 ≡ cond b x y
      same true x y e f = sym e
      same false x y e f = sym f

      go : Dec (r < s.rows) → column s.rows s.width (tabulate (length xs) word) c r ≡ cond (in_stripe s.first s.count c) (F (col c) r) (col c r)
      go (yes l) =
          column_at_lem s.width (tabulate (length xs) word) c l
          ∙ get_d_tabulate (length xs) word (r * s.width + c) (subst (λ n. r * s.width + c < n) (sym size) (digits_lt l h))
          ∙ ap₂ (λ d q. cond (in_stripe s.first s.count d) (F (col d) q) (get_or xs (r * s.width + c) 0)) (digits_mod r h) (digits_div r h)
          ∙ ap (λ x. cond (in_stripe s.first s.count c) (F (col c) r) x) (sym (column_at_lem s.width xs c l))
      go (no n) =
          let more : s.rows ≤ r = omega arith in
          let nil : col c r ≡ 0 = column_past s.width xs c more in
          column_past s.width (tabulate (length xs) word) c more
          ∙ same (in_stripe s.first s.count c) (F (col c) r) (col c r) (keeps (col c) r more ∙ nil) nil

  pub on_across : Across F s xs on
  unfolding on_stripe
  on_across = record {
    size = length-tabulate (length xs) _;
    inside = λ k h. fun_ext λ r. on_column (s.first + k) (omega (arith, s.within)) r ∙ ap (λ b. cond b (F (col (s.first + k)) r) (col (s.first + k) r)) (in_stripe_lem s.first s.count k h);
    outside = λ c h o. fun_ext λ r. on_column c h r ∙ ap (λ b. cond b (F (col c) r) (col c r)) (⊎_elim (λ b. below_stripe s.first s.count c b) (λ b. above_stripe s.first s.count c b) o);
  }
