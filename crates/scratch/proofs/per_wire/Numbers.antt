-- The numbering of PerWire: what it comes to, and one wire of the loop at a time. Assumes nothing.
use mathlib.Core.Path.{◌≡◌, refl, sym, ap, ◌∙◌, subst₂}
use mathlib.Core.Bool.{Bool, true, false, not, cond, true≢false}
use mathlib.Core.List.{List, [], ◌∷◌, ◌++◌, append_assoc}
use Prim.Native.Nat.{ℕ, zero, suc, ◌+◌, ◌-◌, ◌≤◌, ◌<◌}
use native.Mathlib.Numerals.{add-one}
use native.Mathlib.Omega.{arith}
use lib.ListN.{length, get_or, set, take, drop}
use lib.Seq.{drop-cons, take-suc-set}
use lib.Dec.{eqb}
use borrow.Author.Tests.{not-true}
use Rattle.scratch.specs.Gates.{scratch, among}
use Rattle.scratch.specs.Policies.{unslotted, per_wire}
use Rattle.scratch.proofs.Count.{length-among, count-le, count_shift}

-- what is written so far and what is to come
abbrev pub Numbered : List ℕ → List ℕ → ℕ → ℕ → Type 0
Numbered marks slots i next =
    (take i slots ++ per_wire next (drop i marks) ≡ per_wire 0 marks)
    × (next + length (among (scratch marks) i (length marks - i)) ≡ length (among (scratch marks) 0 (length marks)))

unmarked : (b : Bool) → not b ≡ false → b ≡ true
unmarked true e = refl
unmarked false e = absurd (true≢false e)

module _ (marks slots : List ℕ) (i next : ℕ) (h : i < length marks) (l : i < length slots) (t : Numbered marks slots i next) where
  written : (v next' : ℕ) → per_wire next (drop i marks) ≡ v ∷ per_wire next' (drop (i + 1) marks) → take (i + 1) (set slots i v) ++ per_wire next' (drop (i + 1) marks) ≡ per_wire 0 marks
  written v next' e =
      ap (λ (k : ℕ). take k (set slots i v) ++ per_wire next' (drop (i + 1) marks)) (add-one i)
      ∙ ap (λ (x : List ℕ). x ++ per_wire next' (drop (i + 1) marks)) (take-suc-set slots i v l)
      ∙ append_assoc (take i slots) (v ∷ []) (per_wire next' (drop (i + 1) marks))
      ∙ ap (λ (x : List ℕ). take i slots ++ x) (sym e)
      ∙ t.0

  head_of : drop i marks ≡ get_or marks i 0 ∷ drop (i + 1) marks
  head_of = rw add-one (drop-cons marks i 0 h)

  among_of : among (scratch marks) i (length marks - i) ≡ cond (scratch marks i) (i ∷ among (scratch marks) (i + 1) (length marks - (i + 1))) (among (scratch marks) (i + 1) (length marks - (i + 1)))
  among_of = let e : length marks - i ≡ suc (length marks - (i + 1)) = omega arith in rw (e, add-one)

  pub number_none : scratch marks i ≡ false → Numbered marks (set slots i unslotted) (i + 1) next
  number_none e = (
    (let z : eqb (get_or marks i 0) 0 ≡ true = unmarked (eqb (get_or marks i 0) 0) e in written unslotted next (ap (per_wire next) head_of ∙ rw z)),
    (let a : among (scratch marks) i (length marks - i) ≡ among (scratch marks) (i + 1) (length marks - (i + 1)) = among_of ∙ rw e in omega (arith, ap length a, t.1)),
  )

  pub number_next : scratch marks i ≡ true → Numbered marks (set slots i next) (i + 1) (next + 1)
  number_next d = (
    written next (next + 1) (ap (per_wire next) head_of ∙ rw (not-true (eqb (get_or marks i 0) 0) d) (ap (λ (k : ℕ). next ∷ per_wire k (drop (i + 1) marks)) (sym (add-one next)))),
    (let a : among (scratch marks) i (length marks - i) ≡ i ∷ among (scratch marks) (i + 1) (length marks - (i + 1)) = among_of ∙ rw d in
        omega (arith, ap length a, t.1)),
  )

pub number_small : (marks slots : List ℕ) (i next : ℕ) → Numbered marks slots i next → next ≤ length marks
number_small marks slots i next t = omega (arith, t.1, length-among (scratch marks) 0 (length marks), count-le (scratch marks) 0 (length marks))

pub number_as : (marks slots slots' : List ℕ) (i next next' : ℕ) → slots ≡ slots' → next ≡ next' → Numbered marks slots' i next' → Numbered marks slots i next
number_as marks slots slots' i next next' e f t = subst₂ (λ (s : List ℕ) (n : ℕ). Numbered marks s i n) (sym e) (sym f) t

-- the slot of a marked wire is how many marked wires lie below it
pub per_wire_slot : (next : ℕ) (marks : List ℕ) (w : ℕ) → w < length marks → get_or (per_wire next marks) w 0 ≡ cond (scratch marks w) (next + length (among (scratch marks) 0 w)) unslotted
per_wire_slot next [] w l = absurd (omega arith)
per_wire_slot next (mark ∷ marks) zero l = go (eqb mark 0)
  where
    go : (b : Bool) → get_or (cond b (unslotted ∷ per_wire next marks) (next ∷ per_wire (suc next) marks)) 0 0 ≡ cond (not b) (next + 0) unslotted
    go true = refl
    go false = omega arith
per_wire_slot next (mark ∷ marks) (suc w) l =
    go (eqb mark 0) (among (scratch (mark ∷ marks)) 1 w) below (per_wire_slot next marks w (omega arith)) (per_wire_slot (suc next) marks w (omega arith))
  where
    below : length (among (scratch (mark ∷ marks)) 1 w) ≡ length (among (scratch marks) 0 w)
    below = length-among (scratch (mark ∷ marks)) 1 w ∙ count_shift (scratch (mark ∷ marks)) 0 w ∙ sym (length-among (scratch marks) 0 w)

    same : (b : Bool) (x y : ℕ) → x ≡ y → cond b x unslotted ≡ cond b y unslotted
    same b x y e = ap (λ (n : ℕ). cond b n unslotted) e

    go : (b : Bool) (r : List ℕ) → length r ≡ length (among (scratch marks) 0 w)
        → get_or (per_wire next marks) w 0 ≡ cond (scratch marks w) (next + length (among (scratch marks) 0 w)) unslotted
        → get_or (per_wire (suc next) marks) w 0 ≡ cond (scratch marks w) (suc next + length (among (scratch marks) 0 w)) unslotted
        → get_or (cond b (unslotted ∷ per_wire next marks) (next ∷ per_wire (suc next) marks)) (suc w) 0 ≡ cond (scratch marks w) (next + length (cond (not b) (0 ∷ r) r)) unslotted
    go true r e here there = here ∙ same (scratch marks w) _ _ (omega arith)
    go false r e here there = there ∙ same (scratch marks w) _ _ (omega arith)

pub per_wire-length : (next : ℕ) (marks : List ℕ) → length (per_wire next marks) ≡ length marks
per_wire-length next [] = refl
per_wire-length next (mark ∷ marks) = go (eqb mark 0) (per_wire-length next marks) (per_wire-length (suc next) marks)
  where
    go : (b : Bool) → length (per_wire next marks) ≡ length marks → length (per_wire (suc next) marks) ≡ length marks
        → length (cond b (unslotted ∷ per_wire next marks) (next ∷ per_wire (suc next) marks)) ≡ suc (length marks)
    go true e f = ap suc e
    go false e f = ap suc f
