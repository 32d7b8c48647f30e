-- Laws of runs of stores. Assumes nothing.
use Prim.Native.Nat.{ℕ, suc, ◌+◌, ◌*◌, ◌/◌, ◌≤◌, ◌<◌}
use mathlib.Core.Path.{◌≡◌, ap, ◌∙◌}
use mathlib.Core.List.{List, [], ◌∷◌, ◌++◌, map, map-id, append_assoc, append-nil}
use mathlib.Core.Bool.{true}
use native.Mathlib.Omega.{arith}
use native.Mathlib.Nat.{add-zero}
use native.Mathlib.Numerals.{add-one}
use lib.ListN.{length, get_or, take, set, drop_of_length-le}
use lib.Seq.{sets, sets-eq, drop-drop, take-suc, take_all, length-sets, length-take-le}
use borrow.Rule.Slice.PartMut.{put_mid}
use Rattle.std.specs.Int.{to_le_bytes, w32}
use Rattle.common.specs.Lists.{all_below}
use Rattle.common.proofs.Below.{below_all}
use Rattle.bytecode.specs.Layout.{le, les}
use Rattle.bytecode.proofs.Words.{length-les, les_app}

-- a run of stores and one right after it are one run
sets_app : (a b l : List ℕ) (i j : ℕ) → j ≡ i + length a → sets (sets l i a) j b ≡ sets l i (a ++ b)
sets_app [] b l i j e = rw (e, add-zero)
sets_app (x ∷ a) b l i j e = sets_app a b (set l i x) (suc i) j (omega arith)

-- bytes that were written over a part are a run of stores
pub overwritten : (s w : List ℕ) (at k : ℕ) {w' : List ℕ} → at + length w ≤ length s → w' ≡ w → k ≡ length w → put_mid at k s w' ≡ sets s at w
overwritten s w at k {w'} h e n = rw (e, n, sets-eq w s at h, drop-drop, append_assoc)

-- the four bytes of a field
low_first : (x : ℕ) → to_le_bytes w32 x ≡ le 4 x
low_first x =
    let p : x / 65536 ≡ x / 256 / 256 = omega arith in
    let q : x / 16777216 ≡ x / 256 / 256 / 256 = omega arith in
    rw (p, q)

-- the loop that stores numbers in a row, before the i-th: those before it are one run of stores
pub record Putting (d ws : List ℕ) (buf : List ℕ) (i : ℕ) : Type 0 where
  pub stored : buf ≡ sets d 0 (les (take i ws))
  pub kept : length buf ≡ length d

module _ {d ws : List ℕ} {buf : List ℕ} {i : ℕ} (room : length d ≡ 4 * length ws) (p : Putting d ws buf i) where
  pub put_more : (k x : ℕ) {w' : List ℕ} → i < length ws → x ≡ get_or ws i x → w' ≡ to_le_bytes w32 x → k ≡ 4 → Putting d ws (put_mid (4 * i) k buf w') (i + 1)
  put_more k x h v e f =
      let g = overwritten buf (le 4 x) (4 * i) k (omega (arith, p.kept)) (e ∙ low_first x) f in
      record {
        stored =
            g
            ∙ rw p.stored
            (sets_app (les (take i ws)) (le 4 x) d 0 (4 * i) (omega (arith, length-les (take i ws), length-take-le i ws (omega arith)))
            ∙ rw (add-one, take-suc ws i x, ← v, les_app));
        kept = ap length g ∙ length-sets buf (4 * i) (le 4 x) ∙ p.kept;
      }

  pub put_done : length ws ≤ i → buf ≡ les ws
  put_done h =
      let all : length d ≤ 0 + length (les ws) = omega (arith, length-les ws) in
      p.stored
      ∙ rw (take_all i ws h, sets-eq (les ws) d 0 (omega (arith, length-les ws)), drop_of_length-le d all) (append-nil (les ws))

-- a byte, and what was written over all that was after it
pub headed : (s w : List ℕ) (x k : ℕ) {w' : List ℕ} → length s ≡ 1 + length w → w' ≡ w → k ≡ length w → put_mid 1 k (set s 0 x) w' ≡ x ∷ w
headed [] w x k h e n = absurd (omega arith)
headed (y ∷ s) w x k h e n =
    let all : length s ≤ length w = omega arith in
    rw (e, n, drop_of_length-le s all) (ap (λ (r : List ℕ). x ∷ r) (append-nil w))

-- u32s fit a field each
pub fields_fit : (xs : List ℕ) → ((i : ℕ) → get_or xs i 0 < 4294967296) → all_below 4294967296 (map (λ x. x) xs) ≡ true
fields_fit xs h = rw (map-id xs) (below_all 4294967296 xs (λ i l. h i))
