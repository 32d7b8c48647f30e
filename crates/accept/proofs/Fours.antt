-- Registers as slices of four bytes each: the numbers that they are, and the tests of them. Assumes nothing.
use Prim.Native.Nat.{ℕ, suc, ◌+◌, ◌*◌, ◌-◌, ◌/◌, ◌≤◌}
use mathlib.Core.Path.{◌≡◌, refl, ap, ap₂}
use mathlib.Core.List.{List, [], ◌∷◌}
use mathlib.Core.Bool.{Bool, ◌&&◌, ◌||◌}
use native.Mathlib.Omega.{arith}
use lib.Dec.{eqb, ltb}
use lib.ListN.{length, get_or, take, drop, length-drop}
use lib.Seq.{length-take-le}
use Rattle.std.specs.Int.{w32, from_le_bytes}
use Rattle.std.specs.Simd.{first_chunks}
use Rattle.std.specs.List.{list_any, list_all}
use Rattle.common.specs.Lists.{member, all_below}
use Rattle.bytecode.specs.Layout.{word_at, words}
use Rattle.bytecode.proofs.BytesBack.{drop_next}
use Rattle.accept.specs.Working.{numbers}

number_of_four : (a b c d : ℕ) → from_le_bytes w32 (a ∷ b ∷ c ∷ d ∷ []) ≡ a + 256 * b + 65536 * c + 16777216 * d
number_of_four a b c d = omega arith

-- four bytes at a time from a place on are the fields there
chunks_words : (s : List ℕ) (at n : ℕ) → at + 4 * n ≤ length s → numbers (first_chunks 4 n (take (4 * n) (drop at s))) ≡ words s at n
unfolding word_at
chunks_words s at ℕ.zero h = refl
chunks_words s at (suc n) h =
    let q : drop at s ≡ get_or s at 0 ∷ get_or s (at + 1) 0 ∷ get_or s (at + 2) 0 ∷ get_or s (at + 3) 0 ∷ drop (at + 4) s =
    rw (
      drop_next s at (at + 1) (omega arith) (omega arith),
      drop_next s (at + 1) (at + 2) (omega arith) (omega arith),
      drop_next s (at + 2) (at + 3) (omega arith) (omega arith),
      drop_next s (at + 3) (at + 4) (omega arith) (omega arith),
    ) in
    let e : 4 * suc n ≡ suc (suc (suc (suc (4 * n)))) = omega arith in
    rw (e, q)
    (ap₂ ◌∷◌ (number_of_four (get_or s at 0) (get_or s (at + 1) 0) (get_or s (at + 2) 0) (get_or s (at + 3) 0)) (chunks_words s (at + 4) n (omega arith)))

-- as `registers` takes them
pub slice_words : (s : List ℕ) (at n : ℕ) → at + 4 * n ≤ length s
    → numbers (first_chunks 4 (length (take (at + 4 * n - at) (drop at s)) / 4) (take (at + 4 * n - at) (drop at s))) ≡ words s at n
slice_words s at n h =
    let d : at + 4 * n - at ≡ 4 * n = omega arith in
    let l : length (take (4 * n) (drop at s)) ≡ 4 * n = length-take-le (4 * n) (drop at s) (omega (arith, length-drop at s)) in
    let q : 4 * n / 4 ≡ n = omega arith in
    rw (d, l, q) (chunks_words s at n h)

pub any_member : (x : ℕ) (rs : List (List ℕ)) → list_any (λ r. eqb (from_le_bytes w32 r) x) rs ≡ member x (numbers rs)
any_member x [] = refl
any_member x (r ∷ rs) = ap (λ (b : Bool). eqb (from_le_bytes w32 r) x || b) (any_member x rs)

pub all_below_lem : (n : ℕ) (rs : List (List ℕ)) → list_all (λ r. ltb (from_le_bytes w32 r) n) rs ≡ all_below n (numbers rs)
all_below_lem n [] = refl
all_below_lem n (r ∷ rs) = ap (λ (b : Bool). ltb (from_le_bytes w32 r) n && b) (all_below_lem n rs)
