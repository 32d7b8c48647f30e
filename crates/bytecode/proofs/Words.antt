-- Laws of u32 fields that are read from bytes. Assumes nothing.
use Prim.Native.Nat.{ℕ, suc, ◌+◌, ◌*◌, ◌≤◌}
use mathlib.Core.Path.{◌≡◌, refl, ap}
use mathlib.Core.List.{List, [], ◌∷◌, ◌++◌}
use native.Mathlib.Omega.{arith}
use lib.ListN.{length, get_or, get_or-eq_default}
use Rattle.bytecode.specs.Layout.{word_at, words, le, les}

-- past the end every byte and every word reads 0
pub byte_past : (s : List ℕ) (at : ℕ) → length s ≤ at → get_or s at 0 ≡ 0
byte_past s at h = get_or-eq_default s 0 h

pub word_past : (s : List ℕ) (at : ℕ) → length s ≤ at → word_at s at ≡ 0
unfolding word_at
word_past s at h =
    omega (arith, byte_past s at h, byte_past s (at + 1) (omega arith), byte_past s (at + 2) (omega arith), byte_past s (at + 3) (omega arith))

pub length-words : (s : List ℕ) (at n : ℕ) → length (words s at n) ≡ n
length-words s at ℕ.zero = refl
length-words s at (suc n) = ap suc (length-words s (at + 4) n)

-- ---- fields written

pub length-les : (xs : List ℕ) → length (les xs) ≡ 4 * length xs
length-les [] = refl
length-les (x ∷ xs) = omega (arith, length-les xs)

pub les_app : (a b : List ℕ) → les (a ++ b) ≡ les a ++ les b
les_app [] b = refl
les_app (x ∷ a) b = ap (λ (r : List ℕ). le 4 x ++ r) (les_app a b)
