-- `spans` says what its name says: from the first gate that mentions a wire to the last one. Assumes nothing.
use mathlib.Core.Path.{◌≡◌, refl, sym, ◌∙◌}
use mathlib.Core.Bool.{Bool, true, false, cond, ◌&&◌, ◌||◌, or-true, and-true, and-false}
use mathlib.Core.List.{List, [], ◌∷◌}
use Prim.Native.Nat.{ℕ, zero, suc}
use lib.ListN.{take, drop}
use lib.Dec.{leb, leb-zero, leb-suc-zero, leb-suc-suc}
use Rattle.common.specs.Lists.{member}
use Rattle.scratch.specs.Gates.{mentioned, spans}

-- the number of the first gate that mentions w, and of the last
abbrev pub first_of : List (List ℕ) → ℕ → ℕ
first_of [] w = 0
first_of (gate ∷ gates) w = cond (member w gate) 0 (suc (first_of gates w))

abbrev pub last_of : List (List ℕ) → ℕ → ℕ
last_of [] w = 0
last_of (gate ∷ gates) w = cond (mentioned gates w) (suc (last_of gates w)) 0

from_first : (gates : List (List ℕ)) (k w : ℕ) → mentioned (take (suc k) gates) w ≡ (mentioned gates w && leb (first_of gates w) k)
from_first [] k w = refl
from_first (gate ∷ gates) zero w = go (member w gate)
  where
    go : (b : Bool) → (b || false) ≡ ((b || mentioned gates w) && leb (cond b 0 (suc (first_of gates w))) 0)
    go true = refl
    go false = rw (leb-suc-zero (first_of gates w), and-false)
from_first (gate ∷ gates) (suc k) w = go (member w gate) (from_first gates k w)
  where
    go : (b : Bool) → mentioned (take (suc k) gates) w ≡ (mentioned gates w && leb (first_of gates w) k)
        → (b || mentioned (take (suc k) gates) w) ≡ ((b || mentioned gates w) && leb (cond b 0 (suc (first_of gates w))) (suc k))
    go true e = sym (leb-zero (suc k))
    go false e = rw leb-suc-suc e

to_last : (gates : List (List ℕ)) (k w : ℕ) → mentioned (drop k gates) w ≡ (mentioned gates w && leb k (last_of gates w))
to_last gates zero w = rw (leb-zero (last_of gates w), and-true)
to_last [] (suc k) w = refl
to_last (gate ∷ gates) (suc k) w = to_last gates k w ∙ go (mentioned gates w)
  where
    go : (b : Bool) → (b && leb k (last_of gates w)) ≡ ((member w gate || b) && leb (suc k) (cond b (suc (last_of gates w)) 0))
    go true = rw (or-true, leb-suc-suc)
    go false = rw (leb-suc-zero, and-false)

pub spans_is : (gates : List (List ℕ)) (k w : ℕ) → mentioned gates w ≡ true → spans gates k w ≡ (leb (first_of gates w) k && leb k (last_of gates w))
spans_is gates k w m = rw (from_first gates k w, to_last gates k w, m)

pub spans-not : (gates : List (List ℕ)) (k w : ℕ) → mentioned gates w ≡ false → spans gates k w ≡ false
spans-not gates k w m = rw (from_first gates k w, m)
