-- Laws of the tests on lists of numbers. Assumes nothing.
use Prim.Native.Nat.{ℕ, zero, suc, ◌≤◌, ◌<◌}
use mathlib.Core.Path.{◌≡◌, refl}
use mathlib.Core.List.{List, [], ◌∷◌, ◌++◌}
use mathlib.Core.Bool.{Bool, true, false, ◌&&◌, ◌||◌}
use native.Mathlib.Omega.{arith}
use borrow.Author.Tests.{lt-ltb, le-ltb, ltb-true, ltb-false, eq-eqb, eqb-true}
use lib.Dec.{ltb, eqb}
use lib.ListN.{length, get_or}
use Rattle.common.specs.Lists.{member, all_below}
use Rattle.common.proofs.Bools.{both, or_second, and_second}

-- ---- every number of a list is below n

pub below_head : (n x : ℕ) (xs : List ℕ) → all_below n (x ∷ xs) ≡ true → x < n
below_head n x xs e = ltb-true x n (both (ltb x n) (all_below n xs) e).0

pub below_tail : (n x : ℕ) (xs : List ℕ) → all_below n (x ∷ xs) ≡ true → all_below n xs ≡ true
below_tail n x xs e = (both (ltb x n) (all_below n xs) e).1

pub below-cons : (n x : ℕ) (xs : List ℕ) → x < n → all_below n xs ≡ true → all_below n (x ∷ xs) ≡ true
below-cons n x xs h e = rw (lt-ltb x n h) e

-- one by one
pub below_at : (n : ℕ) (xs : List ℕ) (i : ℕ) → all_below n xs ≡ true → i < length xs → get_or xs i 0 < n
below_at n [] i e h = absurd (omega arith)
below_at n (x ∷ xs) zero e h = below_head n x xs e
below_at n (x ∷ xs) (suc i) e h = below_at n xs i (below_tail n x xs e) (omega arith)

pub below_all : (n : ℕ) (xs : List ℕ) → ((i : ℕ) → i < length xs → get_or xs i 0 < n) → all_below n xs ≡ true
below_all n [] h = refl
below_all n (x ∷ xs) h = below-cons n x xs (h 0 (omega arith)) (below_all n xs (λ i l. h (suc i) (omega arith)))

pub below_more : (m n : ℕ) (xs : List ℕ) → m ≤ n → all_below m xs ≡ true → all_below n xs ≡ true
below_more m n [] h e = refl
below_more m n (x ∷ xs) h e = below-cons n x xs (omega (arith, below_head m x xs e)) (below_more m n xs h (below_tail m x xs e))

pub below-append : (n : ℕ) (xs ys : List ℕ) → all_below n xs ≡ true → all_below n ys ≡ true → all_below n (xs ++ ys) ≡ true
below-append n [] ys e f = f
below-append n (x ∷ xs) ys e f = below-cons n x (xs ++ ys) (below_head n x xs e) (below-append n xs ys (below_tail n x xs e) f)

pub below_split : (n : ℕ) (xs ys : List ℕ) → all_below n (xs ++ ys) ≡ true → (all_below n xs ≡ true) × (all_below n ys ≡ true)
below_split n [] ys e = (refl, e)
below_split n (x ∷ xs) ys e =
    let r = below_split n xs ys (below_tail n x (xs ++ ys) e) in
    (below-cons n x xs (below_head n x (xs ++ ys) e) r.0, r.1)

-- ---- a number stands in a list

pub member-at : (x : ℕ) (xs : List ℕ) → member x xs ≡ true → (k : ℕ) × (k < length xs) × (get_or xs k 0 ≡ x)
member-at x [] e = let z : ◌≡◌ {A = ℕ} 0 1 = cc in absurd (omega arith)
member-at x (y ∷ ys) e = go (eqb y x) refl e (member-at x ys)
  where
    go : (t : Bool) → eqb y x ≡ t → (t || member x ys) ≡ true → (member x ys ≡ true → (k : ℕ) × (k < length ys) × (get_or ys k 0 ≡ x)) → (k : ℕ) × (k < suc (length ys)) × (get_or (y ∷ ys) k 0 ≡ x)
    go true t e rec = (0, omega arith, eqb-true y x t)
    go false t e rec = let r = rec e in (suc r.0, omega (arith, r.1), r.2)

pub at-member : (x : ℕ) (xs : List ℕ) (k : ℕ) → k < length xs → get_or xs k 0 ≡ x → member x xs ≡ true
at-member x [] k h e = absurd (omega arith)
at-member x (y ∷ ys) zero h e = rw (eq-eqb y x e)
at-member x (y ∷ ys) (suc k) h e = or_second (eqb y x) (member x ys) (at-member x ys k (omega arith) e)

-- ---- a number of the list that is not below n

pub below-not : (n : ℕ) (xs : List ℕ) (x : ℕ) → member x xs ≡ true → n ≤ x → all_below n xs ≡ false
below-not n [] x e h = let z : ◌≡◌ {A = ℕ} 0 1 = cc in absurd (omega arith)
below-not n (y ∷ ys) x e h = go (eqb y x) refl e (below-not n ys x)
  where
    go : (t : Bool) → eqb y x ≡ t → (t || member x ys) ≡ true → (member x ys ≡ true → n ≤ x → all_below n ys ≡ false) → (ltb y n && all_below n ys) ≡ false
    go true t e rec = rw (le-ltb y n (omega (arith, eqb-true y x t)))
    go false t e rec = and_second (ltb y n) (all_below n ys) (rec e h)

pub not-below : (n : ℕ) (xs : List ℕ) → all_below n xs ≡ false → (x : ℕ) × (member x xs ≡ true) × (n ≤ x)
not-below n [] e = let z : ◌≡◌ {A = ℕ} 0 1 = cc in absurd (omega arith)
not-below n (y ∷ ys) e = go (ltb y n) refl e (not-below n ys)
  where
    go : (t : Bool) → ltb y n ≡ t → (t && all_below n ys) ≡ false → (all_below n ys ≡ false → (x : ℕ) × (member x ys ≡ true) × (n ≤ x)) → (x : ℕ) × ((eqb y x || member x ys) ≡ true) × (n ≤ x)
    go true t e rec = let r = rec e in (r.0, or_second (eqb y r.0) (member r.0 ys) r.1, r.2)
    go false t e rec = (y, rw (eq-eqb y y refl), ltb-false y n t)

pub below-append-is : (n : ℕ) (xs ys : List ℕ) → all_below n (xs ++ ys) ≡ (all_below n xs && all_below n ys)
below-append-is n [] ys = refl
below-append-is n (x ∷ xs) ys = go (ltb x n) (below-append-is n xs ys)
  where
    go : (t : Bool) → all_below n (xs ++ ys) ≡ (all_below n xs && all_below n ys) → (t && all_below n (xs ++ ys)) ≡ (t && all_below n xs && all_below n ys)
    go true e = e
    go false e = refl
