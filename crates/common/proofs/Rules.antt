-- A list of tests in number order, of which the first that holds decides, gives the lowest number. Assumes nothing.
use Prim.Native.Nat.{ℕ, suc, ◌<◌}
use mathlib.Core.Path.{◌≡◌, refl, subst}
use mathlib.Core.Logic.{◌↔◌}
use mathlib.Core.List.{List, [], ◌∷◌, ◌++◌}
use mathlib.Core.Bool.{Bool, true, false, cond, ◌&&◌, ◌||◌, and-false}
use native.Mathlib.Omega.{arith}
use borrow.Author.Tests.{eqb-true, eq-eqb, ne_eqb, ltb-true, ltb-false, leb-true}
use lib.Dec.{eqb, ltb, leb}
use lib.ListN.{get_or}
use Rattle.common.specs.Order.{Lowest}
use Rattle.common.proofs.Bools.{differ, fails, both, or_second}

pub record Rule : Type 0 where
  pub number : ℕ
  pub test : Bool

abbrev pub rule : ℕ → Bool → Rule
rule n t = record { number = n; test = t }

-- the number of the first rule whose test holds, 0 where none does
abbrev pub first_of : List Rule → ℕ
first_of [] = 0
first_of (r ∷ rs) = cond r.test r.number (first_of rs)

-- a rule of this number holds
abbrev pub holds : List Rule → ℕ → Bool
holds [] k = false
holds (r ∷ rs) k = (eqb r.number k && r.test) || holds rs k

-- the numbers rise from n on; two rules may have one number
abbrev pub rising : ℕ → List Rule → Bool
rising n [] = true
rising n (r ∷ rs) = leb n r.number && rising r.number rs

-- a rule that holds is the first of the list or one of the others
which {ℓ} : {G : Type ℓ} (r : Rule) (rs : List Rule) (k : ℕ) → holds (r ∷ rs) k ≡ true → (r.number ≡ k → r.test ≡ true → G) → (holds rs k ≡ true → G) → G
which {G = G} r rs k e f g = go (eqb r.number k) r.test refl refl e
  where
    go : (p t : Bool) → eqb r.number k ≡ p → r.test ≡ t → ((p && t) || holds rs k) ≡ true → G
    go true true n t e = f (eqb-true r.number k n) t
    go true false n t e = g e
    go false t n t' e = g e

-- each rule's test is a reason for its number
abbrev pub Each : (ℕ → Type 0) → List Rule → Type 0
Each F [] = Unit
Each F (r ∷ rs) = (r.test ≡ true → F r.number) × Each F rs

pub each_back : (F : ℕ → Type 0) (rs : List Rule) → Each F rs → (k : ℕ) → holds rs k ≡ true → F k
each_back F [] h k e = absurd (differ false e refl)
each_back F (r ∷ rs) h k e = which r rs k e (λ n t. subst F n (h.0 t)) (λ g. each_back F rs h.1 k g)

-- a rule of the list whose test holds
pub nth_holds : (rs : List Rule) (j : ℕ) → (get_or rs j (rule 0 false)).test ≡ true → holds rs (get_or rs j (rule 0 false)).number ≡ true
nth_holds [] j e = absurd (differ false e refl)
nth_holds (r ∷ rs) ℕ.zero e = rw (eq-eqb r.number r.number refl, e)
nth_holds (r ∷ rs) (suc j) e =
    let k = (get_or rs j (rule 0 false)).number in
    or_second (eqb r.number k && r.test) (holds rs k) (nth_holds rs j e)

-- no rule holds of a number below n
none_below : (rs : List Rule) (n k : ℕ) → rising n rs ≡ true → k < n → holds rs k ≡ false
none_below [] n k e h = refl
none_below (r ∷ rs) n k e h =
    let p = both (leb n r.number) (rising r.number rs) e in
    let l = leb-true n r.number p.0 in
    rw (ne_eqb r.number k (λ z. omega arith)) (none_below rs r.number k p.1 (omega arith))

first_lowest : (rs : List Rule) (n : ℕ) → rising n rs ≡ true → (k : ℕ) → 0 < k → first_of rs ≡ k → (holds rs k ≡ true) × ((j : ℕ) → j < k → holds rs j ≡ false)
first_lowest [] n u k h e = absurd (omega arith)
first_lowest (r ∷ rs) n u k h e = go (λ f. first_lowest rs r.number p.1 k h f) r.test refl e
  where
    p : (leb n r.number ≡ true) × (rising r.number rs ≡ true)
    p = both (leb n r.number) (rising r.number rs) u

    go : (first_of rs ≡ k → (holds rs k ≡ true) × ((j : ℕ) → j < k → holds rs j ≡ false)) → (t : Bool) → r.test ≡ t → cond t r.number (first_of rs) ≡ k
        → (holds (r ∷ rs) k ≡ true) × ((j : ℕ) → j < k → holds (r ∷ rs) j ≡ false)
    go rec true t e = (rw (t, eq-eqb r.number k e), λ j l. rw (ne_eqb r.number j (λ z. omega arith)) (none_below rs r.number j p.1 (omega arith)))
    go rec false t e =
        let h' = rec e in
        (rw (t, and-false) h'.0, λ j l. rw (t, and-false) (h'.1 j l))

level : (m k : ℕ) → (m < k → ⊥) → (k < m → ⊥) → m ≡ k
level m k a b = by (ltb m k) (ltb k m) refl refl
  where
    by : (t u : Bool) → ltb m k ≡ t → ltb k m ≡ u → m ≡ k
    by true u y z = absurd (a (ltb-true m k y))
    by false true y z = absurd (b (ltb-true k m z))
    by false false y z = omega (arith, ltb-false m k y, ltb-false k m z)

lowest_first : (rs : List Rule) (n : ℕ) → rising n rs ≡ true → (k : ℕ) → holds rs k ≡ true → ((j : ℕ) → j < k → holds rs j ≡ false) → first_of rs ≡ k
lowest_first [] n u k e f = absurd (differ false e refl)
lowest_first (r ∷ rs) n u k e f = go (λ g l. lowest_first rs r.number p.1 k g l) r.test refl
  where
    p : (leb n r.number ≡ true) × (rising r.number rs ≡ true)
    p = both (leb n r.number) (rising r.number rs) u

    -- the rule holds: k is not above its number, and not below it
    here : r.test ≡ true → r.number ≡ k
    here t =
        let own : holds (r ∷ rs) r.number ≡ true = rw (t, eq-eqb r.number r.number refl) in
        which r rs k e (λ q u. q) (λ q. level r.number k (λ l. differ _ own (f r.number l)) (λ l. differ _ q (none_below rs r.number k p.1 l)))

    go : (holds rs k ≡ true → ((j : ℕ) → j < k → holds rs j ≡ false) → first_of rs ≡ k) → (t : Bool) → r.test ≡ t → cond r.test r.number (first_of rs) ≡ k
    go rec true t = rw t (here t)
    go rec false t = rw t (rec (rw (t, and-false) at e) (λ j l. rw (t, and-false) at (f j l)))

-- F being what each number is given for, and the rules its tests
module _ (rs : List Rule) (up : rising 1 rs ≡ true) (F : ℕ → Type 0) (to : (k : ℕ) → F k → holds rs k ≡ true) (back : (k : ℕ) → holds rs k ≡ true → F k) where
  pub first_exactly : (k : ℕ) → 0 < k → (first_of rs ≡ k) ↔ Lowest F k
  first_exactly k h = (
    λ e. let l = first_lowest rs 1 up k h e in record { given = back k l.0; first = λ j m g. differ _ (to j g) (l.1 j m) },
    λ l. lowest_first rs 1 up k (to k l.given) (λ j m. fails (holds rs j) (λ g. l.first j m (back j g))),
  )

  pub given_positive : (k : ℕ) → F k → 0 < k
  given_positive ℕ.zero g = absurd (differ _ (to 0 g) (none_below rs 1 0 up (omega arith)))
  given_positive (suc k) g = omega arith

-- ---- two lists of rules, one after the other

-- the first number where it is one, else the second
abbrev pub or_else : ℕ → ℕ → ℕ
or_else ℕ.zero n = n
or_else (suc m) n = suc m

pub first-append : (n : ℕ) (rs ts : List Rule) → 0 < n → rising n rs ≡ true → first_of (rs ++ ts) ≡ or_else (first_of rs) (first_of ts)
first-append n [] ts h u = refl
first-append n (r ∷ rs) ts h u = go r.test (first-append r.number rs ts (omega (arith, leb-true n r.number p.0)) p.1)
  where
    p : (leb n r.number ≡ true) × (rising r.number rs ≡ true)
    p = both (leb n r.number) (rising r.number rs) u

    some : (m k : ℕ) → 0 < m → m ≡ or_else m k
    some ℕ.zero k h = absurd (omega arith)
    some (suc m) k h = refl

    go : (t : Bool) → first_of (rs ++ ts) ≡ or_else (first_of rs) (first_of ts) → cond t r.number (first_of (rs ++ ts)) ≡ or_else (cond t r.number (first_of rs)) (first_of ts)
    go true rec = some r.number (first_of ts) (omega (arith, leb-true n r.number p.0))
    go false rec = rec

pub holds_append : (rs ts : List Rule) (k : ℕ) → holds (rs ++ ts) k ≡ (holds rs k || holds ts k)
holds_append [] ts k = refl
holds_append (r ∷ rs) ts k = go (eqb r.number k && r.test) (holds_append rs ts k)
  where
    go : (b : Bool) → holds (rs ++ ts) k ≡ (holds rs k || holds ts k) → (b || holds (rs ++ ts) k) ≡ (b || holds rs k || holds ts k)
    go true rec = refl
    go false rec = rec
