-- How many numbers of a range have a property: laws of `among`'s length, stated over the property. Assumes nothing.
use mathlib.Core.Path.{◌≡◌, refl, sym, ap, ◌∙◌}
use mathlib.Core.Bool.{Bool, true, false, not, cond, ◌&&◌, ◌||◌, or-true, true≢false}
use mathlib.Core.List.{List, [], ◌∷◌, map}
use mathlib.Core.Logic.{◌≢◌}
use Prim.Native.Nat.{ℕ, zero, suc, ◌+◌, ◌≤◌, ◌<◌}
use native.Mathlib.Nat.{zero-add, add-zero, add-suc, suc-add}
use native.Mathlib.Omega.{arith}
use lib.ListN.{length}
use lib.Dec.{eqb}
use borrow.Author.Tests.{eqb-true, eqb-false, eq-eqb, ne_eqb}
use Rattle.common.specs.Bits.{bit}
use Rattle.common.specs.Lists.{member}
use Rattle.scratch.specs.Gates.{among}
use Rattle.scratch.specs.Assignments.{distinct}

-- how many of the m numbers from a on have p; how many members of a list have t
abbrev pub count : (ℕ → Bool) → ℕ → ℕ → ℕ
count p a zero = 0
count p a (suc m) = bit (p a) + count p (suc a) m

abbrev pub tally : (ℕ → Bool) → List ℕ → ℕ
tally t [] = 0
tally t (x ∷ xs) = bit (t x) + tally t xs

pub length-among : (p : ℕ → Bool) (a m : ℕ) → length (among p a m) ≡ count p a m
length-among p a zero = refl
length-among p a (suc m) = go (p a) (among p (suc a) m) (length-among p (suc a) m)
  where
    go : (b : Bool) (x : List ℕ) {c : ℕ} → length x ≡ c → length (cond b (a ∷ x) x) ≡ bit b + c
    go true x e = omega arith
    go false x e = omega arith

-- the one law of counts: where the bits add up at each number, the counts add up
pub count_add : (p q r : ℕ → Bool) (a m : ℕ) → ((w : ℕ) → a ≤ w → w < a + m → bit (p w) ≡ bit (q w) + bit (r w)) → count p a m ≡ count q a m + count r a m
count_add p q r a zero h = refl
count_add p q r a (suc m) h =
    let t = count_add p q r (suc a) m (λ w l u. h w (omega arith) (omega arith)) in
    omega (arith, h a (omega arith) (omega arith))

pub count_none : (p : ℕ → Bool) (a m : ℕ) → ((w : ℕ) → a ≤ w → w < a + m → p w ≡ false) → count p a m ≡ 0
count_none p a zero h = refl
count_none p a (suc m) h =
    let t = count_none p (suc a) m (λ w l u. h w (omega arith) (omega arith)) in
    let b = ap bit (h a (omega arith) (omega arith)) in
    omega arith

pub count_ext : (p q : ℕ → Bool) (a m : ℕ) → ((w : ℕ) → a ≤ w → w < a + m → p w ≡ q w) → count p a m ≡ count q a m
count_ext p q a m h =
    count_add p q (λ w. false) a m (λ w l u. ap bit (h w l u) ∙ sym (add-zero (bit (q w))))
    ∙ ap (λ (x : ℕ). count q a m + x) (count_none (λ w. false) a m (λ w l u. refl))
    ∙ add-zero (count q a m)

bit_le : (b : Bool) → bit b ≤ 1
bit_le true = omega arith
bit_le false = omega arith

pub count-le : (p : ℕ → Bool) (a m : ℕ) → count p a m ≤ m
count-le p a zero = omega arith
count-le p a (suc m) = omega (arith, bit_le (p a), count-le p (suc a) m)

pub count_all : (a m : ℕ) → count (λ w. true) a m ≡ m
count_all a zero = refl
count_all a (suc m) = omega (arith, count_all (suc a) m)

-- one number more at the end
pub count_last : (p : ℕ → Bool) (a m : ℕ) → count p a (suc m) ≡ count p a m + bit (p (a + m))
count_last p a zero = let e = ap (λ (x : ℕ). bit (p x)) (add-zero a) in omega arith
count_last p a (suc m) =
    let e : count p (suc a) (suc m) ≡ count p (suc a) m + bit (p (a + suc m)) = rw (add-suc, ← suc-add) (count_last p (suc a) m) in
    omega arith

-- more numbers, and a range that starts one later
pub count_below : (p : ℕ → Bool) (w v : ℕ) → w < v → p w ≡ true → count p 0 w < count p 0 v
count_below p w zero l h = absurd (omega arith)
count_below p w (suc v) l h = go (eqb w v) refl (λ l. count_below p w v l h)
  where
    go : (b : Bool) → eqb w v ≡ b → (w < v → count p 0 w < count p 0 v) → count p 0 w < count p 0 (suc v)
    go true e ih = let q = eqb-true w v e in omega (arith, count_last p 0 v, ap bit h, ap (λ (x : ℕ). bit (p x)) (zero-add v), ap (λ (x : ℕ). bit (p x)) q, ap (count p 0) q)
    go false e ih = omega (arith, count_last p 0 v, ih (omega (arith, eqb-false w v e)))

pub count_shift : (p : ℕ → Bool) (a m : ℕ) → count p (suc a) m ≡ count (λ w. p (suc w)) a m
count_shift p a zero = refl
count_shift p a (suc m) = omega (arith, count_shift p (suc a) m)

-- one number of a range
pub count-one : (x : ℕ) (b : Bool) (a m : ℕ) → a ≤ x → x < a + m → count (λ w. eqb x w && b) a m ≡ bit b
count-one x b a zero l u = absurd (omega arith)
count-one x b a (suc m) l u = go (eqb x a) refl (λ h. count-one x b (suc a) m h (omega arith))
  where
    go : (c : Bool) → eqb x a ≡ c → (a < x → count (λ w. eqb x w && b) (suc a) m ≡ bit b) → count (λ w. eqb x w && b) a (suc m) ≡ bit b
    go true e ih =
        let n = count_none (λ w. eqb x w && b) (suc a) m (λ w l u. rw (ne_eqb x w (λ q. omega (arith, eqb-true x a e)))) in
        rw e (omega arith)
    go false e ih = rw e (omega (arith, ih (omega (arith, eqb-false x a e))))

-- taking one number of the range out
pub count_out : (p : ℕ → Bool) (a m x : ℕ) → a ≤ x → x < a + m → count p a m ≡ count (λ w. p w && not (eqb x w)) a m + bit (p x)
count_out p a m x l u =
    count_add p (λ w. p w && not (eqb x w)) (λ w. eqb x w && p x) a m (λ w _ _. at w (eqb x w) refl)
    ∙ ap (λ (k : ℕ). count (λ w. p w && not (eqb x w)) a m + k) (count-one x (p x) a m l u)
  where
    same : (b : Bool) → bit b ≡ bit (b && false) + bit b
    same true = refl
    same false = refl

    rest : (b : Bool) → bit b ≡ bit (b && true) + 0
    rest true = refl
    rest false = refl

    at : (w : ℕ) (b : Bool) → eqb x w ≡ b → bit (p w) ≡ bit (p w && not (eqb x w)) + bit (eqb x w && p x)
    at w true e = rw (e, eqb-true x w e) (same (p w))
    at w false e = rw e (rest (p w))

-- a number of the range that has p makes the count positive, and two make it two
pub count_pos : (p : ℕ → Bool) (a m x : ℕ) → a ≤ x → x < a + m → p x ≡ true → 1 ≤ count p a m
count_pos p a m x l u t = omega (arith, count_out p a m x l u, ap bit t)

pub count_two : (p : ℕ → Bool) (a m x y : ℕ) → a ≤ x → x < a + m → a ≤ y → y < a + m → p x ≡ true → p y ≡ true → x ≢ y → 2 ≤ count p a m
count_two p a m x y l u l' u' t t' d =
    let r : (p y && not (eqb x y)) ≡ true = rw (t', ne_eqb x y d) in
    omega (arith, count_out p a m x l u, ap bit t, count_pos (λ w. p w && not (eqb x w)) a m y l' u' r)

-- no number is counted twice, and none that is out of range
pub count-one-le : (x a m : ℕ) → count (λ w. eqb x w && true) a m ≤ 1
count-one-le x a zero = omega arith
count-one-le x a (suc m) = go (eqb x a) refl (count-one-le x (suc a) m)
  where
    go : (c : Bool) → eqb x a ≡ c → count (λ w. eqb x w && true) (suc a) m ≤ 1 → count (λ w. eqb x w && true) a (suc m) ≤ 1
    go true e ih =
        let n = count_none (λ w. eqb x w && true) (suc a) m (λ w l u. rw (ne_eqb x w (λ q. omega (arith, eqb-true x a e)))) in
        rw e (omega arith)
    go false e ih = rw e (omega arith)

-- the numbers that a list holds, counted below a bound
pub distinct_count : (l : List ℕ) (b : ℕ) → ((x : ℕ) → member x l ≡ true → x < b) → distinct l ≡ count (λ y. member y l) 0 b
distinct_count [] b h = sym (count_none (λ y. member y []) 0 b (λ w _ _. refl))
distinct_count (x ∷ xs) b h =
    go (member x xs) refl
    (omega (
      arith,
      distinct_count xs b (λ y m. h y (rw (m, or-true))),
      count_add (λ y. member y (x ∷ xs)) (λ y. member y xs) (λ w. eqb x w && not (member x xs)) 0 b (λ w _ _. bits w (eqb x w) refl),
      count-one x (not (member x xs)) 0 b (omega arith) (omega (arith, h x (rw (eq-eqb x x refl)))),
    ))
  where
    go : (c : Bool) → member x xs ≡ c → distinct xs + bit (not (member x xs)) ≡ count (λ y. member y (x ∷ xs)) 0 b → distinct (x ∷ xs) ≡ count (λ y. member y (x ∷ xs)) 0 b
    go true e t = rw e (omega (arith, ap (λ (c : Bool). bit (not c)) e))
    go false e t = rw e (omega (arith, ap (λ (c : Bool). bit (not c)) e))

    once : (c : Bool) → 1 ≡ bit c + bit (not c)
    once true = refl
    once false = refl

    bits : (w : ℕ) (c : Bool) → eqb x w ≡ c → bit (eqb x w || member w xs) ≡ bit (member w xs) + bit (eqb x w && not (member x xs))
    bits w true e = rw (e, eqb-true x w e) (once (member w xs))
    bits w false e = rw e (omega arith)

-- what a list of images holds
module _ (f : ℕ → ℕ) (p : ℕ → Bool) where
  abbrev pub Image : ℕ → ℕ → ℕ → Type 0
  Image a m s = (w : ℕ) × (a ≤ w) × (w < a + m) × (p w ≡ true) × (f w ≡ s)

  pub image_of : (a m s : ℕ) → member s (map f (among p a m)) ≡ true → Image a m s
  image_of a zero s h = absurd (true≢false (sym h))
  image_of a (suc m) s h = go (p a) refl (λ h. wider (image_of (suc a) m s h)) h
    where
      wider : Image (suc a) m s → Image a (suc m) s
      wider (w, l, u, t, e) = (w, omega arith, omega arith, t, e)

      here : (c : Bool) → eqb (f a) s ≡ c → p a ≡ true → (member s (map f (among p (suc a) m)) ≡ true → Image a (suc m) s) → ((c || member s (map f (among p (suc a) m))) ≡ true) → Image a (suc m) s
      here true e t ih h = (a, omega arith, omega arith, t, eqb-true (f a) s e)
      here false e t ih h = ih h

      go : (c : Bool) → p a ≡ c → (member s (map f (among p (suc a) m)) ≡ true → Image a (suc m) s)
          → member s (map f (cond c (a ∷ among p (suc a) m) (among p (suc a) m))) ≡ true → Image a (suc m) s
      go true e ih h = here (eqb (f a) s) refl e ih h
      go false e ih h = ih h

  pub of_image : (a m w : ℕ) → a ≤ w → w < a + m → p w ≡ true → member (f w) (map f (among p a m)) ≡ true
  of_image a zero w l u t = absurd (omega arith)
  of_image a (suc m) w l u t = go (eqb a w) refl (λ h. of_image (suc a) m w h (omega arith) t)
    where
      go : (c : Bool) → eqb a w ≡ c → (a < w → member (f w) (map f (among p (suc a) m)) ≡ true) → member (f w) (map f (among p a (suc m))) ≡ true
      go true e ih = rw (eqb-true a w e, t, eq-eqb (f w) (f w) refl)
      go false e ih = skip (p a) (ih (omega (arith, eqb-false a w e)))
        where
          skip : (c : Bool) → member (f w) (map f (among p (suc a) m)) ≡ true → member (f w) (map f (cond c (a ∷ among p (suc a) m) (among p (suc a) m))) ≡ true
          skip true h = rw (h, or-true)
          skip false h = h

pub among_ext : (p q : ℕ → Bool) (a m : ℕ) → ((w : ℕ) → a ≤ w → w < a + m → p w ≡ q w) → among p a m ≡ among q a m
among_ext p q a zero h = refl
among_ext p q a (suc m) h = rw (h a (omega arith) (omega arith), among_ext p q (suc a) m (λ w l u. h w (omega arith) (omega arith)))
