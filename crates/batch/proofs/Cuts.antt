-- Laws of cuts: consecutive stripes have each column once, lie within the width, and so do they in any other order. Assumes nothing.
use Prim.Native.Nat.{ℕ, ◌+◌, ◌-◌, ◌<◌, ◌≤◌}
use mathlib.Core.Path.{◌≡◌, refl, sym, ap, ap₂, ◌∙◌, subst}
use mathlib.Core.Bool.{cond}
use mathlib.Core.List.{List, [], ◌∷◌, ◌++◌, map, Permᴰ}
use native.Mathlib.Omega.{arith}
use native.Mathlib.Decide.{dec_lt}
use Rattle.rows.specs.Column.{in_stripe}
use Rattle.rows.proofs.Stripes.{in_stripe_lem, below_stripe, above_stripe}
use Rattle.batch.specs.Cut.{Batch, Part, Share, Cut, part, stripe_of, consecutive, total}

-- ---- sums over a list, and what holds of all of it, in any order

abbrev pub sum_of : {A : Type 0} → (A → ℕ) → List A → ℕ
sum_of f [] = 0
sum_of f (x ∷ xs) = f x + sum_of f xs

abbrev pub All : {A : Type 0} → (A → Type 0) → List A → Type 0
All P [] = Unit {0}
All P (x ∷ xs) = P x × All P xs

module _ {A : Type 0} where
  pub sum_perm : (f : A → ℕ) {xs ys : List A} → Permᴰ xs ys → sum_of f xs ≡ sum_of f ys
  sum_perm f Permᴰ.nil = refl
  sum_perm f (Permᴰ.cons e p) = ap₂ (λ x n. f x + n) e (sum_perm f p)
  sum_perm f (Permᴰ.swap {a = a} {b = b} {a' = a'} {b' = b'} {l = l} d e) =
      let x : f a ≡ f b' = ap f d in
      let y : f b ≡ f a' = ap f e in
      omega arith
  sum_perm f (Permᴰ.trans p q) = sum_perm f p ∙ sum_perm f q

  pub all_perm : (P : A → Type 0) {xs ys : List A} → Permᴰ xs ys → All P ys → All P xs
  all_perm P Permᴰ.nil h = tt
  all_perm P (Permᴰ.cons e p) h = (subst P (sym e) h.0, all_perm P p h.1)
  all_perm P (Permᴰ.swap d e) h = (subst P (sym d) h.1.0, (subst P (sym e) h.0, h.1.1))
  all_perm P (Permᴰ.trans p q) h = all_perm P p (all_perm P q h)

  pub sum-append : (f : A → ℕ) (xs ys : List A) → sum_of f (xs ++ ys) ≡ sum_of f xs + sum_of f ys
  sum-append f [] ys = omega arith
  sum-append f (x ∷ xs) ys = omega (arith, sum-append f xs ys)

  pub all_left : (P : A → Type 0) (xs ys : List A) → All P (xs ++ ys) → All P xs
  all_left P [] ys h = tt
  all_left P (x ∷ xs) ys h = (h.0, all_left P xs ys h.1)

  pub all_right : (P : A → Type 0) (xs ys : List A) → All P (xs ++ ys) → All P ys
  all_right P [] ys h = h
  all_right P (x ∷ xs) ys h = all_right P xs ys h.1

module _ {A B : Type 0} (f : A → B) where
  pub sum-map : (g : B → ℕ) (xs : List A) → sum_of g (map f xs) ≡ sum_of (λ x. g (f x)) xs
  sum-map g [] = refl
  sum-map g (x ∷ xs) = ap (λ n. g (f x) + n) (sum-map g xs)

  pub all_map : (P : B → Type 0) (xs : List A) → All P (map f xs) → All (λ x. P (f x)) xs
  all_map P [] h = tt
  all_map P (x ∷ xs) h = (h.0, all_map P xs h.1)

-- ---- how often a column is had

abbrev pub had : ℕ → Part → ℕ
had c s = cond (in_stripe s.first s.count c) 1 0

abbrev pub In : Part → ℕ → Type 0
In s c = (s.first ≤ c) × (c < s.first + s.count)

pub had_in : (s : Part) (c : ℕ) → In s c → had c s ≡ 1
had_in s c i =
    let e : c ≡ s.first + (c - s.first) = omega arith in
    ap (λ b. cond b 1 0) (ap (in_stripe s.first s.count) e ∙ in_stripe_lem s.first s.count (c - s.first) (omega arith))

pub had_below : (s : Part) (c : ℕ) → c < s.first → had c s ≡ 0
had_below s c h = ap (λ b. cond b 1 0) (below_stripe s.first s.count c h)

pub had_above : (s : Part) (c : ℕ) → s.first + s.count ≤ c → had c s ≡ 0
had_above s c h = ap (λ b. cond b 1 0) (above_stripe s.first s.count c h)

-- ---- consecutive stripes

before : (first : ℕ) (ns : List ℕ) (c : ℕ) → c < first → sum_of (had c) (consecutive first ns) ≡ 0
before first [] c h = refl
before first (n ∷ ns) c h = omega (arith, had_below (part first n) c h, before (first + n) ns c (omega arith))

pub at_most_once : (first : ℕ) (ns : List ℕ) (c : ℕ) → sum_of (had c) (consecutive first ns) ≤ 1
at_most_once first [] c = omega arith
at_most_once first (n ∷ ns) c = go (at_most_once (first + n) ns c) (dec_lt c first) (dec_lt c (first + n))
  where
    go : sum_of (had c) (consecutive (first + n) ns) ≤ 1 → Dec (c < first) → Dec (c < first + n) → sum_of (had c) (consecutive first (n ∷ ns)) ≤ 1
    go ih (yes b) d = omega (arith, had_below (part first n) c b)
    go ih (no a) (yes b) = omega (arith, had_in (part first n) c (omega arith, b), before (first + n) ns c b)
    go ih (no a) (no b) = omega (arith, had_above (part first n) c (omega arith))

pub at_least_once : (first : ℕ) (ns : List ℕ) (c : ℕ) → first ≤ c → c < first + total ns → 1 ≤ sum_of (had c) (consecutive first ns)
at_least_once first [] c h l = absurd (omega arith)
at_least_once first (n ∷ ns) c h l = go (at_least_once (first + n) ns c) (dec_lt c (first + n))
  where
    go : (first + n ≤ c → c < first + n + total ns → 1 ≤ sum_of (had c) (consecutive (first + n) ns)) → Dec (c < first + n) → 1 ≤ sum_of (had c) (consecutive first (n ∷ ns))
    go ih (yes b) = omega (arith, had_in (part first n) c (h, b))
    go ih (no b) = omega (arith, ih (omega arith) (omega arith))

abbrev pub Inside : ℕ → Part → Type 0
Inside width s = s.first + s.count ≤ width

all_inside : (first width : ℕ) (ns : List ℕ) → first + total ns ≤ width → All (Inside width) (consecutive first ns)
all_inside first width [] h = tt
all_inside first width (n ∷ ns) h = (omega arith, all_inside (first + n) width ns (omega arith))

-- ---- shares: how many of them have a column

abbrev pub shared : List Share → ℕ → ℕ
shared ss c = sum_of (λ s. had c (stripe_of s)) ss

abbrev pub AllInside : ℕ → List Share → Type 0
AllInside width ss = All (λ s. Inside width (stripe_of s)) ss

module _ (b : Batch) (ss : List Share) (cut : Cut b ss) where
  as_cut : (c : ℕ) → shared ss c ≡ sum_of (had c) (consecutive 0 cut.counts)
  as_cut c = sym (sum-map stripe_of (had c) ss) ∙ sum_perm (had c) cut.order

  pub cut_most : (c : ℕ) → shared ss c ≤ 1
  cut_most c = omega (arith, as_cut c, at_most_once 0 cut.counts c)

  pub cut_once : (c : ℕ) → c < b.width → shared ss c ≡ 1
  cut_once c h = omega (arith, cut_most c, as_cut c, cut.whole, at_least_once 0 cut.counts c (omega arith) (omega (arith, cut.whole)))

  pub cut_inside : AllInside b.width ss
  cut_inside = all_map stripe_of (Inside b.width) ss (all_perm (Inside b.width) cut.order (all_inside 0 b.width cut.counts (omega (arith, cut.whole))))
