-- What is told of some columns is told in one way; joining what is told of columns that are apart tells of both; and so for a tree. Assumes nothing.
use Prim.Native.Nat.{ℕ, ◌+◌, ◌*◌, ◌<◌, min}
use mathlib.Core.Path.{◌≡◌, refl, sym, ap, ap₂, ◌∙◌, subst}
use mathlib.Core.Logic.{◌⊎◌, ⊎_elim, inl, inr}
use mathlib.Core.List.{List, [], ◌∷◌, ◌++◌, map, Permᴰ}
use native.Mathlib.Omega.{arith}
use native.Mathlib.Decide.{dec_lt, ℕ_discrete}
use lib.ListN.{length, take}
use borrow.Author.Tests.{ne_eqb, lt-ltb, le-ltb}
use Rattle.report.specs.Sizes.{record_words}
use Rattle.report.specs.Records.{words}
use Rattle.report.specs.Join.{Standing, stands, refused, meet}
use Rattle.report.specs.declared.record.Failure.{Failure}
use Rattle.report.specs.declared.BatchPosition.{BatchPosition}
use Rattle.report.specs.declared.Report.{Report}
use Rattle.report.specs.declared.Report.TheVariants as B
use Rattle.batch.specs.Batch.{kept_by, read}
use Rattle.batch.specs.Demands.{Tells}

-- ---- lists that a map made

cons-nil : {A : Type 0} (x : A) (xs : List A) → ◌≡◌ {A = List A} (x ∷ xs) [] → ⊥
cons-nil x xs e = let z : ◌≡◌ {A = ℕ} 0 1 = cc in omega arith

module _ {A B : Type 0} (f : A → B) where
  -- another order of the images is the images of another order
  pub perm_back : (ys zs : List B) → Permᴰ ys zs → (xs : List A) → zs ≡ map f xs → (ws : List A) × Permᴰ ws xs × (ys ≡ map f ws)
  perm_back ys zs Permᴰ.nil [] e = ([], Permᴰ.nil, refl)
  perm_back ys zs Permᴰ.nil (x ∷ xs) e = absurd (cons-nil _ _ (sym e))
  perm_back ys zs (Permᴰ.cons d p) [] e = absurd (cons-nil _ _ e)
  perm_back ys zs (Permᴰ.cons {a = a} {b = b} {l₁ = l} {l₂ = m} d p) (x ∷ xs) e =
      let r = perm_back l m p xs (cc) in
      let h : b ≡ f x = cc in
      (x ∷ r.0, Permᴰ.cons refl r.1, ap₂ ◌∷◌ (d ∙ h) r.2)
  perm_back ys zs (Permᴰ.swap c d) [] e = absurd (cons-nil _ _ e)
  perm_back ys zs (Permᴰ.swap {b' = b'} {l = l} c d) (x ∷ []) e = let t : b' ∷ l ≡ [] = cc in absurd (cons-nil _ _ t)
  perm_back ys zs (Permᴰ.swap {a = a} {b = b} {a' = a'} {b' = b'} {l = l} c d) (x ∷ y ∷ xs) e =
      let h : a' ≡ f x = cc in
      let k : b' ≡ f y = cc in
      let t : l ≡ map f xs = cc in
      (y ∷ x ∷ xs, Permᴰ.swap refl refl, ap₂ ◌∷◌ (c ∙ k) (ap₂ ◌∷◌ (d ∙ h) t))
  perm_back ys zs (Permᴰ.trans {l₂ = ms} p q) xs e =
      let r = perm_back ms zs q xs e in
      let s = perm_back ys ms p r.0 r.2 in
      (s.0, Permᴰ.trans s.1 r.1, s.2)

  -- a part of the images is the images of a part
  pub split_back : (ys zs : List B) (xs : List A) → ys ++ zs ≡ map f xs → (us : List A) × (vs : List A) × (xs ≡ us ++ vs) × (ys ≡ map f us) × (zs ≡ map f vs)
  split_back [] zs xs e = ([], xs, refl, refl, e)
  split_back (y ∷ ys) zs [] e = absurd (cons-nil _ _ e)
  split_back (y ∷ ys) zs (x ∷ xs) e =
      let h : y ≡ f x = cc in
      let r = split_back ys zs xs (cc) in
      (x ∷ r.0, r.1, ap (λ l. x ∷ l) r.2, ap₂ ◌∷◌ h r.3, r.4)

  pub one_back : (y : B) (xs : List A) → y ∷ [] ≡ map f xs → (x : A) × (xs ≡ x ∷ []) × (y ≡ f x)
  one_back y [] e = absurd (cons-nil _ _ e)
  one_back y (x ∷ []) e = (x, refl, cc)
  one_back y (x ∷ w ∷ ws) e = let t : [] ≡ f w ∷ map f ws = cc in absurd (cons-nil _ _ (sym t))

  pub none_back : (xs : List A) → [] ≡ map f xs → xs ≡ []
  none_back [] e = refl
  none_back (x ∷ xs) e = absurd (cons-nil _ _ (sym e))

-- ---- telling

module _ (cap : ℕ) (v : ℕ → List Failure) where
  nonempty : (c n : ℕ) → n ≡ length (v c) → 0 < n → v c ≡ [] → ⊥
  nonempty c n e h z = omega (arith, ap length z)

  -- the same columns, said otherwise
  pub tells_as : (P Q : ℕ → Type 0) → ((c : ℕ) → P c → Q c) → ((c : ℕ) → Q c → P c) → (r : Report BatchPosition) (ws : List ℕ) → Tells P cap v r ws → Tells Q cap v r ws
  tells_as P Q to from B.Clean ws h = (λ c q. h.0 c (from c q), h.1)
  tells_as P Q to from (B.Failing p t k) ws h =
      record { among = to p.0 h.among; lower = λ c q l. h.lower c (from c q) l; exact = h.exact; fails = h.fails; smaller = h.smaller; first_failures = h.first_failures }

  -- one report, and one list of records
  pub tells_only : (P : ℕ → Type 0) (r s : Report BatchPosition) (ws xs : List ℕ) → Tells P cap v r ws → Tells P cap v s xs → (r ≡ s) × (ws ≡ xs)
  tells_only P B.Clean B.Clean ws xs h k = (refl, h.1 ∙ sym k.1)
  tells_only P B.Clean (B.Failing q u l) ws xs h k = absurd (nonempty q.0 u k.exact k.fails (h.0 q.0 k.among))
  tells_only P (B.Failing p t m) B.Clean ws xs h k = absurd (nonempty p.0 t h.exact h.fails (k.0 p.0 h.among))
  tells_only P (B.Failing p t m) (B.Failing q u l) ws xs h k = ((λ j. B.Failing (record { 0 = place j }) (count j) (few j)), h.first_failures ∙ ap₂ (λ n c. words (take n (v c))) few place ∙ sym k.first_failures)
    where
      place : p.0 ≡ q.0
      place = go (dec_lt p.0 q.0) (dec_lt q.0 p.0)
        where
          go : Dec (p.0 < q.0) → Dec (q.0 < p.0) → p.0 ≡ q.0
          go (yes d) e = absurd (nonempty p.0 t h.exact h.fails (k.lower p.0 h.among d))
          go (no d) (yes e) = absurd (nonempty q.0 u k.exact k.fails (h.lower q.0 k.among e))
          go (no d) (no e) = omega arith

      count : t ≡ u
      count = h.exact ∙ ap (λ c. length (v c)) place ∙ sym k.exact

      few : m ≡ l
      few = h.smaller ∙ ap (λ n. min n cap) count ∙ sym k.smaller

  -- ---- what stands: what is read of it tells; a refusal tells nothing

  abbrev pub Shown : (ℕ → Type 0) → Standing → Type 0
  Shown P (stands r x) = Tells P cap v r (take (kept_by r * record_words) x)
  Shown P (refused e) = ⊥

  pub shown_only : (P : ℕ → Type 0) (m : Standing) (r : Report BatchPosition) (ws : List ℕ) → Shown P m → Tells P cap v r ws → read m ≡ stands r ws
  shown_only P (stands s x) r ws h k = let e = tells_only P s r _ ws h k in ap₂ stands e.0 e.1
  shown_only P (refused e) r ws h k = absurd h

  pub shown_as : (P Q : ℕ → Type 0) → ((c : ℕ) → P c → Q c) → ((c : ℕ) → Q c → P c) → (m : Standing) → Shown P m → Shown Q m
  shown_as P Q to from (stands r x) h = tells_as P Q to from r _ h
  shown_as P Q to from (refused e) h = absurd h

  -- columns that are apart: no join is refused, and it tells of both
  module _ (P Q : ℕ → Type 0) (apart : (c : ℕ) → P c → Q c → ⊥) where
    abbrev Or : ℕ → Type 0
    Or c = P c ⊎ Q c

    on_left : (p : BatchPosition) (t k : ℕ) (x : List ℕ) → Shown P (stands (B.Failing p t k) x) → ((c : ℕ) → Q c → c < p.0 → v c ≡ []) → Shown Or (stands (B.Failing p t k) x)
    on_left p t k x h o =
        record { among = inl h.among; lower = λ c e l. ⊎_elim (λ i. h.lower c i l) (λ i. o c i l) e; exact = h.exact; fails = h.fails; smaller = h.smaller; first_failures = h.first_failures }

    on_right : (q : BatchPosition) (t k : ℕ) (y : List ℕ) → Shown Q (stands (B.Failing q t k) y) → ((c : ℕ) → P c → c < q.0 → v c ≡ []) → Shown Or (stands (B.Failing q t k) y)
    on_right q t k y h o =
        record { among = inr h.among; lower = λ c e l. ⊎_elim (λ i. o c i l) (λ i. h.lower c i l) e; exact = h.exact; fails = h.fails; smaller = h.smaller; first_failures = h.first_failures }

    pub meet_shown : (m n : Standing) → Shown P m → Shown Q n → Shown Or (meet m n)
    meet_shown (refused e) n h k = absurd h
    meet_shown (stands r x) (refused e) h k = absurd k
    meet_shown (stands B.Clean x) (stands B.Clean y) h k = (λ c e. ⊎_elim (λ i. h.0 c i) (λ i. k.0 c i) e, refl)
    meet_shown (stands B.Clean x) (stands (B.Failing q u l) y) h k = on_right q u l y k (λ c i e. h.0 c i)
    meet_shown (stands (B.Failing p t m) x) (stands B.Clean y) h k = on_left p t m x h (λ c i e. k.0 c i)
    meet_shown (stands (B.Failing p t m) x) (stands (B.Failing q u l) y) h k = go (ℕ_discrete p.0 q.0) (dec_lt p.0 q.0)
      where
        go : Dec (p.0 ≡ q.0) → Dec (p.0 < q.0) → Shown Or (meet (stands (B.Failing p t m) x) (stands (B.Failing q u l) y))
        go (yes e) d = absurd (apart q.0 (subst P e h.among) k.among)
        go (no n) (yes d) = rw (ne_eqb p.0 q.0 n, lt-ltb p.0 q.0 d) (on_left p t m x h (λ c i e. k.lower c i (omega arith)))
        go (no n) (no d) = rw (ne_eqb p.0 q.0 n, le-ltb p.0 q.0 (omega arith)) (on_right q u l y k (λ c i e. h.lower c i (omega arith)))
