-- The laws of running a function across a stripe: nothing done; one store; one column more; one function after another; and that the array is determined. Assumes nothing.
use mathlib.Core.Path.{◌≡◌, refl, sym, ap, ap₂, ◌∙◌, subst, fun_ext}
use mathlib.Core.List.{List, [], ◌∷◌, map}
use mathlib.Core.Logic.{◌⊎◌, ⊎_elim, inl, inr}
use Prim.Native.Nat.{ℕ, zero, suc, ◌+◌, ◌*◌, ◌-◌, ◌/◌, ◌%◌, ◌<◌, ◌≤◌}
use native.Mathlib.Nat.{eq-or-lt_of_le, le_of_suc-le-suc, not-suc-le-zero, div-add-mod', mod-lt, mul-zero, add_assoc, suc-mul, mul-le-mul_right}
use native.Mathlib.Decide.{ℕ_discrete, dec_lt}
use native.Mathlib.Omega.{arith}
use lib.ListN.{length, get_or, set, drop, length-set}
use lib.Seq.{get_or-set_same, get_or-set_other, ext_get_or}
use lib.Arith.{digits_div, digits_mod}
use mathlib.Core.Bool.{true, false, cond}
use lib.Dec.{eqb, ltb}
use borrow.Author.Tests.{eq-eqb, ne_eqb, lt-ltb, le-ltb, le-leb, lt-leb}
use Rattle.rows.specs.Column.{Col, place, column, store, stores, tabulate, in_stripe, on_stripe}
use Rattle.rows.specs.Working.{InRow, Done, Across}
use Rattle.rows.specs.declared.Stripe.{Stripe}

-- ---- a word of a column

pub column_at_lem : {rows r : ℕ} (width : ℕ) (xs : List ℕ) (c : ℕ) → r < rows → column rows width xs c r ≡ get_or xs (place width r c) 0
unfolding column
column_at_lem {rows} {r} width xs c h = rw (lt-ltb r rows h)

pub column_past : {rows r : ℕ} (width : ℕ) (xs : List ℕ) (c : ℕ) → rows ≤ r → column rows width xs c r ≡ 0
unfolding column
column_past {rows} {r} width xs c h = rw (le-ltb r rows h)

-- a row of the array is whole
pub in_row : {n r : ℕ} (s : Stripe) → n ≡ s.rows * s.width → r < s.rows → InRow s n r
in_row {n} {r} s e h =
    (h, subst (λ k. r * s.width + s.width ≤ k) (sym e) (subst (λ k. k ≤ s.rows * s.width) (suc-mul r s.width) (mul-le-mul_right s.width h)))

-- ---- r * width + c names one register and one column

same_register : (width r s : ℕ) {c e : ℕ} → c < width → e < width → r * width + c ≡ s * width + e → r ≡ s
same_register width r s hc he p = sym (digits_div r hc) ∙ ap (λ n. n / width) p ∙ digits_div s he

same_column : (width r s : ℕ) {c e : ℕ} → c < width → e < width → r * width + c ≡ s * width + e → c ≡ e
same_column width r s hc he p = sym (digits_mod r hc) ∙ ap (λ n. n % width) p ∙ digits_mod s he

-- ---- one store

module _ (rows width : ℕ) (xs : List ℕ) (c d v : ℕ) (hc : c < width) where
  column-set : d < rows → d * width + c < length xs → column rows width (set xs (d * width + c) v) c ≡ store (column rows width xs c) d v
  unfolding column store
  column-set hd fits = fun_ext λ r. go r (ℕ_discrete r d)
    where
      go : (r : ℕ) → Dec (r ≡ d) → cond (ltb r rows) (get_or (set xs (d * width + c) v) (r * width + c) 0) 0 ≡ cond (eqb r d) v (cond (ltb r rows) (get_or xs (r * width + c) 0) 0)
      go r (yes e) = rw (eq-eqb r d e, e, lt-ltb d rows hd) (get_or-set_same xs (d * width + c) v 0 fits)
      go r (no n) = rw (ne_eqb r d n) (ap (λ x. cond (ltb r rows) x 0) (get_or-set_other xs (d * width + c) (r * width + c) v 0 (λ p. n (same_register width r d hc hc p))))

  column_set_other : (e : ℕ) → e < width → (e ≡ c → ⊥) → column rows width (set xs (d * width + c) v) e ≡ column rows width xs e
  unfolding column
  column_set_other e he n =
      fun_ext λ r. ap (λ x. cond (ltb r rows) x 0) (get_or-set_other xs (d * width + c) (r * width + e) v 0 (λ p. n (same_column width r d he hc p)))

-- ---- ys is xs with F run on column c alone

record Turned (F : Col → Col) (rows width c : ℕ) (xs ys : List ℕ) : Type 0 where
  size : length ys ≡ length xs
  here : column rows width ys c ≡ F (column rows width xs c)
  other : (e : ℕ) → e < width → (e ≡ c → ⊥) → column rows width ys e ≡ column rows width xs e

turned_store : (rows width : ℕ) (xs : List ℕ) (c d v : ℕ) → c < width → d < rows → d * width + c < length xs
    → Turned (λ col. store col d v) rows width c xs (set xs (d * width + c) v)
turned_store rows width xs c d v hc hd fits = record {
  size = length-set xs (d * width + c) v;
  here = column-set rows width xs c d v hc hd fits;
  other = λ e he n. column_set_other rows width xs c d v hc e he n;
}

-- two in a row; the second function may look at what the first left
turned_then : {F G : Col → Col} {rows width c : ℕ} {xs ys zs : List ℕ} → Turned F rows width c xs ys → Turned G rows width c ys zs → Turned (λ col. G (F col)) rows width c xs zs
turned_then {G = G} p q = record {
  size = q.size ∙ p.size;
  here = q.here ∙ ap G p.here;
  other = λ e he n. q.other e he n ∙ p.other e he n;
}

-- the function may be any that agrees at the column
turned_as : {F : Col → Col} {rows width c : ℕ} {xs ys : List ℕ} (G : Col → Col) → Turned F rows width c xs ys → F (column rows width xs c) ≡ G (column rows width xs c) → Turned G rows width c xs ys
turned_as G p e = record { size = p.size; here = p.here ∙ e; other = p.other }

-- ---- columns one after the other

done_none : (F : Col → Col) (s : Stripe) (xs : List ℕ) → Done F s 0 xs xs
done_none F s xs = record { size = refl; inside = λ k h. absurd (not-suc-le-zero h); outside = λ c h o. refl }

done_more : {F : Col → Col} {s : Stripe} {n : ℕ} {xs ys zs : List ℕ} → s.first + n < s.width
    → Done F s n xs ys → Turned F s.rows s.width (s.first + n) ys zs → Done F s (n + 1) xs zs
done_more {F} {s} {n} {xs} {ys} {zs} h p q = record {
  size = q.size ∙ p.size;
  inside = λ k l. ⊎_elim
      (λ e. rw e (q.here ∙ ap F (p.outside (s.first + n) h (inr (omega arith)))))
      (λ l'. q.other (s.first + k) (omega arith) (omega arith) ∙ p.inside k l')
      (eq-or-lt_of_le (omega arith));
  outside = λ c hc o. ⊎_elim
      (λ b. q.other c hc (omega arith) ∙ p.outside c hc (inl b))
      (λ b. q.other c hc (omega arith) ∙ p.outside c hc (inr (omega arith))) o;
}

-- ---- a turn of a row loop: the code's index is r * width + first + n

-- what a turn's stores leave: on a list of registers that is written out it computes to the stores themselves
abbrev pub puts : Stripe → ℕ → List ℕ → List ℕ → List ℕ → List ℕ
puts s n [] vs ys = ys
puts s n (d ∷ ds) vs ys = puts s n ds (drop 1 vs) (set ys (d * s.width + s.first + n) (get_or vs 0 0))

abbrev pub InRows : Stripe → ℕ → List ℕ → Type 0
InRows s size [] = Unit {0}
InRows s size (d ∷ ds) = InRow s size d × InRows s size ds

turned_puts : (s : Stripe) (n : ℕ) → s.first + n < s.width → (ds vs ys : List ℕ) → InRows s (length ys) ds
    → Turned (stores ds vs) s.rows s.width (s.first + n) ys (puts s n ds vs ys)
turned_puts s n h [] vs ys room = record { size = refl; here = refl; other = λ e he o. refl }
turned_puts s n h (d ∷ ds) vs ys room =
    let in' : d * s.width + (s.first + n) < length ys = omega (arith, room.0.1) in
    let one : Turned (λ col. store col d (get_or vs 0 0)) s.rows s.width (s.first + n) ys (set ys (d * s.width + s.first + n) (get_or vs 0 0)) =
    rw add_assoc (turned_store s.rows s.width ys (s.first + n) d (get_or vs 0 0) h room.0.0 in') in
    turned_then one (turned_puts s n h ds (drop 1 vs) (set ys (d * s.width + s.first + n) (get_or vs 0 0)) (rw (length-set ys (d * s.width + s.first + n) (get_or vs 0 0)) room.1))

at_columns : (s : Stripe) (n size : ℕ) (ys : List ℕ) (ss : List ℕ) → InRows s size ss
    → map (λ r. get_or ys (r * s.width + s.first + n) 0) ss ≡ map (column s.rows s.width ys (s.first + n)) ss
at_columns s n size ys [] room = refl
at_columns s n size ys (r ∷ rs) room =
    ap₂ ◌∷◌ (rw add_assoc (sym (column_at_lem s.width ys (s.first + n) room.0.0))) (at_columns s n size ys rs room.1)

-- the invariant of the row loops: n turns are done
abbrev pub Upto : (Col → Col) → Stripe → ℕ → List ℕ → List ℕ → Type 0
Upto F s n xs ys = (n ≤ s.count) × Done F s n xs ys

-- the one law of the row loops: registers ds take the words that f makes of registers ss
pub turn : (f : List ℕ → List ℕ) (ds ss vs : List ℕ) {s : Stripe} {n : ℕ} {xs ys : List ℕ} → n < s.count → InRows s (length xs) ds → InRows s (length xs) ss
    → vs ≡ f (map (λ r. get_or ys (r * s.width + s.first + n) 0) ss)
    → Upto (λ col. stores ds (f (map col ss)) col) s n xs ys
    → Upto (λ col. stores ds (f (map col ss)) col) s (n + 1) xs (puts s n ds vs ys)
turn f ds ss vs {s} {n} {xs} {ys} l room room' p (_, done) =
    let h : s.first + n < s.width = omega (arith, s.within) in (
      omega arith,
      done_more h done
          (turned_as (λ col. stores ds (f (map col ss)) col) (turned_puts s n h ds vs ys (rw done.size room))
          (ap (λ ws. stores ds ws (column s.rows s.width ys (s.first + n))) (p ∙ ap f (at_columns s n (length xs) ys ss room')))),
    )

-- ---- functions run across one after the other

-- nothing to do in any column
pub across_same : {F : Col → Col} (s : Stripe) (xs : List ℕ) → ((col : Col) → F col ≡ col) → Across F s xs xs
across_same s xs e = record { size = refl; inside = λ k h. sym (e _); outside = λ c h o. refl }

-- the function by another name
pub across_as : {F G : Col → Col} {s : Stripe} {xs ys : List ℕ} → ((col : Col) → F col ≡ G col) → Across F s xs ys → Across G s xs ys
across_as {s = s} {xs = xs} {ys = ys} e a = subst (λ H. Across H s xs ys) (fun_ext e) a

pub across_then : {F G : Col → Col} {s : Stripe} {xs ys zs : List ℕ} → Across F s xs ys → Across G s ys zs → Across (λ col. G (F col)) s xs zs
across_then {G = G} p q = record {
  size = q.size ∙ p.size;
  inside = λ k h. q.inside k h ∙ ap G (p.inside k h);
  outside = λ c h o. q.outside c h o ∙ p.outside c h o;
}

-- ---- the array is determined: it is `on_stripe`

pub length-tabulate : (n : ℕ) (w : ℕ → ℕ) → length (tabulate n w) ≡ n
unfolding tabulate
length-tabulate zero w = refl
length-tabulate (suc n) w = ap suc (length-tabulate n (λ k. w (suc k)))

pub get_d_tabulate : (n : ℕ) (w : ℕ → ℕ) (k : ℕ) → k < n → get_or (tabulate n w) k 0 ≡ w k
unfolding tabulate
get_d_tabulate zero w k h = absurd (not-suc-le-zero h)
get_d_tabulate (suc n) w zero h = refl
get_d_tabulate (suc n) w (suc k) h = get_d_tabulate n (λ j. w (suc j)) k (le_of_suc-le-suc h)

pub in_stripe_lem : (first count k : ℕ) → k < count → in_stripe first count (first + k) ≡ true
in_stripe_lem first count k h = rw (le-leb first (first + k) (omega arith), lt-ltb (first + k) (first + count) (omega arith)) refl

pub below_stripe : (first count c : ℕ) → c < first → in_stripe first count c ≡ false
below_stripe first count c h = rw (lt-leb first c h) refl

pub above_stripe : (first count c : ℕ) → first + count ≤ c → in_stripe first count c ≡ false
above_stripe first count c h = rw (le-leb first c (omega arith), le-ltb c (first + count) h) refl

-- a column is below a stripe, in it, or above it

pub where? : (first count c : ℕ) → (c < first) ⊎ (((k : ℕ) × (k < count) × (c ≡ first + k)) ⊎ (first + count ≤ c))
where? first count c = go (dec_lt c first) (dec_lt c (first + count))
  where
    go : Dec (c < first) → Dec (c < first + count) → (c < first) ⊎ (((k : ℕ) × (k < count) × (c ≡ first + k)) ⊎ (first + count ≤ c))
    go (yes p) q = inl p
    go (no n) (yes q) = inr (inl (c - first, omega arith, omega arith))
    go (no n) (no m) = inr (inr (omega arith))

-- ---- `Across` says what `on_stripe` says

-- of any four numbers, whether or not the columns that they name lie within the width
module _ (F : Col → Col) (rows width first count : ℕ) (xs : List ℕ) (size : length xs ≡ rows * width) where
  abbrev word_of : ℕ → ℕ
  word_of k =
      cond (in_stripe first count (k % width)) (F (column rows width xs (k % width)) (k / width)) (get_or xs k 0)

  pub across_any : {ys : List ℕ} → length ys ≡ length xs
      → ((k : ℕ) → k < count → column rows width ys (first + k) ≡ F (column rows width xs (first + k)))
      → ((c : ℕ) → c < width → (c < first) ⊎ (first + count ≤ c) → column rows width ys c ≡ column rows width xs c)
      → ys ≡ on_stripe F rows width first count xs
  unfolding on_stripe
  across_any {ys} same inside outside =
      ext_get_or 0 ys (tabulate (length xs) word_of) (same ∙ sym (length-tabulate (length xs) word_of)) λ k h.
      at k (subst (λ n. k < n) same h) (where? first count (k % width)) ∙ sym (get_d_tabulate (length xs) word_of k (subst (λ n. k < n) same h))
    where
      small : (k : ℕ) → k < length xs → k % width < width
      small k h = mod-lt k (pos width (subst (λ n. k < n) size h))
        where
          pos : (w : ℕ) → k < rows * w → 0 < w
          pos zero h = absurd (not-suc-le-zero (subst (λ n. k < n) (mul-zero rows) h))
          pos (suc w) h = omega arith

      row : (k : ℕ) → k < length xs → k / width < rows
      row k h = go (dec_lt (k / width) rows)
        where
          go : Dec (k / width < rows) → k / width < rows
          go (yes l) = l
          go (no n) =
              let more : rows ≤ k / width = omega arith in
              absurd (omega (arith, mul-le-mul_right width more, div-add-mod' k width))

      split : (zs : List ℕ) (k : ℕ) → k < length xs → get_or zs k 0 ≡ column rows width zs (k % width) (k / width)
      split zs k h = ap (λ n. get_or zs n 0) (sym (div-add-mod' k width)) ∙ sym (column_at_lem width zs (k % width) (row k h))

      at : (k : ℕ) → k < length xs
          → (k % width < first) ⊎ (((j : ℕ) × (j < count) × (k % width ≡ first + j)) ⊎ (first + count ≤ k % width)) → get_or ys k 0 ≡ word_of k
      at k h (inl b) = rw (below_stripe first count (k % width) b) (split ys k h ∙ ap (λ f. f (k / width)) (outside (k % width) (small k h) (inl b)) ∙ sym (split xs k h))
      at k h (inr (inr b)) = rw (above_stripe first count (k % width) b) (split ys k h ∙ ap (λ f. f (k / width)) (outside (k % width) (small k h) (inr b)) ∙ sym (split xs k h))
      at k h (inr (inl (j, l, p))) = split ys k h ∙ (rw (p, in_stripe_lem first count j l) (ap (λ f. f (k / width)) (inside j l)))

pub across_is : (F : Col → Col) (s : Stripe) (xs : List ℕ) → length xs ≡ s.rows * s.width → {ys : List ℕ} → Across F s xs ys → ys ≡ on_stripe F s.rows s.width s.first s.count xs
across_is F s xs size a = across_any F s.rows s.width s.first s.count xs size a.size a.inside a.outside
