-- Laws of a single column, and of lists of registers in bytes. Assumes nothing.
use mathlib.Core.Path.{◌≡◌, refl, sym, ap, ap₂, ◌∙◌, subst, fun_ext}
use mathlib.Core.List.{List, [], ◌∷◌, map, reverse}
use Prim.Native.Nat.{ℕ, zero, suc, ◌+◌, ◌*◌, ◌-◌, ◌/◌, ◌<◌, ◌≤◌}
use native.Mathlib.Nat.{le_of_suc-le-suc, not-suc-le-zero, suc-ne-zero, add_assoc}
use native.Mathlib.Decide.{ℕ_discrete}
use native.Mathlib.Numerals.{add-one}
use native.Mathlib.Omega.{arith}
use lib.ListN.{length, get_or, take, drop, length-map}
use lib.Seq.{get_or-take, get_or-drop, take_all}
use lib.Dec.{eqb}
use lib.Bits.{bit_xor, xor_zero_l, xor_zero_r}
use mathlib.Core.Bool.{Bool, true, false, cond}
use borrow.Author.Tests.{eq-eqb, ne_eqb}
use Rattle.std.specs.Int.{w32, from_le_bytes}
use Rattle.std.specs.Simd.{first_chunks}
use Rattle.std.proofs.lemmas.List.{get_or-map}
use Rattle.common.specs.Lists.{member, all_below}
use Rattle.common.proofs.Digits.{xor_assoc}
use Rattle.common.proofs.Bools.{neither}
use Rattle.common.proofs.Below.{below_head, below_tail, below_at}
use Rattle.bytecode.specs.Layout.{word_at, words}
use Rattle.bytecode.proofs.Words.{length-words}
use Rattle.accept.specs.Sound.{Apart}
use Rattle.accept.specs.Working.{numbers}
use Rattle.accept.proofs.Fours.{slice_words}
use Rattle.word.specs.Bitwise.{xor_all}
use Rattle.word.proofs.Rules.{reversed}
use Rattle.rows.specs.Column.{Col, store, stores}

-- ---- a store

pub store_here : (col : Col) (d v : ℕ) → store col d v d ≡ v
unfolding store
store_here col d v = rw (eq-eqb d d refl)

pub store_there : (col : Col) (d v : ℕ) {r : ℕ} → (r ≡ d → ⊥) → store col d v r ≡ col r
unfolding store
store_there col d v {r} n = rw (ne_eqb r d n)

pub store_again : (col : Col) (d v w : ℕ) → store (store col d v) d w ≡ store col d w
unfolding store
store_again col d v w = fun_ext λ r. go r (eqb r d)
  where
    go : (r : ℕ) (b : Bool) → cond b w (cond b v (col r)) ≡ cond b w (col r)
    go r true = refl
    go r false = refl

pub store_self : (col : Col) (d : ℕ) → store col d (col d) ≡ col
unfolding store
store_self col d = fun_ext λ r. go r (ℕ_discrete r d)
  where
    go : (r : ℕ) → Dec (r ≡ d) → cond (eqb r d) (col d) (col r) ≡ col r
    go r (yes e) = rw (eq-eqb r d e, e)
    go r (no n) = rw (ne_eqb r d n)

-- ---- a register that is none of a list

other_first : (d r : ℕ) (rs : List ℕ) → member d (r ∷ rs) ≡ false → r ≡ d → ⊥
other_first d r rs e q =
    let z : true ≡ false = sym (eq-eqb r d q) ∙ (neither (eqb r d) (member d rs) e).0 in
    let o : ◌≡◌ {A = ℕ} 0 1 = cc in
    omega arith

other_later : (d r : ℕ) (rs : List ℕ) → member d (r ∷ rs) ≡ false → member d rs ≡ false
other_later d r rs e = (neither (eqb r d) (member d rs) e).1

other_at : (d : ℕ) (rs : List ℕ) (j : ℕ) → member d rs ≡ false → j < length rs → get_or rs j 0 ≡ d → ⊥
other_at d [] j e h = absurd (not-suc-le-zero h)
other_at d (r ∷ rs) zero e h = other_first d r rs e
other_at d (r ∷ rs) (suc j) e h = other_at d rs j (other_later d r rs e) (le_of_suc-le-suc h)

map-store : (col : Col) (d v : ℕ) (rs : List ℕ) → member d rs ≡ false → map (store col d v) rs ≡ map col rs
map-store col d v [] h = refl
map-store col d v (r ∷ rs) h = ap₂ ◌∷◌ (store_there col d v (other_first d r rs h)) (map-store col d v rs (other_later d r rs h))

-- ---- registers in bytes

word_of_list : (s : List ℕ) (at n j : ℕ) → j < n → get_or (words s at n) j 0 ≡ word_at s (at + 4 * j)
word_of_list s at zero j h = absurd (not-suc-le-zero h)
word_of_list s at (suc n) zero h = ap (word_at s) (omega arith)
word_of_list s at (suc n) (suc j) h = word_of_list s (at + 4) n j (le_of_suc-le-suc h) ∙ ap (word_at s) (omega arith)

-- register j of a list of n
pub register_at_lem : (s : List ℕ) (n j : ℕ) {r : ℕ} → j < n → r ≡ word_at s (4 * j) → r ≡ get_or (words s 0 n) j 0
register_at_lem s n j h e = let z : 4 * j ≡ 0 + 4 * j = omega arith in e ∙ ap (word_at s) z ∙ sym (word_of_list s 0 n j h)

pub register_below : (rows : ℕ) (bytes : List ℕ) (k j : ℕ) → all_below rows (words bytes 0 k) ≡ true → j < k → word_at bytes (4 * j) < rows
register_below rows bytes k j below h =
    let there : get_or (words bytes 0 k) j 0 < rows = below_at rows (words bytes 0 k) j below (subst (λ m. j < m) (sym (length-words bytes 0 k)) h) in
    subst (λ x. x < rows) (sym (register_at_lem bytes k j h refl)) there

pub all_taken : (bytes : List ℕ) (k j : ℕ) → k ≤ j → take j (words bytes 0 k) ≡ words bytes 0 k
all_taken bytes k j h = take_all j (words bytes 0 k) (subst (λ m. m ≤ j) (sym (length-words bytes 0 k)) h)

-- a word of a part of the bytes
word_of_part : (s : List ℕ) (k a at : ℕ) → at + 4 ≤ k → word_at (take k (drop a s)) at ≡ word_at s (a + at)
unfolding word_at
word_of_part s k a at h =
    let one : (i : ℕ) → i < 4 → get_or (take k (drop a s)) (at + i) 0 ≡ get_or s (a + at + i) 0 = λ i l. get_or-take k (drop a s) (at + i) 0 (omega arith) ∙ get_or-drop a s (at + i) 0 ∙ ap (λ n. get_or s n 0) (omega arith) in
    let zeroth : get_or (take k (drop a s)) at 0 ≡ get_or s (a + at) 0 = get_or-take k (drop a s) at 0 (omega arith) ∙ get_or-drop a s at 0 in
    omega (arith, zeroth, one 1 (omega arith), one 2 (omega arith), one 3 (omega arith))

pub words_of_part : (s : List ℕ) (k a at n : ℕ) → at + 4 * n ≤ k → words (take k (drop a s)) at n ≡ words s (a + at) n
words_of_part s k a at zero h = refl
words_of_part s k a at (suc n) h =
    ap₂ ◌∷◌ (word_of_part s k a at (omega arith)) (words_of_part s k a (at + 4) n (omega arith) ∙ ap (λ m. words s m n) (sym (add_assoc a at 4)))

words_none : (s : List ℕ) (at n : ℕ) → n ≡ 0 → words s at n ≡ []
words_none s at zero e = refl
words_none s at (suc n) e = absurd (suc-ne-zero n e)

-- ---- a fold of one register more

xor-more : (col : Col) (rs : List ℕ) (j : ℕ) → j < length rs → xor_all (map col (take (j + 1) rs)) ≡ bit_xor (xor_all (map col (take j rs))) (col (get_or rs j 0))
xor-more col rs j h = rw add-one (go rs j h)
  where
    go : (rs : List ℕ) (j : ℕ) → j < length rs → xor_all (map col (take (suc j) rs)) ≡ bit_xor (xor_all (map col (take j rs))) (col (get_or rs j 0))
    go [] j h = absurd (not-suc-le-zero h)
    go (r ∷ rs) zero h = xor_zero_r (col r) ∙ sym (xor_zero_l (col r))
    go (r ∷ rs) (suc j) h =
        ap (bit_xor (col r)) (go rs j (le_of_suc-le-suc h)) ∙ sym (xor_assoc (col r) (xor_all (map col (take j rs))) (col (get_or rs j 0)))

pub xor_start : (d : ℕ) (rs : List ℕ) (col : Col) → store col d (bit_xor (col d) (xor_all (map col (take 0 rs)))) ≡ col
xor_start d rs col = ap (store col d) (xor_zero_r (col d)) ∙ store_self col d

xor-turn : (d : ℕ) (rs : List ℕ) (j s : ℕ) → member d rs ≡ false → j < length rs → s ≡ get_or rs j 0 → (col : Col)
    → store (store col d (bit_xor (col d) (xor_all (map col (take j rs))))) d
    (bit_xor (store col d (bit_xor (col d) (xor_all (map col (take j rs)))) d) (store col d (bit_xor (col d) (xor_all (map col (take j rs)))) s))
    ≡ store col d (bit_xor (col d) (xor_all (map col (take (j + 1) rs))))
xor-turn d rs j s w h e col =
    store_again col d _ _
    ∙ ap (store col d)
    (ap₂ bit_xor (store_here col d _) (store_there col d _ (λ p. other_at d rs j w h (sym e ∙ p)) ∙ ap col e)
    ∙ xor_assoc (col d) (xor_all (map col (take j rs))) (col (get_or rs j 0))
    ∙ ap (bit_xor (col d)) (sym (xor-more col rs j h)))

-- seeded with the first register, the rest folded in
xor_seeded : (d a : ℕ) (rs : List ℕ) → member d (a ∷ rs) ≡ false → (col : Col)
    → store (store col d (col a)) d (bit_xor (store col d (col a) d) (xor_all (map (store col d (col a)) rs))) ≡ store col d (xor_all (map col (a ∷ rs)))
xor_seeded d a rs w col =
    store_again col d _ _
    ∙ ap (store col d) (ap₂ (λ x y. bit_xor x (xor_all y)) (store_here col d (col a)) (map-store col d (col a) rs (other_later d a rs w)))

-- ---- registers as slices of four bytes each

length-numbers : (rs : List (List ℕ)) → length (numbers rs) ≡ length rs
length-numbers rs = length-map rs (λ (r : List ℕ). from_le_bytes w32 r)

number_at : (rs : List (List ℕ)) (i : ℕ) {r : ℕ} → i < length rs → r ≡ from_le_bytes w32 (get_or rs i []) → r ≡ get_or (numbers rs) i 0
number_at rs i h e = e ∙ sym (get_or-map (λ (r : List ℕ). from_le_bytes w32 r) rs i [] 0 h)

pub number_below : (rows : ℕ) (rs : List (List ℕ)) (i : ℕ) {r : ℕ} → all_below rows (numbers rs) ≡ true → i < length rs → r ≡ from_le_bytes w32 (get_or rs i []) → r < rows
number_below rows rs i b h e =
    subst (λ x. x < rows) (sym (number_at rs i h e)) (below_at rows (numbers rs) i b (omega (arith, length-numbers rs)))

-- one register more is folded in
pub number_turn : (d : ℕ) (rs : List (List ℕ)) (i : ℕ) {r : ℕ} → member d (numbers rs) ≡ false → i < length rs → r ≡ from_le_bytes w32 (get_or rs i []) → (col : Col)
    → store (store col d (bit_xor (col d) (xor_all (map col (take i (numbers rs)))))) d
    (bit_xor (store col d (bit_xor (col d) (xor_all (map col (take i (numbers rs))))) d) (store col d (bit_xor (col d) (xor_all (map col (take i (numbers rs))))) r))
    ≡ store col d (bit_xor (col d) (xor_all (map col (take (i + 1) (numbers rs)))))
number_turn d rs i {r} w h e = xor-turn d (numbers rs) i r w (omega (arith, length-numbers rs)) (number_at rs i h e)

-- as `as_chunks` cuts them
abbrev four_each : List ℕ → List (List ℕ)
four_each bytes = first_chunks 4 (length bytes / 4) bytes

-- a BxorMulti's sources: the first, and the later ones
module _ (code : List ℕ) (n : ℕ) (sources : List (List ℕ)) (held : 9 + 4 * n ≤ length code) (chunks : sources ≡ four_each (take (9 + 4 * n - 9) (drop 9 code))) where
  whole : numbers sources ≡ words code 9 n
  whole = rw chunks (slice_words code 9 n held)

  pub sources_none : length sources < 1 → words code 9 n ≡ []
  sources_none h = words_none code 9 n (omega (arith, ap length whole, length-numbers sources, length-words code 9 n))

  module _ (a : ℕ) (some : 1 ≤ length sources) (first : a ≡ from_le_bytes w32 (get_or sources 0 [])) where
    abbrev later : List ℕ
    later = numbers (take (length sources - 1) (drop 1 sources))

    sources_cut : words code 9 n ≡ a ∷ later
    sources_cut = sym whole ∙ go sources some ∙ ap (λ x. x ∷ later) (sym first)
      where
        go : (rs : List (List ℕ)) → 1 ≤ length rs → numbers rs ≡ from_le_bytes w32 (get_or rs 0 []) ∷ numbers (take (length rs - 1) (drop 1 rs))
        go [] h = absurd (omega arith)
        go (r ∷ rs) h = ap (λ xs. from_le_bytes w32 r ∷ numbers xs) (sym (take_all (suc (length rs) - 1) rs (omega arith)))

    pub first_below : (rows : ℕ) → all_below rows (words code 9 n) ≡ true → a < rows
    first_below rows e = below_head rows a later (rw sources_cut at e)

    pub later_below : (rows : ℕ) → all_below rows (words code 9 n) ≡ true → all_below rows later ≡ true
    later_below rows e = below_tail rows a later (rw sources_cut at e)

    pub later_other : (d : ℕ) → member d (words code 9 n) ≡ false → member d later ≡ false
    later_other d e = other_later d a later (rw sources_cut at e)

    pub xor-whole : (d : ℕ) → member d (words code 9 n) ≡ false → (col : Col)
        → store (store col d (col a)) d (bit_xor (store col d (col a) d) (xor_all (map (store col d (col a)) later))) ≡ store col d (xor_all (map col (words code 9 n)))
    xor-whole d e col = xor_seeded d a later (rw sources_cut at e) col ∙ ap (λ rs. store col d (xor_all (map col rs))) (sym sources_cut)

-- ---- outputs stored one after the other

stores_more : (ds vs : List ℕ) (j : ℕ) (col : Col) → j < length ds
    → store (stores (take j ds) vs col) (get_or ds j 0) (get_or vs j 0) ≡ stores (take (j + 1) ds) vs col
stores_more ds vs j col h = rw add-one (go ds vs j col h)
  where
    go : (ds vs : List ℕ) (j : ℕ) (col : Col) → j < length ds → store (stores (take j ds) vs col) (get_or ds j 0) (get_or vs j 0) ≡ stores (take (suc j) ds) vs col
    go [] vs j col h = absurd (not-suc-le-zero h)
    go (d ∷ ds) vs zero col h = refl
    go (d ∷ ds) [] (suc j) col h = go ds [] j (store col d 0) (le_of_suc-le-suc h)
    go (d ∷ ds) (v ∷ vs) (suc j) col h = go ds vs j (store col d v) (le_of_suc-le-suc h)

stores_there : (ds vs ss : List ℕ) (j n : ℕ) (col : Col) → Apart ds ss → n < length ss → stores (take j ds) vs col (get_or ss n 0) ≡ col (get_or ss n 0)
stores_there [] vs ss zero n col a h = refl
stores_there [] vs ss (suc j) n col a h = refl
stores_there (d ∷ ds) vs ss zero n col a h = refl
stores_there (d ∷ ds) vs ss (suc j) n col a h =
    stores_there ds (drop 1 vs) ss j n (store col d (get_or vs 0 0)) a.1 h ∙ store_there col d (get_or vs 0 0) (other_at d ss n a.0 h)

map_at : (col : Col) (rs : List ℕ) (n : ℕ) → n < length rs → get_or (map col rs) n 0 ≡ col (get_or rs n 0)
map_at col [] n h = absurd (not-suc-le-zero h)
map_at col (r ∷ rs) zero h = refl
map_at col (r ∷ rs) (suc n) h = map_at col rs n (le_of_suc-le-suc h)

-- one output more, copied from its input's row
pub mirror_turn : (ins outs : List ℕ) (k j d a : ℕ) → length ins ≡ k → length outs ≡ k → Apart outs ins → j < k → d ≡ get_or outs j 0 → a ≡ get_or ins (k - 1 - j) 0 → (col : Col)
    → store (stores (take j outs) (reverse (map col ins)) col) d (stores (take j outs) (reverse (map col ins)) col a) ≡ stores (take (j + 1) outs) (reverse (map col ins)) col
mirror_turn ins outs k j d a e f apart h p q col =
    rw (p, q)
    (ap (store (stores (take j outs) vs col) (get_or outs j 0))
    (stores_there outs vs ins j (k - 1 - j) col apart (omega arith) ∙ sym value)
    ∙ stores_more outs vs j col (omega arith))
  where
    vs : List ℕ
    vs = reverse (map col ins)

    value : get_or vs j 0 ≡ col (get_or ins (k - 1 - j) 0)
    value =
        let size : length (map col ins) ≡ k = length-map ins col ∙ e in
        reversed (map col ins) j (subst (λ n. j < n) (sym size) h)
        ∙ ap (λ n. get_or (map col ins) (n - 1 - j) 0) size
        ∙ map_at col ins (k - 1 - j) (omega arith)
