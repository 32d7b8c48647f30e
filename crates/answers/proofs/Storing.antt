-- Reading and storing from a place on, where past the list's end another value is read and nothing is stored. Assumes nothing.
use Rattle.std.proofs.Common.{◌≡◌, ℕ, zero, suc, ◌+◌, ◌-◌, ◌<◌, ◌≤◌, Bool, true, false, min, List, [], ◌∷◌, ◌++◌, length, get_or, set, take, drop, refl, ap, ◌∙◌, sym, arith, ltb, ltb-true, ltb-false}
use Rattle.std.proofs.lemmas.List.{get_or-drop, get_or_past, set_past, length-set, length-take-le, take_min, take_all, take_rest}
use Rattle.std.proofs.lemmas.List.Edits.{sets, sets-eq}
use Rattle.std.proofs.Math.Seq.{paste}
use Rattle.std.proofs.Math.Nat.{min-eq_left, min-eq_right, min-le_left, min-le_right}

-- what is read of the rest of a list, by its place in the list
pub read_from : {A : Type 0} (list : List A) (place from i : ℕ) (otherwise : A) → from ≡ min place (length list) → get_or (take (length list - from) (drop from list)) i otherwise ≡ get_or list (place + i) otherwise
read_from list place from i otherwise is = ap (λ l. get_or l i otherwise) (take_rest list from) ∙ get_or-drop from list i otherwise ∙ go (ltb place (length list)) refl
  where
    go : (t : Bool) → ltb place (length list) ≡ t → get_or list (from + i) otherwise ≡ get_or list (place + i) otherwise
    go true e =
        let below : place < length list = ltb-true place (length list) e in
        ap (λ k. get_or list (k + i) otherwise) (is ∙ min-eq_left {n = place} {m = length list} (omega arith))
    go false e =
        let past : length list ≤ place = ltb-false place (length list) e in
        let end : from ≡ length list = is ∙ min-eq_right {n = length list} {m = place} past in
        get_or_past list (from + i) otherwise (omega (arith, end)) ∙ sym (get_or_past list (place + i) otherwise (omega arith))

-- past the end nothing is stored
pub sets_past : {A : Type 0} (list : List A) (place : ℕ) (values : List A) → length list ≤ place → sets list place values ≡ list
sets_past list place [] past = refl
sets_past list place (value ∷ values) past = ap (λ l. sets l (suc place) values) (set_past list place value past) ∙ sets_past list (suc place) values (omega arith)

-- as many values as there is room for
pub sets_within : {A : Type 0} (list : List A) (place : ℕ) (values : List A) → sets list place (take (length list - place) values) ≡ sets list place values
sets_within list place [] = ap (sets list place) (take_all (length list - place) [] (omega arith))
sets_within list place (value ∷ values) = go (ltb place (length list)) refl (sets_within (set list place value) (suc place) values)
  where
    go : (t : Bool) → ltb place (length list) ≡ t → sets (set list place value) (suc place) (take (length (set list place value) - suc place) values) ≡ sets (set list place value) (suc place) values → sets list place (take (length list - place) (value ∷ values)) ≡ sets list place (value ∷ values)
    go false e rest =
        let past : length list ≤ place = ltb-false place (length list) e in
        sets_past list place (take (length list - place) (value ∷ values)) past ∙ sym (sets_past list place (value ∷ values) past)
    go true e rest =
        let within : place < length list = ltb-true place (length list) e in
        let kept : length (set list place value) ≡ length list = length-set list place value in
        let more : length list - place ≡ suc (length (set list place value) - suc place) = omega (arith, kept) in
        ap (λ k. sets list place (take k (value ∷ values))) more ∙ rest

-- what a copy of as many values as there is room for leaves
module _ {A : Type 0} (list values : List A) (place from n : ℕ) (is : from ≡ min place (length list)) (room : n ≡ min (length list - from) (length values)) where
  within : from + n ≤ length list
  within =
      let low = min-le_right place (length list) in
      let few = min-le_left (length list - from) (length values) in
      omega (arith, is, room, low, few)

  pub many : n ≡ length (take n values)
  many = sym (length-take-le n values (let few = min-le_right (length list - from) (length values) in omega (arith, room, few)))

  first : sets list from (take n values) ≡ sets list from values
  first = ap (λ k. sets list from (take k values)) room ∙ ap (sets list from) (take_min (length list - from) values) ∙ sets_within list from values

  there : sets list from values ≡ sets list place values
  there = go (ltb place (length list)) refl
    where
      go : (t : Bool) → ltb place (length list) ≡ t → sets list from values ≡ sets list place values
      go true e =
          let below : place < length list = ltb-true place (length list) e in
          ap (λ k. sets list k values) (is ∙ min-eq_left {n = place} {m = length list} (omega arith))
      go false e =
          let past : length list ≤ place = ltb-false place (length list) e in
          let end : from ≡ length list = is ∙ min-eq_right {n = length list} {m = place} past in
          sets_past list from values (omega (arith, end)) ∙ sym (sets_past list place values past)

  pub sets_from_copy : paste list from (take n values) n ≡ sets list place values
  sets_from_copy =
      let vs = take n values in
      let m = many in
      let w = within in
      ap (paste list from vs) m
      ∙ ap (λ l. (take from list ++ l) ++ drop (from + length vs) list) (take_all (length vs) vs (omega arith))
      ∙ sym (sets-eq vs list from (omega (arith, m, w)))
      ∙ first
      ∙ there
