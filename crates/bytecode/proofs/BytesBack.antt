-- Encoding what was decoded gives back the bytes, and what was decoded is formed. Assumes nothing.
use Prim.Native.Nat.{ℕ, suc, ◌+◌, ◌*◌, ◌/◌, ◌%◌, ◌^◌, ◌≤◌, ◌<◌}
use mathlib.Core.Path.{◌≡◌, refl, sym, ap, subst, ◌∙◌}
use mathlib.Core.List.{List, [], ◌∷◌, ◌++◌}
use mathlib.Core.Bool.{true, false}
use native.Mathlib.Omega.{arith}
use native.Mathlib.Numerals.{add-one}
use native.Mathlib.Nat.{mod-eq_of_lt}
use borrow.Author.Tests.{eqb-true, eq-eqb, ltb-false}
use lib.Arith.{digits_div, digits_mod}
use lib.ListN.{length, get_or, take, drop}
use lib.Seq.{drop-cons, take-add, drop-drop}
use Rattle.common.specs.Lists.{all_below}
use Rattle.common.proofs.Below.{below-cons, below_more}
use Rattle.bytecode.specs.Opcode.{shape_of}
use Rattle.bytecode.specs.Layout.{AreBytes, le, les, size_as, word_at, words}
use Rattle.bytecode.specs.Instruction.{Inst, shift_bad_variant}
use Rattle.bytecode.specs.Encode.{encode, fields_as, FormedAs, Formed}
use Rattle.bytecode.specs.Parse.{parse, read_as, whole}
use Rattle.bytecode.specs.declared.opcode.Shape.{Shape}
use Rattle.bytecode.specs.declared.opcode.Shape.TheVariants.{Unknown, NotCarried, Fixed, Shift, Many, Hint}
use Rattle.std.proofs.Common.{Ok}
use Rattle.bytecode.specs.Working.{Carried, places_as}
use Rattle.bytecode.proofs.Tables.{opcode_named}
use Rattle.bytecode.proofs.Words.{length-words}
use Rattle.bytecode.proofs.Parses.{whole_read, op_of, dests_of, sources_of, has_size, variant_of_lem, never, positive}

digit : (x y a : ℕ) → x ≡ y * 256 + a → a < 256 → (x % 256 ≡ a) × (x / 256 ≡ y)
digit x y a e h = (rw e (digits_mod y h), rw e (digits_div y h))

le_of : (a b c d : ℕ) → a < 256 → b < 256 → c < 256 → d < 256 → le 4 (a + 256 * b + 65536 * c + 16777216 * d) ≡ a ∷ b ∷ c ∷ d ∷ []
le_of a b c d ha hb hc hd =
    let x = digit (a + 256 * b + 65536 * c + 16777216 * d) (b + 256 * c + 65536 * d) a (omega arith) ha in
    let y = digit (b + 256 * c + 65536 * d) (c + 256 * d) b (omega arith) hb in
    let z = digit (c + 256 * d) d c (omega arith) hc in
    rw (x.0, x.1, y.0, y.1, z.0, z.1, mod-eq_of_lt hd)

pub drop_next : (s : List ℕ) (at k : ℕ) → at < length s → at + 1 ≡ k → drop at s ≡ get_or s at 0 ∷ drop k s
drop_next s at k h e = rw (← e, add-one) (drop-cons s at 0 h)

module _ (s : List ℕ) (ok : AreBytes s) where
  le-at : (at : ℕ) → at + 4 ≤ length s → le 4 (word_at s at) ≡ take 4 (drop at s)
  unfolding word_at
  le-at at h =
      let q : drop at s ≡ get_or s at 0 ∷ get_or s (at + 1) 0 ∷ get_or s (at + 2) 0 ∷ get_or s (at + 3) 0 ∷ drop (at + 4) s =
      rw (
        drop_next s at (at + 1) (omega arith) (omega arith),
        drop_next s (at + 1) (at + 2) (omega arith) (omega arith),
        drop_next s (at + 2) (at + 3) (omega arith) (omega arith),
        drop_next s (at + 3) (at + 4) (omega arith) (omega arith),
      ) in
      le_of (get_or s at 0) (get_or s (at + 1) 0) (get_or s (at + 2) 0) (get_or s (at + 3) 0) (ok at) (ok (at + 1)) (ok (at + 2)) (ok (at + 3)) ∙ rw q

  les_words : (at n : ℕ) → at + 4 * n ≤ length s → les (words s at n) ≡ take (4 * n) (drop at s)
  les_words at ℕ.zero h = refl
  les_words at (suc n) h =
      let e : 4 * suc n ≡ 4 + 4 * n = omega arith in
      rw (e, take-add 4 (4 * n) (drop at s), drop-drop 4 at s, ← le-at at (omega arith))
      (ap (λ (r : List ℕ). le 4 (word_at s at) ++ r) (les_words (at + 4) n (omega arith)))

  -- a run of fields and the run after it
  words_join : (at a b k : ℕ) → at + 4 * a ≡ k → words s at a ++ words s k b ≡ words s at (a + b)
  words_join at ℕ.zero b k e = let f : at ≡ k = omega arith in let g : 0 + b ≡ b = omega arith in rw (f, g)
  words_join at (suc a) b k e =
      let g : suc a + b ≡ suc (a + b) = omega arith in
      rw g (ap (λ (r : List ℕ). word_at s at ∷ r) (words_join (at + 4) a b k (omega arith)))

  -- the fields of a whole instruction, laid again
  fields_back : (sh : Shape) (op n : ℕ) → size_as sh s ≡ Ok (suc n) → suc n ≤ length s → fields_as sh (read_as sh op s) ≡ take n (drop 1 s)
  unfolding size_as read_as
  fields_back Unknown op n e h = absurd (never _ _ e)
  fields_back NotCarried op n e h = absurd (never _ _ e)
  fields_back (Fixed d k p) op n e h =
      let f : 1 + 4 * (d + k + p) ≡ suc n = cc in
      let g : 4 * (d + (k + p)) ≡ n = omega arith in
      rw (words_join (1 + 4 * d) k p (1 + 4 * (d + k)) (omega arith), words_join 1 d (k + p) (1 + 4 * d) refl)
      (les_words 1 (d + (k + p)) (omega arith) ∙ rw g)
  fields_back Shift op n e h =
      let f : 11 ≡ suc n = cc in
      let g : n ≡ 8 + 2 = omega arith in
      let q : drop 9 s ≡ get_or s 9 0 ∷ get_or s 10 0 ∷ drop 11 s = rw (drop_next s 9 10 (omega arith) refl, drop_next s 10 11 (omega arith) refl) in
      rw (g, take-add 8 2 (drop 1 s), drop-drop 8 1 s, q) (ap (λ (r : List ℕ). r ++ (get_or s 9 0 ∷ get_or s 10 0 ∷ [])) (les_words 1 2 (omega arith)))
  fields_back Many op n e h =
      let k = word_at s 5 in
      let f : 9 + 4 * word_at s 5 ≡ suc n = cc in
      let g : 4 * suc (suc k) ≡ n = omega arith in
      rw (length-words s 9 k) (les_words 1 (suc (suc k)) (omega arith) ∙ rw g)
  fields_back Hint op n e h =
      let d = word_at s 5 in
      let i = word_at s (9 + 4 * d) in
      let o = word_at s (13 + 4 * d) in
      let f : 17 + 4 * (word_at s 5 + word_at s (9 + 4 * word_at s 5) + word_at s (13 + 4 * word_at s 5)) ≡ suc n = cc in
      let g : 4 * suc (suc (d + suc (suc (i + o)))) ≡ n = omega arith in
      let p₁ : 9 + 4 * d + 4 ≡ 13 + 4 * d = omega arith in
      let p₂ : 13 + 4 * d + 4 ≡ 17 + 4 * d = omega arith in
      let j : words s 9 d ++ (i ∷ o ∷ words s (17 + 4 * d) (i + o)) ≡ words s 9 (d + suc (suc (i + o))) =
      sym (ap (λ (r : List ℕ). words s 9 d ++ r) (rw (p₁, p₂))) ∙ words_join 9 d (suc (suc (i + o))) (9 + 4 * d) refl in
      rw (length-words s 9 d, length-words s (17 + 4 * d) i, length-words s (17 + 4 * (d + i)) o, words_join (17 + 4 * d) i o (17 + 4 * (d + i)) (omega arith), j)
      (les_words 1 (suc (suc (d + suc (suc (i + o))))) (omega arith) ∙ rw g)

  back_at : (n : ℕ) → size_as (shape_of (get_or s 0 0)) s ≡ Ok n → n ≤ length s → encode (read_as (shape_of (get_or s 0 0)) (get_or s 0 0) s) ≡ take n s
  unfolding read_as
  back_at ℕ.zero e h = absurd (omega (arith, positive (shape_of (get_or s 0 0)) s 0 e))
  back_at (suc m) e h =
      let op = get_or s 0 0 in
      let q : s ≡ op ∷ drop 1 s = drop_next s 0 1 (omega arith) refl in
      rw (op_of (shape_of op) op s) (ap (λ (r : List ℕ). op ∷ r) (fields_back (shape_of op) op m e h) ∙ sym (ap (take (suc m)) q))

  -- encoding what was decoded gives back the bytes it was decoded from
  pub bytes_back : (i : Inst) (n : ℕ) → parse s ≡ whole i n → encode i ≡ take n s
  bytes_back i n e =
      let r = whole_read s i n e in
      rw r.is_read (back_at n r.size r.within)

-- ---- what was decoded is formed

module _ (s : List ℕ) (ok : AreBytes s) where
  pub word_small : (at : ℕ) → word_at s at < 2 ^ 32
  unfolding word_at
  word_small at = omega (arith, ok at, ok (at + 1), ok (at + 2), ok (at + 3))

  pub words_small : (at n : ℕ) → all_below (2 ^ 32) (words s at n) ≡ true
  words_small at ℕ.zero = refl
  words_small at (suc n) = below-cons (2 ^ 32) (word_at s at) (words s (at + 4) n) (word_small at) (words_small (at + 4) n)

  two_bytes : all_below 256 (get_or s 9 0 ∷ get_or s 10 0 ∷ []) ≡ true
  two_bytes = below-cons 256 (get_or s 9 0) (get_or s 10 0 ∷ []) (ok 9) (below-cons 256 (get_or s 10 0) [] (ok 10) refl)

  formed_as : (sh : Shape) (op : ℕ) → Carried sh → (sh ≡ Shift → get_or s 9 0 ≤ 7) → FormedAs sh (read_as sh op s)
  unfolding read_as
  formed_as Unknown op c low = c
  formed_as NotCarried op c low = c
  formed_as (Fixed d k p) op c low = (length-words s 1 d, length-words s (1 + 4 * d) k, length-words s (1 + 4 * (d + k)) p)
  formed_as Shift op c low = (refl, refl, refl, low refl, two_bytes)
  formed_as Many op c low = (refl, refl, rw (length-words s 9 (word_at s 5)) (word_small 5))
  formed_as Hint op c low =
      let d = word_at s 5 in
      let i = word_at s (9 + 4 * d) in
      let o = word_at s (13 + 4 * d) in (
        omega arith,
        rw (length-words s 9 d) (omega (arith, word_small 5)),
        rw (length-words s (17 + 4 * d) i) (word_small (9 + 4 * d)),
        rw (length-words s (17 + 4 * (d + i)) o) (word_small (13 + 4 * d)),
      )

  numbers_small : (sh : Shape) (op : ℕ) → all_below (2 ^ 32) (read_as sh op s).numbers ≡ true
  unfolding read_as
  numbers_small Unknown op = refl
  numbers_small NotCarried op = refl
  numbers_small (Fixed d k p) op = words_small (1 + 4 * (d + k)) p
  numbers_small Shift op = below_more 256 (2 ^ 32) (get_or s 9 0 ∷ get_or s 10 0 ∷ []) (omega arith) two_bytes
  numbers_small Many op = refl
  numbers_small Hint op = below-cons (2 ^ 32) (word_at s 1) (words s 9 (word_at s 5)) (word_small 1) (words_small 9 (word_at s 5))

  -- the variant that the decoder let through
  low_variant : (op : ℕ) → shift_bad_variant (read_as (shape_of op) op s) ≡ false → shape_of op ≡ Shift → get_or s 9 0 ≤ 7
  low_variant op v e =
      let n = eqb-true op 0x10 (rw e at (opcode_named op)) in
      ltb-false 7 (get_or s 9 0) (rw (eq-eqb op 0x10 n) at (sym (variant_of_lem op s) ∙ v))

  pub parsed_formed : (i : Inst) (n : ℕ) → parse s ≡ whole i n → Formed i
  parsed_formed i n e =
      let r = whole_read s i n e in
      let op = get_or s 0 0 in
      let sh = shape_of op in
      subst Formed (sym r.is_read) (record {
        shape =
            subst (λ (o : ℕ). FormedAs (shape_of o) (read_as sh op s)) (sym (op_of sh op s))
            (formed_as sh op (has_size sh s n r.size) (low_variant op (ap shift_bad_variant (sym r.is_read) ∙ r.variant)));
        dests = rw (dests_of sh op s) (words_small (places_as sh s).to (places_as sh s).dests);
        sources = rw (sources_of sh op s) (words_small (places_as sh s).from (places_as sh s).sources);
        numbers = numbers_small sh op;
      })
