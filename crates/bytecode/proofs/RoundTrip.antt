-- Decoding what was encoded, whatever follows, gives back the instruction and its length. Assumes nothing.
use Prim.Native.Nat.{ℕ, suc, ◌+◌, ◌*◌, ◌^◌, ◌<◌}
use mathlib.Core.Path.{◌≡◌, refl, sym, ap, ap₂, ◌∙◌}
use mathlib.Core.List.{List, [], ◌∷◌, ◌++◌, append_assoc}
use mathlib.Core.Bool.{true, false, and-false}
use native.Mathlib.Omega.{arith}
use native.Mathlib.Nat.{add-zero}
use borrow.Author.Tests.{ne_eqb, le-ltb}
use lib.ListN.{length, get_or, drop, length-append, length-drop}
use lib.Seq.{get_or-drop, get_or-append-add, drop-drop, drop_at}
use Rattle.common.specs.Lists.{all_below}
use Rattle.common.proofs.Below.{below_head, below_tail}
use Rattle.bytecode.specs.Opcode.{shape_of}
use Rattle.bytecode.specs.Layout.{le, les, size_as, word_at, words}
use Rattle.bytecode.specs.Instruction.{Inst, shift_bad_variant}
use Rattle.bytecode.specs.Encode.{encode, FormedAs, Formed}
use Rattle.bytecode.specs.Parse.{parse, read_as, whole}
use Rattle.bytecode.specs.declared.opcode.Shape.{Shape}
use Rattle.bytecode.specs.declared.opcode.Shape.TheVariants.{Unknown, NotCarried, Fixed, Shift, Many, Hint}
use Rattle.bytecode.proofs.Words.{length-les, les_app}
use Rattle.bytecode.proofs.Tables.{settle}
use Rattle.bytecode.proofs.Parses.{parse_of}

-- ---- fields that were laid are read back

word_front : (x : ℕ) (r : List ℕ) → x < 2 ^ 32 → word_at (le 4 x ++ r) 0 ≡ x
unfolding word_at
word_front x r h = omega arith

word-drop : (s : List ℕ) (at : ℕ) → word_at s at ≡ word_at (drop at s) 0
unfolding word_at
word-drop s at = rw (get_or-drop at s 0 0, get_or-drop at s 1 0, get_or-drop at s 2 0, get_or-drop at s 3 0, add-zero at)

words-drop : (s : List ℕ) (at n : ℕ) → words s at n ≡ words (drop at s) 0 n
words-drop s at ℕ.zero = refl
words-drop s at (suc n) = ap₂ ◌∷◌ (word-drop s at) (words-drop s (at + 4) n ∙ rw (← drop-drop 4 at s) (sym (words-drop (drop at s) 4 n)))

words_front : (xs r : List ℕ) → all_below (2 ^ 32) xs ≡ true → words (les xs ++ r) 0 (length xs) ≡ xs
words_front [] r h = refl
words_front (x ∷ xs) r h = ap₂ ◌∷◌ (word_front x (les xs ++ r) (below_head (2 ^ 32) x xs h)) (words-drop (les (x ∷ xs) ++ r) 4 (length xs) ∙ words_front xs r (below_tail (2 ^ 32) x xs h))

-- after a part of the given length
pub words_mid : (p xs r : List ℕ) (at n : ℕ) → length p ≡ at → length xs ≡ n → all_below (2 ^ 32) xs ≡ true → words (p ++ (les xs ++ r)) at n ≡ xs
words_mid p xs r at n e f h = words-drop (p ++ (les xs ++ r)) at n ∙ rw (drop_at p (les xs ++ r) at e, ← f) (words_front xs r h)

pub word_mid : (p : List ℕ) (x : ℕ) (r : List ℕ) (at : ℕ) → length p ≡ at → x < 2 ^ 32 → word_at (p ++ (le 4 x ++ r)) at ≡ x
word_mid p x r at e h = word-drop (p ++ (le 4 x ++ r)) at ∙ rw (drop_at p (le 4 x ++ r) at e) (word_front x r h)

byte_mid : (p q : List ℕ) (at k : ℕ) → length p + k ≡ at → get_or (p ++ q) at 0 ≡ get_or q k 0
byte_mid p q at k e = rw (← e) (get_or-append-add p q k 0)

-- ---- the round trip

-- a formed shift has one of the eight variants
pub formed_variant : (i : Inst) → FormedAs (shape_of i.op) i → shift_bad_variant i ≡ false
formed_variant i ok =
    settle i.op 0x10
    (λ e. rw (le-ltb 7 (get_or i.numbers 0 0) (rw e at ok).3, and-false))
    (λ n. rw (ne_eqb i.op 0x10 n))

pub one : (l : List ℕ) → 0 < length l → l ≡ get_or l 0 0 ∷ drop 1 l
one [] e = absurd (omega arith)
one (x ∷ l) e = refl

two : (l : List ℕ) → length l ≡ 2 → l ≡ get_or l 0 0 ∷ get_or l 1 0 ∷ []
two [] e = absurd (omega arith)
two (x ∷ []) e = absurd (omega arith)
two (x ∷ y ∷ []) e = refl
two (x ∷ y ∷ z ∷ l) e = absurd (omega arith)

-- what the counts of a hint and the whole of it read
record Hinted (l : List ℕ) (i : Inst) (k : ℕ) : Type 0 where
  dimensions : word_at l 5 ≡ k
  inputs : word_at l (9 + 4 * k) ≡ length i.sources
  outputs : word_at l (13 + 4 * k) ≡ length i.dests
  read : read_as Hint i.op l ≡ i

module _ (i : Inst) (rest : List ℕ) (variant : shift_bad_variant i ≡ false) (ok_d : all_below (2 ^ 32) i.dests ≡ true) (okS : all_below (2 ^ 32) i.sources ≡ true) (okN : all_below (2 ^ 32) i.numbers ≡ true) where
  abbrev D : List ℕ
  D = les i.dests

  abbrev S : List ℕ
  S = les i.sources

  abbrev N : List ℕ
  N = les i.numbers

  fixed : (d n p : ℕ) → length i.dests ≡ d → length i.sources ≡ n → length i.numbers ≡ p
      → read_as (Fixed d n p) i.op (i.op ∷ (D ++ (S ++ (N ++ rest)))) ≡ i
  unfolding read_as
  fixed d n p e f g =
      let a = words_mid (i.op ∷ []) i.dests (S ++ (N ++ rest)) 1 d refl e ok_d in
      let b = words_mid (i.op ∷ D) i.sources (N ++ rest) (1 + 4 * d) n (omega (arith, length-les i.dests)) f okS in
      let c = words_mid (i.op ∷ (D ++ S)) i.numbers rest (1 + 4 * (d + n)) p (omega (arith, length-append D S, length-les i.dests, length-les i.sources)) g okN in
      rw (a, b, rw append_assoc at c)

  many : length i.dests ≡ 1 → i.numbers ≡ [] → length i.sources < 2 ^ 32
      → (word_at (i.op ∷ (D ++ (le 4 (length i.sources) ++ (S ++ rest)))) 5 ≡ length i.sources)
      × (read_as Many i.op (i.op ∷ (D ++ (le 4 (length i.sources) ++ (S ++ rest)))) ≡ i)
  unfolding read_as
  many e f g =
      let n = length i.sources in
      let a = words_mid (i.op ∷ []) i.dests (le 4 n ++ (S ++ rest)) 1 1 refl e ok_d in
      let w = word_mid (i.op ∷ D) n (S ++ rest) 5 (omega (arith, length-les i.dests)) g in
      let b = words_mid (i.op ∷ (D ++ le 4 n)) i.sources rest 9 n (omega (arith, length-append D (le 4 n), length-les i.dests)) refl okS in
      (w, rw (a, w, rw append_assoc at b, ← f))

  size_many : length i.dests ≡ 1 → length (les (i.dests ++ (length i.sources ∷ i.sources))) ≡ 8 + 4 * length i.sources
  size_many e = omega (arith, length-les (i.dests ++ (length i.sources ∷ i.sources)), length-append i.dests (length i.sources ∷ i.sources))

  shift : (v m : ℕ) → length i.dests ≡ 1 → length i.sources ≡ 1 → i.numbers ≡ v ∷ m ∷ []
      → read_as Shift i.op (i.op ∷ (D ++ (S ++ (v ∷ m ∷ rest)))) ≡ i
  unfolding read_as
  shift v m e f g =
      let z : length (i.op ∷ (D ++ S)) ≡ 9 = omega (arith, length-append D S, length-les i.dests, length-les i.sources) in
      let a = words_mid (i.op ∷ []) i.dests (S ++ (v ∷ m ∷ rest)) 1 1 refl e ok_d in
      let b = words_mid (i.op ∷ D) i.sources (v ∷ m ∷ rest) 5 1 (omega (arith, length-les i.dests)) f okS in
      let c = rw append_assoc at (byte_mid (i.op ∷ (D ++ S)) (v ∷ m ∷ rest) 9 0 (omega arith)) in
      let d = rw append_assoc at (byte_mid (i.op ∷ (D ++ S)) (v ∷ m ∷ rest) 10 1 (omega arith)) in
      rw (a, b, c, d, ← g)

  hint : (x : ℕ) (dims : List ℕ) → i.numbers ≡ x ∷ dims → all_below (2 ^ 32) (x ∷ dims) ≡ true → length dims < 2 ^ 32 → length i.sources < 2 ^ 32 → length i.dests < 2 ^ 32
      → Hinted (i.op ∷ (le 4 x ++ (le 4 (length dims) ++ (les dims ++ (le 4 (length i.sources) ++ (le 4 (length i.dests) ++ (S ++ (D ++ rest)))))))) i (length dims)
  unfolding read_as
  hint x dims e okM hd hi ho =
      let op = i.op in
      let k = length dims in
      let n = length i.sources in
      let o = length i.dests in
      let M = les dims in
      let t₁ = S ++ (D ++ rest) in
      let t₂ = le 4 n ++ (le 4 o ++ t₁) in
      let lm = length-les dims in
      let ls = length-les i.sources in
      let l = op ∷ (le 4 x ++ (le 4 k ++ (M ++ t₂))) in
      let a : word_at l 1 ≡ x = word_mid (op ∷ []) x (le 4 k ++ (M ++ t₂)) 1 refl (below_head (2 ^ 32) x dims okM) in
      let b : word_at l 5 ≡ k = word_mid (op ∷ le 4 x) k (M ++ t₂) 5 refl hd in
      let c : words l 9 k ≡ dims = words_mid (op ∷ (le 4 x ++ le 4 k)) dims t₂ 9 k refl refl (below_tail (2 ^ 32) x dims okM) in
      let d : word_at l (9 + 4 * k) ≡ n = rw append_assoc at (word_mid ((op ∷ (le 4 x ++ le 4 k)) ++ M) n (le 4 o ++ t₁) (9 + 4 * k) (omega arith) hi) in
      let q₁ = M ++ le 4 n in
      let q₂ = M ++ (le 4 n ++ le 4 o) in
      let q₃ = M ++ (le 4 n ++ (le 4 o ++ S)) in
      let f : word_at l (13 + 4 * k) ≡ o =
      rw (append_assoc M (le 4 n) (le 4 o ++ t₁)) at (word_mid (op ∷ (le 4 x ++ (le 4 k ++ q₁))) o t₁ (13 + 4 * k) (omega (arith, length-append M (le 4 n))) ho) in
      let g : words l (17 + 4 * k) n ≡ i.sources =
      rw (append_assoc M (le 4 n ++ le 4 o) t₁) at (words_mid (op ∷ (le 4 x ++ (le 4 k ++ q₂))) i.sources (D ++ rest) (17 + 4 * k) n (omega (arith, length-append M (le 4 n ++ le 4 o))) refl okS) in
      let h : words l (17 + 4 * (k + n)) o ≡ i.dests =
      rw (append_assoc M (le 4 n ++ (le 4 o ++ S)) (D ++ rest)) at (words_mid (op ∷ (le 4 x ++ (le 4 k ++ q₃))) i.dests rest (17 + 4 * (k + n)) o (omega (arith, length-append M (le 4 n ++ (le 4 o ++ S)))) refl ok_d) in
      record { dimensions = b; inputs = d; outputs = f; read = rw (b, d, f, h, g, a, c, ← e) }

  hint_go : (x : ℕ) (dims : List ℕ) → i.numbers ≡ x ∷ dims → all_below (2 ^ 32) (x ∷ dims) ≡ true → shape_of i.op ≡ Hint
      → length dims < 2 ^ 32 → length i.sources < 2 ^ 32 → length i.dests < 2 ^ 32 → parse (encode i ++ rest) ≡ whole i (length (encode i))
  unfolding size_as
  hint_go x dims g okM e hd hi ho =
      let k = length dims in
      let n = length i.sources in
      let o = length i.dests in
      let fs = n ∷ o ∷ (i.sources ++ i.dests) in
      let l = i.op ∷ (le 4 x ++ (le 4 k ++ (les dims ++ (le 4 n ++ (le 4 o ++ (S ++ (D ++ rest))))))) in
      let h : encode i ++ rest ≡ l =
      rw (e, g, les_app dims fs, les_app i.sources i.dests, append_assoc (les dims) (le 4 n ++ (le 4 o ++ (S ++ D))) rest, append_assoc S D rest) in
      let m : length (encode i) ≡ 17 + 4 * (k + n + o) =
      rw (e, g) (omega (arith, length-les (dims ++ fs), length-append dims fs, length-append i.sources i.dests)) in
      let r = hint x dims g okM hd hi ho in
      rw (h, m) (parse_of l Hint (17 + 4 * (k + n + o)) (omega arith) (omega (arith, ap length h, length-append (encode i) rest)) e (rw (r.dimensions, r.inputs, r.outputs)) (ap shift_bad_variant r.read ∙ variant)
      ∙ ap (λ (j : Inst). whole j (17 + 4 * (k + n + o))) r.read)

  go : (sh : Shape) → shape_of i.op ≡ sh → FormedAs sh i → parse (encode i ++ rest) ≡ whole i (length (encode i))
  unfolding size_as
  go Unknown e ok = absurd ok
  go NotCarried e ok = absurd ok
  go (Fixed d n p) e ok =
      let l = i.op ∷ (D ++ (S ++ (N ++ rest))) in
      let h : encode i ++ rest ≡ l = rw (e, les_app i.dests (i.sources ++ i.numbers), les_app i.sources i.numbers, append_assoc D (S ++ N) rest, append_assoc S N rest) in
      let m : length (encode i) ≡ 1 + 4 * (d + n + p) = rw e (omega (arith, length-les (i.dests ++ (i.sources ++ i.numbers)), length-append i.dests (i.sources ++ i.numbers), length-append i.sources i.numbers)) in
      let r = fixed d n p ok.0 ok.1 ok.2 in
      rw (h, m) (parse_of l (Fixed d n p) (1 + 4 * (d + n + p)) (omega arith) (omega (arith, ap length h, length-append (encode i) rest)) e refl (ap shift_bad_variant r ∙ variant)
      ∙ ap (λ (j : Inst). whole j (1 + 4 * (d + n + p))) r)
  go Shift e ok =
      let v = get_or i.numbers 0 0 in
      let m = get_or i.numbers 1 0 in
      let l = i.op ∷ (D ++ (S ++ (v ∷ m ∷ rest))) in
      let g = two i.numbers ok.2 in
      let h : encode i ++ rest ≡ l =
      rw (e, les_app i.dests i.sources, append_assoc (D ++ S) i.numbers rest, append_assoc D S (i.numbers ++ rest))
      (ap (λ (r : List ℕ). i.op ∷ (D ++ (S ++ (r ++ rest)))) g) in
      let n : length (encode i) ≡ 11 = rw e (omega (arith, length-append (les (i.dests ++ i.sources)) i.numbers, length-les (i.dests ++ i.sources), length-append i.dests i.sources)) in
      let r = shift v m ok.0 ok.1 g in
      rw (h, n) (parse_of l Shift 11 (omega arith) (omega (arith, ap length h, length-append (encode i) rest)) e refl (ap shift_bad_variant r ∙ variant)
      ∙ ap (λ (j : Inst). whole j 11) r)
  go Many e ok =
      let k = length i.sources in
      let l = i.op ∷ (D ++ (le 4 k ++ (S ++ rest))) in
      let h : encode i ++ rest ≡ l = rw (e, les_app i.dests (k ∷ i.sources), append_assoc D (le 4 k ++ S) rest) in
      let m : length (encode i) ≡ 9 + 4 * k = rw e (omega (arith, size_many ok.0)) in
      let r = many ok.0 ok.1 ok.2 in
      rw (h, m) (parse_of l Many (9 + 4 * k) (omega arith) (omega (arith, ap length h, length-append (encode i) rest)) e (rw r.0) (ap shift_bad_variant r.1 ∙ variant)
      ∙ ap (λ (j : Inst). whole j (9 + 4 * k)) r.1)
  go Hint e ok =
      let g = one i.numbers ok.0 in
      hint_go (get_or i.numbers 0 0) (drop 1 i.numbers) g (rw g at okN) e (omega (arith, length-drop 1 i.numbers)) ok.2 ok.3

-- Decoding what was encoded, whatever follows, gives back the instruction and its length
pub round_trip : (i : Inst) (rest : List ℕ) → Formed i → parse (encode i ++ rest) ≡ whole i (length (encode i))
round_trip i rest f = go i rest (formed_variant i f.shape) f.dests f.sources f.numbers (shape_of i.op) refl f.shape
