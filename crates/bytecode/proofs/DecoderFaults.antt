-- The decoder's refusals: each number is given exactly when document 01's table says so and no lower number is due. Assumes nothing.
use Prim.Native.Nat.{ℕ, suc, ◌+◌, ◌*◌, ◌<◌}
use mathlib.Core.Path.{◌≡◌, refl, sym, ap, ◌∙◌}
use mathlib.Core.Logic.{◌↔◌, inr, ⊎_elim}
use mathlib.Core.List.{List, [], ◌∷◌, map}
use mathlib.Core.Bool.{Bool, true, false, not, cond, ◌&&◌, ◌||◌}
use native.Mathlib.Omega.{arith}
use borrow.Author.Tests.{eqb-true, eq-eqb, ne_eqb, ltb-true, lt-ltb, not-true}
use lib.Dec.{eqb, ltb}
use lib.ListN.{length, get_or}
use Rattle.common.specs.Order.{Lowest}
use Rattle.common.proofs.Rules.{Rule, rule, first_of, holds, nth_holds, each_back, first_exactly, given_positive}
use Rattle.common.specs.Lists.{member}
use Rattle.common.proofs.Bools.{both, either, or_second}
use Rattle.bytecode.specs.Opcode.{Line, table, lookup, shape_of}
use Rattle.bytecode.specs.Layout.{word_at, size_as}
use Rattle.bytecode.specs.Instruction.{Inst}
use Rattle.bytecode.specs.Parse.{Parsed, whole, refused, parse, sized, read}
use Rattle.bytecode.specs.Faults.{opcodes, TooShort, DecoderFault, unknown_opcode, not_carried, no_bytes, truncated, bad_variant_byte}
use Rattle.bytecode.specs.Working.{variant_over}
use Rattle.bytecode.specs.declared.opcode.Shape.{Shape}
use Rattle.bytecode.specs.declared.opcode.Shape.TheVariants.{Unknown, NotCarried, Fixed, Shift, Many, Hint}
use Rattle.refusal.specs.declared.Refusal.{Refusal}
use Rattle.std.proofs.Common.{Result, Ok, Err}
use Rattle.bytecode.proofs.Tables.{settle, all_lines, look_up}
use Rattle.bytecode.proofs.Parses.{clash, variant_of_lem}

-- ---- 4 and 5, by the table

abbrev is_unknown : Shape → Bool
is_unknown Unknown = true
is_unknown NotCarried = false
is_unknown (Fixed d n p) = false
is_unknown Shift = false
is_unknown Many = false
is_unknown Hint = false

abbrev is_not_carried : Shape → Bool
is_not_carried Unknown = false
is_not_carried NotCarried = true
is_not_carried (Fixed d n p) = false
is_not_carried Shift = false
is_not_carried Many = false
is_not_carried Hint = false

unknown_in : (ls : List Line) → all_lines (λ b sh. not (is_unknown sh)) ls ≡ true → (op : ℕ) → is_unknown (lookup ls op) ≡ not (member op (map (λ (l : Line). l.byte) ls))
unknown_in [] h op = refl
unknown_in (l ∷ ls) h op =
    let b = both (not (is_unknown l.shape)) (all_lines (λ b sh. not (is_unknown sh)) ls) h in
    settle op l.byte
    (λ e. rw (eq-eqb op l.byte e, eq-eqb l.byte op (sym e)) (not-true _ b.0))
    (λ n. rw (ne_eqb op l.byte n, ne_eqb l.byte op (λ e. n (sym e))) (unknown_in ls b.1 op))

unknown_is : (op : ℕ) → is_unknown (shape_of op) ≡ not (member op opcodes)
unknown_is op = unknown_in table refl op

uncarried_of : (op : ℕ) → is_not_carried (shape_of op) ≡ true → op ≡ 0x31
uncarried_of op e = eqb-true op 0x31 (imply (is_not_carried (shape_of op)) (eqb op 0x31) (look_up (λ b sh. not (is_not_carried sh) || eqb b 0x31) (λ b. refl) table refl op) e)
  where
    imply : (p q : Bool) → (not p || q) ≡ true → p ≡ true → q ≡ true
    imply true q e h = e
    imply false q e h = let z : ◌≡◌ {A = ℕ} 0 1 = cc in absurd (omega arith)

of_uncarried : (op : ℕ) → op ≡ 0x31 → is_not_carried (shape_of op) ≡ true
of_uncarried op e = ap (λ (n : ℕ). is_not_carried (shape_of n)) e

-- ---- 6

abbrev shorter : ℕ → Result ℕ Refusal → Bool
shorter m (Ok n) = ltb m n
shorter m (Err r) = false

abbrev short : Shape → List ℕ → Bool
short sh s = shorter (length s) (size_as sh s)

short_is : (sh : Shape) (s : List ℕ) → TooShort sh s → short sh s ≡ true
unfolding size_as
short_is Unknown s h = absurd h
short_is NotCarried s h = absurd h
short_is (Fixed d n p) s h = lt-ltb _ _ h
short_is Shift s h = lt-ltb _ _ h
short_is Many s h = lt-ltb (length s) (9 + 4 * word_at s 5) (⊎_elim (λ a. omega arith) (λ a. a) h)
short_is Hint s h =
    lt-ltb (length s) (17 + 4 * (word_at s 5 + word_at s (9 + 4 * word_at s 5) + word_at s (13 + 4 * word_at s 5)))
    (⊎_elim (λ a. omega arith) (λ b. ⊎_elim (λ a. omega arith) (λ a. a) b) h)

is_short : (sh : Shape) (s : List ℕ) → short sh s ≡ true → TooShort sh s
unfolding size_as
is_short Unknown s e = let z : ◌≡◌ {A = ℕ} 0 1 = cc in omega arith
is_short NotCarried s e = let z : ◌≡◌ {A = ℕ} 0 1 = cc in omega arith
is_short (Fixed d n p) s e = ltb-true _ _ e
is_short Shift s e = ltb-true _ _ e
is_short Many s e = inr (ltb-true _ _ e)
is_short Hint s e = inr (inr (ltb-true _ _ e))

-- ---- the decoder's tests in number order

module _ (s : List ℕ) where
  abbrev op : ℕ
  op = get_or s 0 0

  abbrev none : Bool
  none = eqb (length s) 0

  abbrev pub decoder_rules : List Rule
  decoder_rules =
      rule 4 (not none && is_unknown (shape_of op))
      ∷ rule 5 (not none && is_not_carried (shape_of op))
      ∷ rule 6 (none || short (shape_of op) s)
      ∷ rule 7 (variant_over op s)
      ∷ []

  some : 0 < length s → none ≡ false
  some h = ne_eqb (length s) 0 (λ e. omega arith)

  pub fault_holds : (k : ℕ) → DecoderFault s k → holds decoder_rules k ≡ true
  fault_holds k (unknown_opcode h e) = rw (some h, unknown_is op, e)
  fault_holds k (not_carried h e) = rw (some h, of_uncarried op e)
  fault_holds k (no_bytes e) = rw (eq-eqb (length s) 0 e)
  fault_holds k (truncated h) = nth_holds decoder_rules 2 (or_second none (short (shape_of op) s) (short_is (shape_of op) s h))
  fault_holds k (bad_variant_byte o v) = rw (eq-eqb op 0x10 o, lt-ltb 7 (get_or s 9 0) v)

  positive : (none ≡ false) → 0 < length s
  positive e = go (length s) e
    where
      go : (n : ℕ) → eqb n 0 ≡ false → 0 < n
      go ℕ.zero e = let z : ◌≡◌ {A = ℕ} 0 1 = cc in absurd (omega arith)
      go (suc n) e = omega arith

  pub holds_fault : (k : ℕ) → holds decoder_rules k ≡ true → DecoderFault s k
  holds_fault =
      each_back (DecoderFault s) decoder_rules (
        λ t. let b = both (not none) (is_unknown (shape_of op)) t in unknown_opcode (positive (not-true _ b.0)) (not-true _ (sym (unknown_is op) ∙ b.1)),
        (
          λ t. let b = both (not none) (is_not_carried (shape_of op)) t in not_carried (positive (not-true _ b.0)) (uncarried_of op b.1),
          (
            λ t. either none (short (shape_of op) s) t (λ z. no_bytes (eqb-true (length s) 0 z)) (λ z. truncated (is_short (shape_of op) s z)),
            (λ t. let b = both (eqb op 0x10) (ltb 7 (get_or s 9 0)) t in bad_variant_byte (eqb-true op 0x10 b.0) (ltb-true 7 (get_or s 9 0) b.1), tt),
          ),
        ),
      )

-- ---- what they say together is what the decoder answers

abbrev pub length_of : Result ℕ Refusal → ℕ
length_of (Ok n) = n
length_of (Err r) = 0

-- a number that is given, or the instruction where it is 0
abbrev pub answered : ℕ → Parsed → Parsed
answered ℕ.zero p = p
answered (suc k) p = refused (suc k) 0

module _ (s : List ℕ) (some : eqb (length s) 0 ≡ false) where
  abbrev op' : ℕ
  op' = get_or s 0 0

  abbrev entire : Result ℕ Refusal → Parsed
  entire z = whole (read s) (length_of z)

  carried : (n : ℕ) → sized (Ok n) s ≡ answered (cond (ltb (length s) n) 6 (cond (variant_over op' s) 7 0)) (whole (read s) n)
  unfolding sized
  carried n = rw (variant_of_lem op' s) (go (ltb (length s) n) (variant_over op' s))
    where
      go : (p q : Bool) → cond p (refused 6 0) (cond q (refused 7 0) (whole (read s) n)) ≡ answered (cond p 6 (cond q 7 0)) (whole (read s) n)
      go true q = refl
      go false true = refl
      go false false = refl

  by_shape : (sh : Shape) → shape_of op' ≡ sh
      → sized (size_as sh s) s ≡ answered (cond (is_unknown sh) 4 (cond (is_not_carried sh) 5 (cond (short sh s) 6 (cond (variant_over op' s) 7 0)))) (entire (size_as sh s))
  unfolding size_as sized
  by_shape Unknown e = refl
  by_shape NotCarried e = refl
  by_shape (Fixed d n p) e = carried (1 + 4 * (d + n + p))
  by_shape Shift e = carried 11
  by_shape Many e = carried (9 + 4 * word_at s 5)
  by_shape Hint e = carried (17 + 4 * (word_at s 5 + word_at s (9 + 4 * word_at s 5) + word_at s (13 + 4 * word_at s 5)))

pub parse_first : (s : List ℕ) → parse s ≡ answered (first_of (decoder_rules s)) (whole (read s) (length_of (size_as (shape_of (get_or s 0 0)) s)))
unfolding parse
parse_first s = go (eqb (length s) 0) refl
  where
    go : (t : Bool) → eqb (length s) 0 ≡ t → parse s ≡ answered (first_of (decoder_rules s)) (whole (read s) (length_of (size_as (shape_of (get_or s 0 0)) s)))
    go true e = rw e
    go false e = rw e (by_shape s e (shape_of (get_or s 0 0)) refl)

answered_refused : (m : ℕ) (i : Inst) (n k o : ℕ) → answered m (whole i n) ≡ refused k o → (m ≡ k) × (o ≡ 0) × (0 < k)
answered_refused ℕ.zero i n k o e = absurd (clash k o i n (sym e))
answered_refused (suc m) i n k o e = let q : suc m ≡ k = cc in (q, cc, omega arith)

answered_given : (m : ℕ) (p : Parsed) → 0 < m → answered m p ≡ refused m 0
answered_given ℕ.zero p h = absurd (omega arith)
answered_given (suc m) p h = refl

-- a number is given exactly when the table says so and no lower number is due
pub decoder_exactly : (s : List ℕ) (k o : ℕ) → (parse s ≡ refused k o) ↔ ((o ≡ 0) × Lowest (DecoderFault s) k)
decoder_exactly s k o = (
  λ e.
      let a = answered_refused (first_of (decoder_rules s)) (read s) _ k o (sym (parse_first s) ∙ e) in
      (a.1, (first_exactly (decoder_rules s) refl (DecoderFault s) (fault_holds s) (holds_fault s) k a.2).0 a.0),
  λ h.
      let p = given_positive (decoder_rules s) refl (DecoderFault s) (fault_holds s) (holds_fault s) k h.1.given in
      let f = (first_exactly (decoder_rules s) refl (DecoderFault s) (fault_holds s) (holds_fault s) k p).1 h.1 in
      parse_first s ∙ ap (λ (m : ℕ). answered m (whole (read s) (length_of (size_as (shape_of (get_or s 0 0)) s)))) f ∙ answered_given k _ p ∙ ap (refused k) (sym h.0),
)

-- 5 is given for 0x31 and for no other byte
pub not_carried_alone : (s : List ℕ) (o : ℕ) → (parse s ≡ refused 5 o) ↔ ((o ≡ 0) × ((0 < length s) × (get_or s 0 0 ≡ 0x31)))
not_carried_alone s o = (
  λ e. let h = (decoder_exactly s 5 o).0 e in (h.0, bmul s h.1.given),
  λ h. (decoder_exactly s 5 o).1 (h.0, record { given = not_carried h.1.0 h.1.1; first = λ j l f. lower s h.1.0 h.1.1 j l f }),
)
  where
    bmul : (s : List ℕ) → DecoderFault s 5 → (0 < length s) × (get_or s 0 0 ≡ 0x31)
    bmul s (not_carried h e) = (h, e)

    lower : (s : List ℕ) → 0 < length s → get_or s 0 0 ≡ 0x31 → (j : ℕ) → j < 5 → DecoderFault s j → ⊥
    lower s h e j l (unknown_opcode z f) = let q : ◌≡◌ {A = ℕ} 0 1 = cc in omega arith
    lower s h e j l (not_carried z f) = omega arith
    lower s h e j l (no_bytes z) = omega arith
    lower s h e j l (truncated z) = omega arith
    lower s h e j l (bad_variant_byte z f) = omega arith
