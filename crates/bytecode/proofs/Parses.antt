-- What a parse says of the bytes, and the other way about. Assumes nothing.
use Prim.Native.Nat.{ℕ, ◌+◌, ◌*◌, ◌≤◌, ◌<◌}
use mathlib.Core.Path.{◌≡◌, refl, sym, ap, ◌∙◌}
use mathlib.Core.List.{List, [], ◌∷◌}
use mathlib.Core.Bool.{Bool, true, false}
use native.Mathlib.Omega.{arith}
use borrow.Author.Tests.{eq-eqb, ne_eqb, le-ltb, ltb-false}
use lib.ListN.{length, get_or}
use lib.Dec.{eqb, ltb}
use Rattle.refusal.specs.declared.Refusal.{Refusal}
use Rattle.refusal.specs.declared.Refusal.TheVariants as R
use Rattle.bytecode.specs.Opcode.{shape_of}
use Rattle.bytecode.specs.Layout.{word_at, words, size_as}
use Rattle.bytecode.specs.Instruction.{Inst, shift_bad_variant}
use Rattle.bytecode.specs.Parse.{Parsed, whole, refused, refuse, parse, sized, read_as, read}
use Rattle.bytecode.specs.Working.{Carried, places_as, variant_over}
use Rattle.bytecode.specs.declared.opcode.Shape.{Shape}
use Rattle.bytecode.specs.declared.opcode.Shape.TheVariants.{Unknown, NotCarried, Fixed, Shift, Many, Hint}
use Rattle.std.proofs.Common.{Result, Ok, Err}
use Rattle.bytecode.proofs.Tables.{settle}

-- ---- an instruction's length

-- only a carried opcode has one
pub never : (r : Refusal) (n : ℕ) → Err r ≡ Ok n → ⊥
never r n e = let z : ◌≡◌ {A = ℕ} 0 1 = cc in omega arith

pub has_size : (sh : Shape) (s : List ℕ) (n : ℕ) → size_as sh s ≡ Ok n → Carried sh
unfolding size_as
has_size Unknown s n e = never _ n e
has_size NotCarried s n e = never _ n e
has_size (Fixed d k p) s n e = tt
has_size Shift s n e = tt
has_size Many s n e = tt
has_size Hint s n e = tt

-- and it is a byte or more
pub positive : (sh : Shape) (s : List ℕ) (n : ℕ) → size_as sh s ≡ Ok n → 0 < n
unfolding size_as
positive Unknown s n e = absurd (never _ n e)
positive NotCarried s n e = absurd (never _ n e)
positive (Fixed d k p) s n e = let f : 1 + 4 * (d + k + p) ≡ n = cc in omega arith
positive Shift s n e = let f : 11 ≡ n = cc in omega arith
positive Many s n e = let f : 9 + 4 * word_at s 5 ≡ n = cc in omega arith
positive Hint s n e =
    let f : 17 + 4 * (word_at s 5 + word_at s (9 + 4 * word_at s 5) + word_at s (13 + 4 * word_at s 5)) ≡ n = cc in
    omega arith

-- ---- the lists of an instruction that was read

fields_of_lem : (sh : Shape) (op : ℕ) (s : List ℕ)
    → ((read_as sh op s).op ≡ op) × ((read_as sh op s).dests ≡ words s (places_as sh s).to (places_as sh s).dests) × ((read_as sh op s).sources ≡ words s (places_as sh s).from (places_as sh s).sources)
unfolding read_as places_as
fields_of_lem Unknown op s = (refl, refl, refl)
fields_of_lem NotCarried op s = (refl, refl, refl)
fields_of_lem (Fixed d n p) op s = (refl, refl, refl)
fields_of_lem Shift op s = (refl, refl, refl)
fields_of_lem Many op s = (refl, refl, refl)
fields_of_lem Hint op s = (refl, refl, refl)

pub op_of : (sh : Shape) (op : ℕ) (s : List ℕ) → (read_as sh op s).op ≡ op
op_of sh op s = (fields_of_lem sh op s).0

pub dests_of : (sh : Shape) (op : ℕ) (s : List ℕ) → (read_as sh op s).dests ≡ words s (places_as sh s).to (places_as sh s).dests
dests_of sh op s = (fields_of_lem sh op s).1

pub sources_of : (sh : Shape) (op : ℕ) (s : List ℕ) → (read_as sh op s).sources ≡ words s (places_as sh s).from (places_as sh s).sources
sources_of sh op s = (fields_of_lem sh op s).2

-- the registers of a whole instruction lie in the bytes
pub places_in : (sh : Shape) (s : List ℕ) (n : ℕ) → size_as sh s ≡ Ok n → n ≤ length s
    → ((places_as sh s).to + 4 * (places_as sh s).dests ≤ length s) × ((places_as sh s).from + 4 * (places_as sh s).sources ≤ length s)
unfolding size_as places_as
places_in Unknown s n e h = absurd (never _ n e)
places_in NotCarried s n e h = absurd (never _ n e)
places_in (Fixed d k p) s n e h = let f : 1 + 4 * (d + k + p) ≡ n = cc in omega arith
places_in Shift s n e h = let f : 11 ≡ n = cc in omega arith
places_in Many s n e h = let f : 9 + 4 * word_at s 5 ≡ n = cc in omega arith
places_in Hint s n e h =
    let f : 17 + 4 * (word_at s 5 + word_at s (9 + 4 * word_at s 5) + word_at s (13 + 4 * word_at s 5)) ≡ n = cc in
    omega arith

-- a variant over 7, by the bytes
pub variant_of_lem : (op : ℕ) (s : List ℕ) → shift_bad_variant (read_as (shape_of op) op s) ≡ variant_over op s
unfolding read_as
variant_of_lem op s = settle op 0x10 (λ e. rw e) (λ n. rw (op_of (shape_of op) op s, ne_eqb op 0x10 n))

-- ---- from the bytes to the parse

-- no bytes at all
pub parse_none : (s : List ℕ) → length s ≡ 0 → parse s ≡ refused 6 0
unfolding parse
parse_none s e = rw (eq-eqb (length s) 0 e)

-- the first byte, where there is one
pub first_is : (s : List ℕ) (op : ℕ) → true ≡ ltb 0 (length s) → op ≡ get_or s 0 op → (0 < length s) × (op ≡ get_or s 0 0)
first_is [] op e h = let z : ◌≡◌ {A = ℕ} 0 1 = cc in absurd (omega arith)
first_is (x ∷ s) op e h = (omega arith, h)

-- once there is a byte and the length is known
pub parse_is : (s : List ℕ) (op : ℕ) (sh : Shape) (z z' : Result ℕ Refusal) → (0 < length s) × (op ≡ get_or s 0 0) → sh ≡ shape_of op → z ≡ size_as sh s → z ≡ z'
    → parse s ≡ sized z' s
unfolding parse
parse_is s op sh z z' h e f g =
    let d : shape_of (get_or s 0 0) ≡ sh = rw (← h.1) (sym e) in
    rw (ne_eqb (length s) 0 (λ n. omega (arith, h.0)), d, ← f, g)

-- once the instruction is known to be whole
pub parse_of : (s : List ℕ) (sh : Shape) (n : ℕ) → 0 < n → n ≤ length s → shape_of (get_or s 0 0) ≡ sh → size_as sh s ≡ Ok n → shift_bad_variant (read_as sh (get_or s 0 0) s) ≡ false
    → parse s ≡ whole (read_as sh (get_or s 0 0) s) n
unfolding parse sized
parse_of s sh n p h e f v = rw (ne_eqb (length s) 0 (λ z. omega arith), e, f, le-ltb (length s) n h, e, v)

-- ---- and back

-- a whole instruction is no refusal
pub clash : (r at : ℕ) (i : Inst) (n : ℕ) → refused r at ≡ whole i n → ⊥
clash r at i n e = let z : ◌≡◌ {A = ℕ} 0 1 = cc in omega arith

refuse_whole : (t : Bool) (r : Refusal) (p : Parsed) (i : Inst) (n : ℕ) → refuse t r p ≡ whole i n → (t ≡ false) × (p ≡ whole i n)
refuse_whole true r p i n e = absurd (clash _ 0 i n e)
refuse_whole false r p i n e = (refl, e)

pub record Read (s : List ℕ) (i : Inst) (z : Result ℕ Refusal) (n : ℕ) : Type 0 where
  pub size : z ≡ Ok n
  pub within : n ≤ length s
  pub is_read : i ≡ read s
  pub variant : shift_bad_variant i ≡ false

sized_whole : (z : Result ℕ Refusal) (s : List ℕ) (i : Inst) (n : ℕ) → sized z s ≡ whole i n → Read s i z n
unfolding sized
sized_whole (Err r) s i n e = absurd (clash _ 0 i n e)
sized_whole (Ok m) s i n e =
    let p = refuse_whole (ltb (length s) m) R.Truncated (refuse (shift_bad_variant (read s)) R.BadShift (whole (read s) m)) i n e in
    let q = refuse_whole (shift_bad_variant (read s)) R.BadShift (whole (read s) m) i n p.1 in
    let f : m ≡ n = cc q.1 in
    let g : i ≡ read s = cc q.1 in
    record { size = ap Ok f; within = omega (arith, ltb-false (length s) m p.0); is_read = g; variant = ap shift_bad_variant g ∙ q.0 }

pub whole_read : (s : List ℕ) (i : Inst) (n : ℕ) → parse s ≡ whole i n → Read s i (size_as (shape_of (get_or s 0 0)) s) n
unfolding parse
whole_read s i n e = sized_whole _ s i n (refuse_whole (eqb (length s) 0) R.Truncated _ i n e).1

-- ---- every refusal of the decoder points at the opcode byte

refuse_at : (t : Bool) (q : Refusal) (p : Parsed) (r o : ℕ) → (p ≡ refused r o → o ≡ 0) → refuse t q p ≡ refused r o → o ≡ 0
refuse_at true q p r o h e = cc
refuse_at false q p r o h e = h e

sized_at : (z : Result ℕ Refusal) (s : List ℕ) (r o : ℕ) → sized z s ≡ refused r o → o ≡ 0
unfolding sized
sized_at (Err q) s r o e = cc
sized_at (Ok n) s r o e =
    refuse_at (ltb (length s) n) R.Truncated _ r o
    (refuse_at (shift_bad_variant (read s)) R.BadShift (whole (read s) n) r o (λ z. absurd (clash r o (read s) n (sym z))))
    e

pub refused_at : (s : List ℕ) (r o : ℕ) → parse s ≡ refused r o → o ≡ 0
unfolding parse
refused_at s r o e = refuse_at (eqb (length s) 0) R.Truncated _ r o (sized_at (size_as (shape_of (get_or s 0 0)) s) s r o) e
