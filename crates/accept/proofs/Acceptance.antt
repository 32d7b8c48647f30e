-- A program is accepted exactly where rows and length are within their limits and its bytes are the encodings, one after the other, of sound
-- instructions. Assumes nothing.
use Prim.Native.Nat.{ℕ, suc, ◌+◌, ◌*◌, ◌-◌, ◌≤◌, ◌<◌}
use mathlib.Core.Path.{◌≡◌, refl, sym, ap, ap₂, subst, ◌∙◌}
use mathlib.Core.Logic.{◌↔◌}
use mathlib.Core.List.{List, [], ◌∷◌, ◌++◌}
use mathlib.Core.Bool.{Bool, true, false, cond}
use native.Mathlib.Omega.{arith}
use borrow.Author.Tests.{eq-eqb, ne_eqb, le-ltb, ltb-false}
use lib.Dec.{ltb}
use lib.ListN.{length, get_or, drop, length-append, length-drop, take-append-drop, drop_of_length-le}
use lib.Seq.{get_or-drop, drop-append_seam}
use Rattle.shift.specs.Variant.{bad_variant, bad_amount, width_of, variant_of}
use Rattle.shift.proofs.Codes.{let_by}
use Rattle.bytecode.specs.Layout.{AreBytes}
use Rattle.bytecode.specs.Instruction.{Inst}
use Rattle.bytecode.specs.Encode.{encode, Formed}
use Rattle.bytecode.specs.Parse.{Parsed, whole, refused, parse}
use Rattle.bytecode.specs.Program.{bytes_of, program_of}
use Rattle.bytecode.proofs.Tables.{settle}
use Rattle.bytecode.proofs.RoundTrip.{round_trip, formed_variant}
use Rattle.bytecode.proofs.BytesBack.{bytes_back, parsed_formed}
use Rattle.bytecode.proofs.EncodedBytes.{nine_bytes, register_bytes}
use Rattle.bytecode.proofs.Programs.{program_next, program_none, program_empty, whole_within}
use Rattle.accept.specs.Check.{Verdict, accepted, refusal, judged, first_then, and_then, walk_from, check_of, shift_bad_amount}
use Rattle.accept.specs.Sound.{Sound, AllSound, Acceptable}
use Rattle.accept.proofs.Walks.{walk_end, walk_next}
use Rattle.accept.proofs.Soundness.{clash, fits_amount, judged_sound, sound_judged}

-- ---- an accepted walk

and-accepted : (v : Verdict) (at : ℕ) (w : Verdict) → and_then v at w ≡ accepted → (v ≡ accepted) × (w ≡ accepted)
and-accepted accepted at w e = (refl, e)
and-accepted (refusal r o) at w e = absurd (clash r (at + o) e)

-- the first instruction is whole and judged accepted, and so is what follows
pub first_accepted : (rows : ℕ) (p : Parsed) (at : ℕ) (more : ℕ → Verdict) → first_then rows p at more ≡ accepted
    → (i : Inst) × (n : ℕ) × (p ≡ whole i n) × (judged rows i ≡ accepted) × (more n ≡ accepted)
first_accepted rows (refused r o) at more e = absurd (clash r (at + o) e)
first_accepted rows (whole i n) at more e = let h = and-accepted (judged rows i) at (more n) e in (i, n, refl, h.0, h.1)

pub rest_bytes : (s : List ℕ) (n : ℕ) → AreBytes s → AreBytes (drop n s)
rest_bytes s n ok at = rw (get_or-drop n s at 0) (ok (n + at))

pub record Walked (rows : ℕ) (s : List ℕ) : Type 0 where
  pub sound : AllSound rows (program_of s)
  pub bytes : s ≡ bytes_of (program_of s)

walked_empty : (rows : ℕ) (s : List ℕ) → length s ≡ 0 → Walked rows s
walked_empty rows s e =
    let p = program_empty s e in
    let n : s ≡ [] = sym (take-append-drop 0 s) ∙ drop_of_length-le s {i = 0} (omega arith) in
    record { sound = rw p tt; bytes = n ∙ sym (ap bytes_of p) }

walked_more : (rows : ℕ) (s : List ℕ) (i : Inst) (n : ℕ) → AreBytes s → parse s ≡ whole i n → judged rows i ≡ accepted → Walked rows (drop n s) → Walked rows s
walked_more rows s i n ok e j w =
    let p = program_next s i n e in
    record {
      sound = rw p (judged_sound rows i (parsed_formed s ok i n e) j, w.sound);
      bytes = sym (take-append-drop n s) ∙ ap₂ ◌++◌ (sym (bytes_back s ok i n e)) w.bytes ∙ sym (ap bytes_of p);
    }

walk_sound : (k rows : ℕ) (s : List ℕ) (at : ℕ) → AreBytes s → length s ≤ k → walk_from k rows s at ≡ accepted → Walked rows s
unfolding walk_from
walk_sound ℕ.zero rows s at ok h e = walked_empty rows s (omega arith)
walk_sound (suc k) rows s at ok h e =
    settle (length s) 0
    (λ z. walked_empty rows s z)
    (λ z.
    let f = first_accepted rows (parse s) at (λ n. walk_from k rows (drop n s) (at + n)) (rw (ne_eqb (length s) 0 z) at e) in
    let n = f.1 in
    walked_more rows s f.0 n ok f.2 f.3
    (walk_sound k rows (drop n s) (at + n) (rest_bytes s n ok) (omega (arith, whole_within s f.0 n f.2, length-drop n s)) f.4))

-- ---- and back

long_encode : (i : Inst) → Formed i → (length (encode i) ≡ 0 → ⊥)
long_encode i f e = omega (arith, nine_bytes i f)

-- a sound instruction is passed, whatever follows
pub pass_one : (k rows : ℕ) (i : Inst) (rest : List ℕ) (at : ℕ) → Sound rows i → 0 < k
    → walk_from k rows (encode i ++ rest) at ≡ walk_from (k - 1) rows rest (at + length (encode i))
pass_one k rows i rest at s h =
    walk_next rows (encode i ++ rest) at k i (length (encode i)) h (λ e. omega (arith, length-append (encode i) rest, nine_bytes i s.formed))
    (round_trip i rest s.formed) (sound_judged rows i s)
    ∙ ap (λ (l : List ℕ). walk_from (k - 1) rows l (at + length (encode i))) (drop-append_seam (encode i) rest)

walk_accepted : (k rows : ℕ) (is : List Inst) (at : ℕ) → AllSound rows is → length (bytes_of is) ≤ k → walk_from k rows (bytes_of is) at ≡ accepted
walk_accepted k rows [] at s h = walk_end rows [] at k refl
walk_accepted k rows (i ∷ is) at s h =
    let l = length-append (encode i) (bytes_of is) in
    let n = nine_bytes i s.0.formed in
    pass_one k rows i (bytes_of is) at s.0 (omega arith)
    ∙ walk_accepted (k - 1) rows is (at + length (encode i)) s.1 (omega arith)

-- ---- the law

pub limits : (s : List ℕ) (rows : ℕ) → check_of s rows ≡ accepted → (rows ≤ 8192) × (length s ≤ 65536) × (walk_from (length s) rows s 0 ≡ accepted)
unfolding check_of
limits s rows e = first (ltb 8192 rows) refl e
  where
    second : (t : Bool) → ltb 65536 (length s) ≡ t → rows ≤ 8192 → cond t (refusal 3 0) (walk_from (length s) rows s 0) ≡ accepted → (rows ≤ 8192) × (length s ≤ 65536) × (walk_from (length s) rows s 0 ≡ accepted)
    second true h r e = absurd (clash 3 0 e)
    second false h r e = (r, ltb-false 65536 (length s) h, e)

    first : (t : Bool) → ltb 8192 rows ≡ t → cond t (refusal 1 0) (cond (ltb 65536 (length s)) (refusal 3 0) (walk_from (length s) rows s 0)) ≡ accepted → (rows ≤ 8192) × (length s ≤ 65536) × (walk_from (length s) rows s 0 ≡ accepted)
    first true h e = absurd (clash 1 0 e)
    first false h e = second (ltb 65536 (length s)) refl (ltb-false 8192 rows h) e

-- what an accepted program is: the form in which a run uses it
pub record Accepted (s : List ℕ) (rows : ℕ) : Type 0 where
  pub few_rows : rows ≤ 8192
  pub short : length s ≤ 65536
  pub sound : AllSound rows (program_of s)
  pub bytes : s ≡ bytes_of (program_of s)

pub accepted_program : (s : List ℕ) (rows : ℕ) → AreBytes s → check_of s rows ≡ accepted → Accepted s rows
accepted_program s rows ok e =
    let l = limits s rows e in
    let w = walk_sound (length s) rows s 0 ok (omega arith) l.2 in
    record { few_rows = l.0; short = l.1; sound = w.sound; bytes = w.bytes }

pub acceptable_check : (s : List ℕ) (rows : ℕ) → Acceptable s rows → check_of s rows ≡ accepted
unfolding check_of
acceptable_check s rows a =
    rw (le-ltb 8192 rows a.few_rows, le-ltb 65536 (length s) a.short)
    (ap (λ (l : List ℕ). walk_from (length l) rows l 0) a.bytes ∙ walk_accepted (length (bytes_of a.program)) rows a.program 0 a.sound (omega arith))

pub accepted_exactly : (s : List ℕ) (rows : ℕ) → AreBytes s → (check_of s rows ≡ accepted) ↔ Acceptable s rows
accepted_exactly s rows ok = (
  λ e. let p = accepted_program s rows ok e in record { few_rows = p.few_rows; short = p.short; program = program_of s; bytes = p.bytes; sound = p.sound },
  acceptable_check s rows,
)

-- ---- an accepted program has at most 7,281 instructions

sound_long : (rows : ℕ) (is : List Inst) → AllSound rows is → 9 * length is ≤ length (bytes_of is)
sound_long rows [] s = omega arith
sound_long rows (i ∷ is) s = omega (arith, length-append (encode i) (bytes_of is), nine_bytes i s.0.formed, sound_long rows is s.1)

pub few_instructions : (s : List ℕ) (rows : ℕ) → Accepted s rows → length (program_of s) ≤ 7281
few_instructions s rows a = omega (arith, sound_long rows (program_of s) a.sound, ap length a.bytes, a.short)

-- an instruction of a sound program is sound
pub sound_here : (rows : ℕ) (is : List Inst) (n : ℕ) (i : Inst) (js : List Inst) → AllSound rows is → drop n is ≡ i ∷ js → Sound rows i
sound_here rows [] ℕ.zero i js s e = let z : ◌≡◌ {A = ℕ} 0 1 = cc in absurd (omega arith)
sound_here rows [] (suc n) i js s e = let z : ◌≡◌ {A = ℕ} 0 1 = cc in absurd (omega arith)
sound_here rows (j ∷ is) ℕ.zero i js s e = let q : j ≡ i = cc in subst (Sound rows) q s.0
sound_here rows (j ∷ is) (suc n) i js s e = sound_here rows is n i js s.1 e

-- ---- what a run rests on

-- the empty program is accepted at every row count up to the limit
pub empty_accepted : (rows : ℕ) → rows ≤ 8192 → check_of [] rows ≡ accepted
empty_accepted rows h = acceptable_check [] rows (record { few_rows = h; short = omega arith; program = []; bytes = refl; sound = tt })

-- a sound shift meets what a shift requires
pub sound_shift : (rows : ℕ) (i : Inst) → Sound rows i → i.op ≡ 0x10
    → (bad_variant (get_or i.numbers 0 0) ≡ false) × (get_or i.numbers 1 0 < width_of (variant_of (get_or i.numbers 0 0)))
unfolding shift_bad_amount
sound_shift rows i s o =
    let v = get_or i.numbers 0 0 in
    let m = get_or i.numbers 1 0 in
    let p : bad_variant v ≡ false = rw (eq-eqb i.op 0x10 o) at (formed_variant i s.formed.shape) in
    let q : bad_amount v m ≡ false = rw (eq-eqb i.op 0x10 o) at (fits_amount i s.amount) in
    (p, let_by v m p q)

-- an accepted program names at most 16,383 registers
abbrev pub registers_of : List Inst → ℕ
registers_of [] = 0
registers_of (i ∷ is) = length i.dests + length i.sources + registers_of is

sound_registers : (rows : ℕ) (is : List Inst) → AllSound rows is → 4 * registers_of is + length is ≤ length (bytes_of is)
sound_registers rows [] s = omega arith
sound_registers rows (i ∷ is) s = omega (arith, length-append (encode i) (bytes_of is), register_bytes i s.0.formed, sound_registers rows is s.1)

pub few_registers : (s : List ℕ) (rows : ℕ) → Accepted s rows → registers_of (program_of s) ≤ 16383
few_registers s rows a = go (program_of s) (sound_registers rows (program_of s) a.sound) (ap length a.bytes)
  where
    go : (is : List Inst) → 4 * registers_of is + length is ≤ length (bytes_of is) → length s ≡ length (bytes_of is) → registers_of is ≤ 16383
    go [] h e = omega arith
    go (i ∷ is) h e = omega (arith, a.short)

-- ---- a run through an accepted program: what is left at each place is such bytes again, and the decoder refuses none of it

pub accepted_walked : (s : List ℕ) (rows : ℕ) → Accepted s rows → Walked rows s
accepted_walked s rows a = record { sound = a.sound; bytes = a.bytes }

pub walked_next : (rows : ℕ) (s : List ℕ) (i : Inst) (n : ℕ) → Walked rows s → parse s ≡ whole i n → Sound rows i × Walked rows (drop n s)
walked_next rows s i n w e =
    let p = program_next s i n e in
    let a : AllSound rows (i ∷ program_of (drop n s)) = rw p at w.sound in
    let b : s ≡ encode i ++ bytes_of (program_of (drop n s)) = w.bytes ∙ ap bytes_of p in
    let q : n ≡ length (encode i) = same_length i (length (encode i)) (sym e ∙ ap parse b ∙ round_trip i (bytes_of (program_of (drop n s))) a.0.formed) in
    (a.0, record { sound = a.1; bytes = ap₂ drop q b ∙ drop-append_seam (encode i) (bytes_of (program_of (drop n s))) })
  where
    same_length : (j : Inst) (m : ℕ) → whole i n ≡ whole j m → n ≡ m
    same_length j m e = cc

pub walked_whole : (rows : ℕ) (s : List ℕ) (r o : ℕ) → Walked rows s → 0 < length s → parse s ≡ refused r o → ⊥
walked_whole rows s r o w h e = omega (arith, ap length (w.bytes ∙ ap bytes_of (program_none s r o e)))
