-- The program check's refusals: each number is given, with its offset, exactly when document 01's table says so. Assumes nothing.
use Prim.Native.Nat.{ℕ, suc, ◌+◌, ◌-◌, ◌≤◌, ◌<◌}
use mathlib.Core.Path.{◌≡◌, refl, sym, ap, ap₂, subst₂, ◌∙◌}
use mathlib.Core.Logic.{◌↔◌, inl, inr, ⊎_elim}
use mathlib.Core.List.{List, [], ◌∷◌, ◌++◌, append_assoc}
use mathlib.Core.Bool.{Bool, true, false, not, cond, ◌&&◌, ◌||◌}
use native.Mathlib.Omega.{arith}
use native.Mathlib.Nat.{zero-add}
use borrow.Author.Tests.{eqb-true, eq-eqb, ne_eqb, ltb-true, ltb-false, lt-ltb, le-ltb, not-true}
use lib.Dec.{eqb, ltb}
use lib.Seq.{length-take-le}
use lib.ListN.{length, get_or, drop, length-append, length-drop, take-append-drop}
use Rattle.common.specs.Order.{Lowest}
use Rattle.common.proofs.Rules.{Rule, rule, first_of, holds, nth_holds, each_back, first_exactly, given_positive, or_else, first-append, holds_append}
use Rattle.common.specs.Lists.{member}
use Rattle.common.proofs.Bools.{differ, fails, both, either, or-first, or_second}
use Rattle.common.proofs.Below.{member-at, at-member, below-not, not-below, below-append-is}
use Rattle.bytecode.specs.Opcode.{shape_of}
use Rattle.bytecode.specs.Layout.{AreBytes, size_as}
use Rattle.bytecode.specs.Instruction.{Inst}
use Rattle.bytecode.specs.Encode.{encode}
use Rattle.bytecode.specs.Parse.{Parsed, whole, parse, read}
use Rattle.bytecode.specs.Program.{bytes_of}
use Rattle.bytecode.proofs.Tables.{settle}
use Rattle.bytecode.proofs.Parses.{op_of}
use Rattle.bytecode.proofs.BytesBack.{bytes_back, parsed_formed}
use Rattle.bytecode.proofs.EncodedBytes.{nine_bytes}
use Rattle.bytecode.proofs.Programs.{whole_within}
use Rattle.bytecode.proofs.DecoderFaults.{decoder_rules, fault_holds, holds_fault, answered, length_of, parse_first}
use Rattle.shift.specs.Variant.{most_amount}
use Rattle.accept.specs.Check.{Verdict, accepted, refusal, overlap, shift_bad_amount, bad_hint, bad_register, judged, first_then, walk_from, check_of}
use Rattle.accept.specs.Sound.{Listed, AllSound}
use Rattle.accept.specs.Faults.{AmountOver, Collision, with_source, with_dest, Fault, decoder, bad_amount_byte, not_listed, not_below, collides, Refused, bad_shape, too_long, bad_instruction}
use Rattle.accept.proofs.Judging.{amount_of}
use Rattle.accept.proofs.Soundness.{clash, test_listed, listed_test, judged_sound}
use Rattle.accept.proofs.Acceptance.{pass_one, rest_bytes}

-- ---- 7: the amount

over_most : (v m : ℕ) → AmountOver v m → ltb (most_amount v) m ≡ true
over_most v m h = ⊎_elim (λ a. rw (lt-ltb v 4 (omega arith)) (lt-ltb 63 m a.1)) (λ a. rw (le-ltb v 4 a.0) (lt-ltb 31 m a.1)) h

most_over : (v m : ℕ) → ltb (most_amount v) m ≡ true → AmountOver v m
most_over v m e = go (ltb v 4) refl e
  where
    go : (t : Bool) → ltb v 4 ≡ t → ltb (cond t 63 31) m ≡ true → AmountOver v m
    go true z e = inl (omega (arith, ltb-true v 4 z), ltb-true 63 m e)
    go false z e = inr (ltb-false v 4 z, ltb-true 31 m e)

-- ---- 10: a collision

overlap_collision : (ds ss : List ℕ) → overlap ds ss ≡ true → Collision ds ss
overlap_collision [] ss e = let z : ◌≡◌ {A = ℕ} 0 1 = cc in absurd (omega arith)
overlap_collision (d ∷ ds) ss e = go (member d ss) (member d ds) refl refl e (overlap_collision ds ss)
  where
    later : Collision ds ss → Collision (d ∷ ds) ss
    later (with_source j k h l e) = with_source (suc j) k (omega arith) l e
    later (with_dest j k h l e) = with_dest (suc j) (suc k) (omega arith) (omega arith) e

    go : (p q : Bool) → member d ss ≡ p → member d ds ≡ q → (p || (q || overlap ds ss)) ≡ true → (overlap ds ss ≡ true → Collision ds ss) → Collision (d ∷ ds) ss
    go true q a b e rec = let m = member-at d ss a in with_source 0 m.0 (omega arith) m.1 (sym m.2)
    go false true a b e rec = let m = member-at d ds b in with_dest 0 (suc m.0) (omega arith) (omega (arith, m.1)) (sym m.2)
    go false false a b e rec = later (rec e)

source_overlap : (ds ss : List ℕ) (j k : ℕ) → j < length ds → k < length ss → get_or ds j 0 ≡ get_or ss k 0 → overlap ds ss ≡ true
source_overlap [] ss j k h l e = absurd (omega arith)
source_overlap (d ∷ ds) ss ℕ.zero k h l e = or-first (member d ss) _ (at-member d ss k l (sym e))
source_overlap (d ∷ ds) ss (suc j) k h l e = or_second (member d ss) _ (or_second (member d ds) _ (source_overlap ds ss j k (omega arith) l e))

dest_overlap : (ds ss : List ℕ) (j k : ℕ) → j < k → k < length ds → get_or ds j 0 ≡ get_or ds k 0 → overlap ds ss ≡ true
dest_overlap [] ss j k h l e = absurd (omega arith)
dest_overlap (d ∷ ds) ss j ℕ.zero h l e = absurd (omega arith)
dest_overlap (d ∷ ds) ss ℕ.zero (suc k) h l e = or_second (member d ss) _ (or-first (member d ds) _ (at-member d ds k (omega arith) (sym e)))
dest_overlap (d ∷ ds) ss (suc j) (suc k) h l e = or_second (member d ss) _ (or_second (member d ds) _ (dest_overlap ds ss j k (omega arith) (omega arith) e))

collision_overlap : (ds ss : List ℕ) → Collision ds ss → overlap ds ss ≡ true
collision_overlap ds ss (with_source j k h l e) = source_overlap ds ss j k h l e
collision_overlap ds ss (with_dest j k h l e) = dest_overlap ds ss j k h l e

-- ---- the tests of one instruction in number order

abbrev judge_rules : ℕ → Inst → List Rule
judge_rules rows i =
    rule 7 (shift_bad_amount i)
    ∷ rule 8 (bad_hint i)
    ∷ rule 9 (bad_register rows i)
    ∷ rule 10 (overlap i.dests i.sources)
    ∷ []

-- a number that is given, or what follows where it is 0
abbrev given : ℕ → ℕ → Verdict → Verdict
given ℕ.zero at v = v
given (suc k) at v = refusal (suc k) at

judged_first : (rows : ℕ) (i : Inst) → judged rows i ≡ given (first_of (judge_rules rows i)) 0 accepted
unfolding judged
judged_first rows i = go (shift_bad_amount i) (bad_hint i) (bad_register rows i) (overlap i.dests i.sources)
  where
    go : (p q r t : Bool) → cond p (refusal 7 0) (cond q (refusal 8 0) (cond r (refusal 9 0) (cond t (refusal 10 0) accepted))) ≡ given (cond p 7 (cond q 8 (cond r 9 (cond t 10 0)))) 0 accepted
    go true q r t = refl
    go false true r t = refl
    go false false true t = refl
    go false false false true = refl
    go false false false false = refl

module _ (rows : ℕ) (s : List ℕ) where
  abbrev i : Inst
  i = read s

  abbrev n : ℕ
  n = length_of (size_as (shape_of (get_or s 0 0)) s)

  -- the number that is due, 0 where none is
  abbrev due : ℕ
  due = or_else (first_of (decoder_rules s)) (first_of (judge_rules rows i))

  step_first : (at : ℕ) (more : ℕ → Verdict) → first_then rows (parse s) at more ≡ given due (at + 0) (more n)
  step_first at more =
      ap (λ (p : Parsed). first_then rows p at more) (parse_first s) ∙ go (first_of (decoder_rules s)) (first_of (judge_rules rows i)) (judged_first rows i)
    where
      go : (m m' : ℕ) → judged rows i ≡ given m' 0 accepted → first_then rows (answered m (whole i n)) at more ≡ given (or_else m m') (at + 0) (more n)
      go ℕ.zero ℕ.zero e = rw e
      go ℕ.zero (suc k) e = rw e
      go (suc m) m' e = refl

  -- none due: the instruction is whole, and judged accepted
  none_due : due ≡ 0 → (parse s ≡ whole i n) × (judged rows i ≡ accepted)
  none_due e = go (first_of (decoder_rules s)) (first_of (judge_rules rows i)) (parse_first s) (judged_first rows i) e
    where
      go : (m m' : ℕ) → parse s ≡ answered m (whole i n) → judged rows i ≡ given m' 0 accepted → or_else m m' ≡ 0 → (parse s ≡ whole i n) × (judged rows i ≡ accepted)
      go ℕ.zero ℕ.zero p j e = (p, j)
      go ℕ.zero (suc k) p j e = absurd (omega arith)
      go (suc m) m' p j e = absurd (omega arith)

  abbrev check_rules : List Rule
  check_rules = decoder_rules s ++ judge_rules rows i

  not_listed_lem : get_or s 0 0 ≡ 0x80 → (Listed (get_or i.numbers 0 0) (drop 1 i.numbers) (length i.sources) (length i.dests) → ⊥) → bad_hint i ≡ true
  unfolding bad_hint
  not_listed_lem o h = ap₂ ◌&&◌ (eq-eqb i.op 0x80 (op_of (shape_of (get_or s 0 0)) (get_or s 0 0) s ∙ o)) (ap not (fails _ (λ t. h (test_listed _ _ _ _ t))))

  second : (k : ℕ) → holds (judge_rules rows i) k ≡ true → holds check_rules k ≡ true
  second k e = holds_append (decoder_rules s) (judge_rules rows i) k ∙ or_second (holds (decoder_rules s) k) (holds (judge_rules rows i) k) e

  fault_test : (k : ℕ) → Fault rows s k → holds check_rules k ≡ true
  unfolding bad_register
  fault_test k (decoder f) = holds_append (decoder_rules s) (judge_rules rows i) k ∙ or-first (holds (decoder_rules s) k) (holds (judge_rules rows i) k) (fault_holds s k f)
  fault_test k (bad_amount_byte o h) =
      second 7 (nth_holds (judge_rules rows i) 0 (amount_of (get_or s 0 0) s ∙ rw (eq-eqb (get_or s 0 0) 0x10 o) (over_most (get_or s 9 0) (get_or s 10 0) h)))
  fault_test k (not_listed o h) = second 8 (nth_holds (judge_rules rows i) 1 (not_listed_lem o h))
  fault_test k (not_below x m h) =
      second 9 (nth_holds (judge_rules rows i) 2 (ap not (sym (below-append-is rows i.dests i.sources) ∙ below-not rows (i.dests ++ i.sources) x m h)))
  fault_test k (collides c) = second 10 (nth_holds (judge_rules rows i) 3 (collision_overlap i.dests i.sources c))

  judge_fault : (k : ℕ) → holds (judge_rules rows i) k ≡ true → Fault rows s k
  unfolding bad_hint bad_register
  judge_fault =
      each_back (Fault rows s) (judge_rules rows i) (
        λ t. let b = both (eqb (get_or s 0 0) 0x10) _ (sym (amount_of (get_or s 0 0) s) ∙ t) in bad_amount_byte (eqb-true (get_or s 0 0) 0x10 b.0) (most_over (get_or s 9 0) (get_or s 10 0) b.1),
        (
          λ t.
              let b = both (eqb i.op 0x80) _ t in
              not_listed (sym (op_of (shape_of (get_or s 0 0)) (get_or s 0 0) s) ∙ eqb-true i.op 0x80 b.0) (λ l. differ _ (listed_test l) (not-true _ b.1)),
          (
            λ t. let b = not-below rows (i.dests ++ i.sources) (below-append-is rows i.dests i.sources ∙ not-true _ t) in not_below b.0 b.1 b.2,
            (λ t. collides (overlap_collision i.dests i.sources t), tt),
          ),
        ),
      )

  test_fault : (k : ℕ) → holds check_rules k ≡ true → Fault rows s k
  test_fault k e = either (holds (decoder_rules s) k) (holds (judge_rules rows i) k) (sym (holds_append (decoder_rules s) (judge_rules rows i) k) ∙ e) (λ h. decoder (holds_fault s k h)) (judge_fault k)

  -- the number that is due is the lowest that the table gives
  due_exactly : (k : ℕ) → 0 < k → (due ≡ k) ↔ Lowest (Fault rows s) k
  due_exactly k h =
      let x = first_exactly check_rules refl (Fault rows s) fault_test test_fault k h in
      let a = first-append 1 (decoder_rules s) (judge_rules rows i) (omega arith) refl in
      (λ e. x.0 (a ∙ e), λ l. sym a ∙ x.1 l)

  fault_positive : (k : ℕ) → Fault rows s k → 0 < k
  fault_positive = given_positive check_rules refl (Fault rows s) fault_test test_fault

-- ---- a walk that is refused

verdicts : (r o : ℕ) → accepted ≡ refusal r o → ⊥
verdicts r o e = clash r o (sym e)

-- the first bad instruction of a part that starts at `at`
record Bad (rows : ℕ) (s : List ℕ) (at k a : ℕ) : Type 0 where
  before : List Inst
  sound : AllSound rows before
  rest : List ℕ
  more : 0 < length rest
  bytes : s ≡ bytes_of before ++ rest
  offset : a ≡ at + length (bytes_of before)
  fault : Lowest (Fault rows rest) k

bad_here : (rows : ℕ) (s : List ℕ) (at m k a : ℕ) → (length s ≡ 0 → ⊥) → due rows s ≡ suc m → suc m ≡ k → at + 0 ≡ a → Bad rows s at k a
bad_here rows s at m k a h d e f =
    record { before = []; sound = tt; rest = s; more = positive (length s) h; bytes = refl; offset = sym f; fault = (due_exactly rows s k (omega arith)).0 (d ∙ e) }
  where
    positive : (n : ℕ) → (n ≡ 0 → ⊥) → 0 < n
    positive ℕ.zero h = absurd (h refl)
    positive (suc n) h = omega arith

bad_later : (rows : ℕ) (s : List ℕ) (at k a : ℕ) → AreBytes s → due rows s ≡ 0 → Bad rows (drop (n rows s) s) (at + n rows s) k a → Bad rows s at k a
bad_later rows s at k a ok d b =
    let p = none_due rows s d in
    let e = bytes_back s ok (read s) (n rows s) p.0 in
    let l : length (encode (read s)) ≡ n rows s = ap length e ∙ length-take-le (n rows s) s (whole_within s (read s) (n rows s) p.0).1 in
    record {
      before = read s ∷ b.before;
      sound = (judged_sound rows (read s) (parsed_formed s ok (read s) (n rows s) p.0) p.1, b.sound);
      rest = b.rest;
      more = b.more;
      bytes = sym (take-append-drop (n rows s) s) ∙ ap₂ ◌++◌ (sym e) b.bytes ∙ sym (append_assoc (encode (read s)) (bytes_of b.before) b.rest);
      offset = b.offset ∙ omega (arith, l, length-append (encode (read s)) (bytes_of b.before));
      fault = b.fault;
    }

walk_bad : (f rows : ℕ) (s : List ℕ) (at k a : ℕ) → AreBytes s → length s ≤ f → walk_from f rows s at ≡ refusal k a → Bad rows s at k a
unfolding walk_from
walk_bad ℕ.zero rows s at k a ok h e = absurd (verdicts k a e)
walk_bad (suc f) rows s at k a ok h e =
    settle (length s) 0
    (λ z. absurd (verdicts k a (rw (eq-eqb (length s) 0 z) at e)))
    (λ z. turn (due rows s) refl z (sym (step_first rows s at (λ m. walk_from f rows (drop m s) (at + m))) ∙ rw (ne_eqb (length s) 0 z) at e)
    (λ d w. walk_bad f rows (drop (n rows s) s) (at + n rows s) k a (rest_bytes s (n rows s) ok)
    (omega (arith, whole_within s (read s) (n rows s) (none_due rows s d).0, length-drop (n rows s) s)) w))
  where
    turn : (m : ℕ) → due rows s ≡ m → (length s ≡ 0 → ⊥) → given m (at + 0) (walk_from f rows (drop (n rows s) s) (at + n rows s)) ≡ refusal k a
        → (due rows s ≡ 0 → walk_from f rows (drop (n rows s) s) (at + n rows s) ≡ refusal k a → Bad rows (drop (n rows s) s) (at + n rows s) k a)
        → Bad rows s at k a
    turn ℕ.zero d z e rec = bad_later rows s at k a ok d (rec d e)
    turn (suc m) d z e rec = bad_here rows s at m k a z d (cc) (cc)

-- and back
bad_walk : (f rows : ℕ) (before : List Inst) (rest : List ℕ) (at k : ℕ) → AllSound rows before → 0 < length rest → length (bytes_of before ++ rest) ≤ f → Lowest (Fault rows rest) k
    → walk_from f rows (bytes_of before ++ rest) at ≡ refusal k (at + length (bytes_of before))
unfolding walk_from
bad_walk ℕ.zero rows [] rest at k s m h l = absurd (omega arith)
bad_walk (suc f) rows [] rest at k s m h l =
    let p = fault_positive rows rest k l.given in
    rw (ne_eqb (length rest) 0 (λ z. omega arith))
    (step_first rows rest at (λ m. walk_from f rows (drop m rest) (at + m)) ∙ ap (λ (j : ℕ). given j (at + 0) (walk_from f rows (drop (n rows rest) rest) (at + n rows rest))) ((due_exactly rows rest k p).1 l) ∙ some k p _)
  where
    some : (j : ℕ) → 0 < j → (v : Verdict) → given j (at + 0) v ≡ refusal j (at + 0)
    some ℕ.zero h v = absurd (omega arith)
    some (suc j) h v = refl
bad_walk f rows (i ∷ is) rest at k s m h l =
    let a = append_assoc (encode i) (bytes_of is) rest in
    let q = length-append (encode i) (bytes_of is ++ rest) in
    let e = nine_bytes i s.0.formed in
    let g = ap length a in
    ap (λ (x : List ℕ). walk_from f rows x at) a
    ∙ pass_one f rows i (bytes_of is ++ rest) at s.0 (omega arith)
    ∙ bad_walk (f - 1) rows is rest (at + length (encode i)) k s.1 m (omega arith) l
    ∙ ap (refusal k) (omega (arith, length-append (encode i) (bytes_of is)))

-- ---- the law

same_number : (r o k at : ℕ) → refusal r o ≡ refusal k at → r ≡ k
same_number r o k at e = cc

same_offset : (r o k at : ℕ) → refusal r o ≡ refusal k at → o ≡ at
same_offset r o k at e = cc

check_refused : (s : List ℕ) (rows k at : ℕ) → AreBytes s → check_of s rows ≡ refusal k at → Refused s rows k at
unfolding check_of
check_refused s rows k at ok e = first (ltb 8192 rows) refl e
  where
    third : rows ≤ 8192 → length s ≤ 65536 → walk_from (length s) rows s 0 ≡ refusal k at → Refused s rows k at
    third r l e =
        let b = walk_bad (length s) rows s 0 k at ok (omega arith) e in
        bad_instruction (record {
          few_rows = r;
          short = l;
          before = b.before;
          sound = b.sound;
          rest = b.rest;
          more = b.more;
          bytes = b.bytes;
          offset = b.offset ∙ zero-add (length (bytes_of b.before));
          fault = b.fault;
        })

    second : (t : Bool) → ltb 65536 (length s) ≡ t → rows ≤ 8192 → cond t (refusal 3 0) (walk_from (length s) rows s 0) ≡ refusal k at → Refused s rows k at
    second true h r e = subst₂ (Refused s rows) (same_number 3 0 k at e) (same_offset 3 0 k at e) (too_long r (ltb-true 65536 (length s) h))
    second false h r e = third r (ltb-false 65536 (length s) h) e

    first : (t : Bool) → ltb 8192 rows ≡ t → cond t (refusal 1 0) (cond (ltb 65536 (length s)) (refusal 3 0) (walk_from (length s) rows s 0)) ≡ refusal k at → Refused s rows k at
    first true h e = subst₂ (Refused s rows) (same_number 1 0 k at e) (same_offset 1 0 k at e) (bad_shape (ltb-true 8192 rows h))
    first false h e = second (ltb 65536 (length s)) refl (ltb-false 8192 rows h) e

refused_check : (s : List ℕ) (rows k at : ℕ) → Refused s rows k at → check_of s rows ≡ refusal k at
unfolding check_of
refused_check s rows k at (bad_shape h) = rw (lt-ltb 8192 rows h)
refused_check s rows k at (too_long r h) = rw (le-ltb 8192 rows r, lt-ltb 65536 (length s) h)
refused_check s rows k at (bad_instruction b) =
    rw (le-ltb 8192 rows b.few_rows, le-ltb 65536 (length s) b.short)
    (ap (λ (l : List ℕ). walk_from (length l) rows l 0) b.bytes
    ∙ bad_walk (length (bytes_of b.before ++ b.rest)) rows b.before b.rest 0 k b.sound b.more (omega arith) b.fault
    ∙ ap (refusal k) (zero-add (length (bytes_of b.before)) ∙ sym b.offset))

-- a number is given, with its offset, exactly when the table says so, and no lower number and no earlier instruction is due
pub refused_exactly : (s : List ℕ) (rows k at : ℕ) → AreBytes s → (check_of s rows ≡ refusal k at) ↔ Refused s rows k at
refused_exactly s rows k at ok = (check_refused s rows k at ok, refused_check s rows k at)

-- an offset lies in the program
pub offset_small : (s : List ℕ) (rows k at : ℕ) → AreBytes s → check_of s rows ≡ refusal k at → at ≤ 65536
offset_small s rows k at ok e = go k at ((refused_exactly s rows k at ok).0 e)
  where
    go : (k at : ℕ) → Refused s rows k at → at ≤ 65536
    go k at (bad_shape h) = omega arith
    go k at (too_long r h) = omega arith
    go k at (bad_instruction b) = omega (arith, b.offset, b.short, ap length b.bytes, length-append (bytes_of b.before) b.rest)
