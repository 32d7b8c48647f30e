-- The run loop's invariant: what is left of the program, run on the columns as they are, ends as the whole program does on the columns as they were; and
-- the violations so far with those to come are the whole program's. Assumes nothing.
use mathlib.Core.Path.{◌≡◌, refl, sym, ap, ap₂, ◌∙◌, subst}
use mathlib.Core.Bool.{Bool, true, false, cond}
use mathlib.Core.Logic.{◌⊎◌}
use mathlib.Core.List.{List, [], ◌∷◌, ◌++◌, map, append_assoc, append-nil}
use Prim.Native.Nat.{ℕ, suc, ◌+◌, ◌<◌, ◌≤◌}
use native.Mathlib.Nat.{le_refl}
use native.Mathlib.Omega.{arith}
use native.Mathlib.Numerals.{add-one}
use lib.ListN.{length, drop, length-append, length-drop}
use lib.Seq.{drop-drop}
use lib.Dec.{eqb}
use Rattle.bytecode.specs.Instruction.{Inst}
use Rattle.bytecode.specs.Parse.{whole, refused, parse}
use Rattle.bytecode.specs.Program.{program_of}
use Rattle.bytecode.proofs.Programs.{program_next, program_none, program_empty, whole_within}
use Rattle.accept.specs.Sound.{Sound, AllSound}
use Rattle.report.specs.Records.{Lowest, clean, at, lowest}
use Rattle.report.specs.Working.{Shows, Small, Few, low_of}
use Rattle.report.specs.declared.record.Failure.{Failure}
use Rattle.report.specs.declared.noting.Noting.{Noting}
use Rattle.report.proofs.Lowests.{IsLowest, lowest_is, lowest_ext, lowest_clean}
use Rattle.rows.specs.Column.{Col, column}
use Rattle.rows.specs.Working.{Across}
use Rattle.rows.specs.declared.Stripe.{Stripe}
use Rattle.fill.specs.Meaning.{Assertion, assertions, told, failed, noted, step, run_col, violations_from, violations}
use Rattle.fill.specs.Working.{column_of, Judged}

-- ---- an instruction has at most one record

at_most_one : (b : Bool) (f : Failure) → length (cond b (f ∷ []) []) ≤ 1
at_most_one true f = le_refl 1
at_most_one false f = omega arith

failed_few : (claims : List Assertion) (code n : ℕ) (ns ws : List ℕ) → length (failed claims code n ns ws) ≤ 1
failed_few [] code n ns ws = omega arith
failed_few (a ∷ others) code n ns ws = go (eqb code a.code) (failed_few others code n ns ws)
  where
    go : (b : Bool) → length (failed others code n ns ws) ≤ 1 → length (cond b (cond (a.fails ws) (told a n ns ws ∷ []) []) (failed others code n ns ws)) ≤ 1
    go true h = at_most_one (a.fails ws) (told a n ns ws)
    go false h = h

pub noted_few : (n : ℕ) (i : Inst) (col : Col) → length (noted n i col) ≤ 1
noted_few n i col = failed_few assertions i.op n i.numbers (map col i.sources)

-- ---- the invariant, `left` being the instructions still to run, of which the first has number n

pub record Running (all left : List Inst) (s : Stripe) (n : ℕ) (xs ys : List ℕ) (noting : Noting) : Type 0 where
  pub size : length ys ≡ length xs
  pub inside : (k : ℕ) → k < s.count → run_col left (column_of s ys k) ≡ run_col all (column_of s xs k)
  pub outside : (c : ℕ) → c < s.width → (c < s.first) ⊎ (s.first + s.count ≤ c) → column s.rows s.width ys c ≡ column s.rows s.width xs c
  pub so_far : ℕ → List Failure
  pub few : (k : ℕ) → length (so_far k) ≤ n
  pub said : (k : ℕ) → k < s.count → so_far k ++ violations_from n left (column_of s ys k) ≡ violations all (column_of s xs k)
  pub shows : Shows (lowest so_far s.count) noting

pub running_start : (all : List Inst) (s : Stripe) (xs : List ℕ) (noting : Noting) → Shows clean noting → Running all all s 0 xs xs noting
running_start all s xs noting begins = record {
  size = refl;
  inside = λ k l. refl;
  outside = λ c l o. refl;
  so_far = λ k. [];
  few = λ k. le_refl 0;
  said = λ k l. refl;
  shows = subst (λ l. Shows l noting) (sym (lowest_clean (λ k. []) s.count (λ k l. refl))) begins;
}

module _ {all left : List Inst} {s : Stripe} {n : ℕ} {xs ys : List ℕ} {noting : Noting} where
  pub running_small : Running all left s n xs ys noting → n < 65536 → Small noting
  running_small r h = subst Few (sym r.shows.state) (go (lowest r.so_far s.count) (lowest_is r.so_far s.count))
    where
      go : (l : Lowest) → IsLowest r.so_far s.count l → Few (low_of l)
      go clean i = tt
      go (at p fs) i = omega (arith, r.few p, ap length i.1)

  pub running_more : (i : Inst) {zs : List ℕ} {noting' : Noting} → Running all (i ∷ left) s n xs ys noting
      → Judged (λ k. noted n i (column_of s ys k)) s.count noting noting' → Across (step i) s ys zs
      → Running all left s (n + 1) xs zs noting'
  unfolding run_col violations_from
  running_more i {zs} {noting'} r judged stepped = record {
    size = stepped.size ∙ r.size;
    inside = λ k l. ap (run_col left) (stepped.inside k l) ∙ r.inside k l;
    outside = λ c l o. stepped.outside c l o ∙ r.outside c l o;
    so_far = λ k. r.so_far k ++ noted n i (column_of s ys k);
    few = λ k. omega (arith, length-append (r.so_far k) (noted n i (column_of s ys k)), r.few k, noted_few n i (column_of s ys k));
    said = λ k l.
        ap₂ (λ m col. (r.so_far k ++ noted n i (column_of s ys k)) ++ violations_from m left col) (add-one n) (stepped.inside k l)
        ∙ append_assoc (r.so_far k) (noted n i (column_of s ys k)) (violations_from (suc n) left (step i (column_of s ys k)))
        ∙ r.said k l;
    shows = judged r.so_far r.shows;
  }

pub running_end : {all : List Inst} {s : Stripe} {n : ℕ} {xs ys : List ℕ} {noting : Noting} → Running all [] s n xs ys noting
    → Across (run_col all) s xs ys × Shows (lowest (λ k. violations all (column_of s xs k)) s.count) noting
unfolding run_col violations_from
running_end {all} {s} {n} {xs} {ys} {noting} r = (
  record { size = r.size; inside = λ k l. r.inside k l; outside = r.outside },
  subst (λ l. Shows l noting) (lowest_ext r.so_far (λ k. violations all (column_of s xs k)) s.count (λ k l. sym (append-nil (r.so_far k)) ∙ r.said k l)) r.shows,
)

-- ---- the same along the bytes: instruction n of the program stands at `at`

pub record Along (code : List ℕ) (s : Stripe) (xs ys : List ℕ) (noting : Noting) (at n : ℕ) : Type 0 where
  pub within : at ≤ length code
  pub passed : n ≤ at
  pub sound : AllSound s.rows (program_of (drop at code))
  pub running : Running (program_of code) (program_of (drop at code)) s n xs ys noting

pub along_start : (code : List ℕ) (s : Stripe) (xs : List ℕ) (noting : Noting) → AllSound s.rows (program_of code) → Shows clean noting → Along code s xs xs noting 0 0
along_start code s xs noting sound begins =
    record { within = omega arith; passed = omega arith; sound = sound; running = running_start (program_of code) s xs noting begins }

module _ {code : List ℕ} {s : Stripe} {xs ys : List ℕ} {noting : Noting} {at n : ℕ} (a : Along code s xs ys noting at n) where
  module _ (i : Inst) (len : ℕ) (e : parse (drop at code) ≡ whole i len) where
    next : program_of (drop at code) ≡ i ∷ program_of (drop (at + len) code)
    next = program_next (drop at code) i len e ∙ ap (λ l. i ∷ program_of l) (drop-drop len at code)

    pub along_inside : (0 < len) × (at + len ≤ length code)
    along_inside =
        let w = whole_within (drop at code) i len e in
        (w.0, omega (arith, w.1, length-drop at code, a.within, w.0))

    both_sound : Sound s.rows i × AllSound s.rows (program_of (drop (at + len) code))
    both_sound = rw next at a.sound

    pub along_sound : Sound s.rows i
    along_sound = both_sound.0

    pub along_more : {zs : List ℕ} {noting' : Noting} → Judged (λ k. noted n i (column_of s ys k)) s.count noting noting' → Across (step i) s ys zs
        → Along code s xs zs noting' (at + len) (n + 1)
    along_more judged stepped = record {
      within = along_inside.1;
      passed = omega (arith, a.passed, along_inside.0);
      sound = both_sound.1;
      running = running_more i (rw next at a.running) judged stepped;
    }

  pub along_end : (r o : ℕ) → parse (drop at code) ≡ refused r o
      → Across (run_col (program_of code)) s xs ys × Shows (lowest (λ k. violations (program_of code) (column_of s xs k)) s.count) noting
  along_end r o e = running_end (rw (program_none (drop at code) r o e) at a.running)

  pub along_all : length code ≤ at
      → Across (run_col (program_of code)) s xs ys × Shows (lowest (λ k. violations (program_of code) (column_of s xs k)) s.count) noting
  along_all h = running_end (rw (program_empty (drop at code) (omega (arith, length-drop at code))) at a.running)
