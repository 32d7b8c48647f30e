-- The emitters' refusals: each number is given exactly when document 01's table says so and no lower number is due, and then nothing has
-- changed. Assumes nothing.
use Prim.Native.Nat.{ℕ, suc, ◌+◌, ◌<◌}
use mathlib.Core.Path.{◌≡◌, refl, sym, ap, ◌∙◌}
use mathlib.Core.Logic.{◌↔◌}
use mathlib.Core.List.{List, [], ◌∷◌}
use mathlib.Core.Bool.{Bool, true, false, not, cond, ◌||◌}
use native.Mathlib.Omega.{arith}
use borrow.Author.Tests.{eqb-true, eq-eqb, ltb-true, lt-ltb, not-true}
use lib.Dec.{eqb, ltb}
use lib.ListN.{length, get_or, drop}
use Rattle.std.specs.Prelude.{Result}
use Rattle.common.specs.Order.{Lowest}
use Rattle.common.proofs.Rules.{Rule, rule, first_of, holds, nth_holds, each_back, first_exactly, given_positive}
use Rattle.common.specs.Lists.{member, all_below}
use Rattle.common.proofs.Bools.{both, either}
use Rattle.common.proofs.Below.{below-not, not-below}
use Rattle.bytecode.specs.Instruction.{Inst, shift_bad_variant}
use Rattle.bytecode.specs.Encode.{encode}
use Rattle.builder.specs.Call.{Call, laid}
use Rattle.builder.specs.Emit.{Emission, done, refused, said, no_room, advanced, bad_dimension, emission, stored, Emits}
use Rattle.builder.specs.Faults.{EmitFault, bad_variant_argument, large_dimension, passes_buffer, passes_limit, length_over, count_over}
use Rattle.builder.specs.declared.BytecodeBuilder.{BytecodeBuilder}
use Rattle.builder.specs.declared.Unemitted.{Unemitted}
use Rattle.builder.proofs.Room.{lacks}
use Rattle.builder.proofs.RoundTrips.{apart}

module _ (c : Call) (b : BytecodeBuilder) (s : List ℕ) where
  abbrev i : Inst
  i = laid c

  abbrev n : ℕ
  n = length (encode i)

  abbrev rules : List Rule
  rules = rule 7 (shift_bad_variant i) ∷ rule 8 (bad_dimension i) ∷ rule 11 (no_room b (length s) n) ∷ []

  variant_over_lem : i.op ≡ 0x10 → 7 < get_or i.numbers 0 0 → shift_bad_variant i ≡ true
  variant_over_lem o h = rw (eq-eqb i.op 0x10 o, lt-ltb 7 (get_or i.numbers 0 0) h)

  dimension_over : i.op ≡ 0x80 → (x : ℕ) → member x (drop 1 i.numbers) ≡ true → 4294967295 < x → bad_dimension i ≡ true
  dimension_over o x m h = rw (eq-eqb i.op 0x80 o, below-not 4294967296 (drop 1 i.numbers) x m (omega arith))

  fault_test : (k : ℕ) → EmitFault c b s k → holds rules k ≡ true
  fault_test k (bad_variant_argument o h) = nth_holds rules 0 (variant_over_lem o h)
  fault_test k (large_dimension o x m h) = nth_holds rules 1 (dimension_over o x m h)
  fault_test k (passes_buffer h) = nth_holds rules 2 (lacks b (length s) n (λ r. omega (arith, r.buffer)))
  fault_test k (passes_limit h) = nth_holds rules 2 (lacks b (length s) n (λ r. omega (arith, r.limit)))
  fault_test k (length_over h) = nth_holds rules 2 (lacks b (length s) n (λ r. omega (arith, r.buffer)))
  fault_test k (count_over h) = nth_holds rules 2 (lacks b (length s) n (λ r. omega (arith, r.sound)))

  room_fault : no_room b (length s) n ≡ true → EmitFault c b s 11
  unfolding no_room
  room_fault e =
      either (ltb (length s) (b.len + n) || ltb 65536 (b.len + n) || ltb (length s) b.len) (ltb b.len b.count) e
      (λ e. either (ltb (length s) (b.len + n) || ltb 65536 (b.len + n)) (ltb (length s) b.len) e
      (λ e. either (ltb (length s) (b.len + n)) (ltb 65536 (b.len + n)) e (λ t. passes_buffer (ltb-true _ _ t)) (λ t. passes_limit (ltb-true _ _ t)))
      (λ t. length_over (ltb-true _ _ t)))
      (λ t. count_over (ltb-true _ _ t))

  test_fault : (k : ℕ) → holds rules k ≡ true → EmitFault c b s k
  test_fault =
      each_back (EmitFault c b s) rules (
        λ t. let p = both (eqb i.op 0x10) (ltb 7 (get_or i.numbers 0 0)) t in bad_variant_argument (eqb-true i.op 0x10 p.0) (ltb-true 7 (get_or i.numbers 0 0) p.1),
        (
          λ t.
              let p = both (eqb i.op 0x80) (not (all_below 4294967296 (drop 1 i.numbers))) t in
              let q = not-below 4294967296 (drop 1 i.numbers) (not-true _ p.1) in
              large_dimension (eqb-true i.op 0x80 p.0) q.0 q.1 (omega (arith, q.2)),
          (room_fault, tt),
        ),
      )

  -- a number that is given, or the state after the call where it is 0
  abbrev given : ℕ → Emission
  given ℕ.zero = done (advanced b n)
  given (suc k) = refused (suc k) b

  by_rules : emission (shift_bad_variant i) (bad_dimension i) (encode i) b s ≡ given (first_of rules)
  unfolding emission
  by_rules = go (shift_bad_variant i) (bad_dimension i) (no_room b (length s) n)
    where
      go : (v d m : Bool) → cond v (refused 7 b) (cond d (refused 8 b) (cond m (refused 11 b) (done (advanced b n)))) ≡ given (cond v 7 (cond d 8 (cond m 11 0)))
      go true d m = refl
      go false true m = refl
      go false false true = refl
      go false false false = refl

  given_refused : (m k : ℕ) (b' : BytecodeBuilder) → given m ≡ refused k b' → (m ≡ k) × (b' ≡ b) × (0 < k)
  given_refused ℕ.zero k b' e = absurd (apart k b' (advanced b n) (sym e))
  given_refused (suc m) k b' e = let q : suc m ≡ k = cc in (q, cc, omega arith)

  refused_given : (k : ℕ) → 0 < k → given k ≡ refused k b
  refused_given ℕ.zero h = absurd (omega arith)
  refused_given (suc k) h = refl

  module _ (r : Result BytecodeBuilder Unemitted) (after : List ℕ) (x : Emits c b s r after) (k : ℕ) (b' : BytecodeBuilder) where
    -- given exactly when: the lowest number of the table, with the state handed back
    pub emitter_exactly : (said r ≡ refused k b') ↔ ((b' ≡ b) × Lowest (EmitFault c b s) k)
    emitter_exactly = (
      λ e.
          let g = given_refused (first_of rules) k b' (sym by_rules ∙ sym x.answer ∙ e) in
          (g.1, (first_exactly rules refl (EmitFault c b s) fault_test test_fault k g.2).0 g.0),
      λ h.
          let p = given_positive rules refl (EmitFault c b s) fault_test test_fault k h.1.given in
          let f = (first_exactly rules refl (EmitFault c b s) fault_test test_fault k p).1 h.1 in
          x.answer ∙ by_rules ∙ ap given f ∙ refused_given k p ∙ ap (refused k) (sym h.0),
    )

    -- and no byte has changed
    pub refused_unchanged : said r ≡ refused k b' → (b' ≡ b) × (after ≡ s)
    refused_unchanged e =
        let a = sym x.answer ∙ e in
        ((emitter_exactly.0 e).0, x.bytes ∙ ap (λ (m : Emission). stored m (encode i) b s) a)
