-- `accept::walk` meets its contract: what is left of the code decides. Assumes nothing.
use Rattle.std.proofs.Common.{◌≡◌, ℕ, ◌+◌, ◌-◌, ◌<◌, ◌≤◌, List, length, take, drop, refl, sym, ap, ◌∙◌, Result, Ok, Err, length-drop, arith, rules}
use lib.Seq.{drop-drop}
use Rattle.std.specs.Result.{MatchResult, IsErrAnd}
use Rattle.std.proofs.lemmas.Result.{err_from_is_err_and}
use Rattle.refusal.specs.Number.{number_of}
use Rattle.refusal.specs.declared.Refusal.{Refusal}
use Rattle.refusal.specs.declared.RefusedAt.{RefusedAt}
use Rattle.bytecode.specs.Instruction.{Inst, inst}
use Rattle.bytecode.specs.Parse.{told, parse, whole, refused, read}
use Rattle.bytecode.specs.declared.decoder.Decoded.{Decoded}
use Rattle.bytecode.proofs.Parses.{whole_read, refused_at}
use Rattle.bytecode.proofs.Programs.{part_rest, whole_within}
use Rattle.accept.specs.Check.{Verdict, verdict, judged, walk_from}
use Rattle.accept.proofs.Walks.{walk_end, walk_refused, walk_judged, walk_next}
use Rattle.accept.proofs.walk.Goals as goal

-- what `?` after `map_err` hands on
from_map_err : {T E D : Type 0} (g : E → D) (r : Result T E) (w : Result T D) (d : D) (Q : E → D → Type 0) → w ≡ Err d → MatchResult r (λ x. w ≡ Ok x) (λ e. IsErrAnd w (Q e)) → ((e : E) → Q e d → d ≡ g e)
    → (e : E) × (r ≡ Err e) × (d ≡ g e)
from_map_err g (Ok x) w d Q f h p = let z : ◌≡◌ {A = ℕ} 0 1 = cc in absurd (omega arith)
from_map_err g (Err e) w d Q f h p = (e, refl, p e (rw f at h))

from_map_ok : {T E D : Type 0} (r : Result T E) (w : Result T D) (x : T) (Q : E → D → Type 0) → w ≡ Ok x → MatchResult r (λ y. w ≡ Ok y) (λ e. IsErrAnd w (Q e)) → r ≡ Ok x
from_map_ok (Ok y) w x Q f h = cc
from_map_ok (Err e) w x Q f h = absurd (rw f at h)

-- the bytes from `at` on, which are handed to the decoder
module _ (s : List ℕ) (at : ℕ) where
  abbrev rest : List ℕ
  rest = drop at s

  abbrev part : List ℕ
  part = take (length s - at) rest

  more : at < length s → length rest ≡ 0 → ⊥
  more h = simp length-drop (λ e. omega arith)

  -- the decoder refused
  refused_here : (r : RefusedAt) → told part (Err r) ≡ parse part → parse rest ≡ refused (number_of r.refusal) r.offset
  unfolding told
  refused_here r e = sym (rw part_rest at e)

  -- it gave an instruction
  whole_here : (r w : Result Decoded RefusedAt) (d : Decoded) (Q : RefusedAt → RefusedAt → Type 0) → w ≡ Ok d → MatchResult r (λ y. w ≡ Ok y) (λ e. IsErrAnd w (Q e)) → told part r ≡ parse part
      → parse rest ≡ whole (inst rest d.instruction) d.length
  unfolding told
  whole_here r w d Q f h e = let e' = rw (from_map_ok r w d Q f h) at e in sym (rw part_rest at e')

  within : (i : Inst) (n : ℕ) → at < length s → parse rest ≡ whole i n → (0 < n) × (at + n ≤ length s)
  within i n h e =
      let w = whole_within rest i n e in
      (w.0, omega (arith, simp length-drop at w.1))

  -- and that was judged
  judged_here : (rows : ℕ) (i : Inst) (n : ℕ) (v : Verdict) → parse rest ≡ whole i n → v ≡ judged rows (read part) → judged rows i ≡ v
  judged_here rows i n v e f = ap (judged rows) (whole_read _ _ _ e).is_read ∙ sym (rw part_rest at f)

pub loop-at-init : goal.loop-at-init
loop-at-init c = (omega arith, (length c.args.code.now, omega arith, refl))

pub map_err-requires : goal.map_err-requires
map_err-requires c = λ e f. omega (arith, refused_at _ _ _ (refused_here c.args.code.now c.loop-at.at e (rw f at c.decode.ensures)))

pub returns-in_err-decoded : goal.returns-in_err-decoded
returns-in_err-decoded c =
    let s = c.args.code.now in
    let at = c.loop-at.at in
    let k = c.loop-at.invariant.1 in
    let p = err_from_is_err_and c.from_residual.result c.from_residual.ensures.1 in
    let m = from_map_err (λ (r : RefusedAt). record { refusal = r.refusal; offset = at + r.offset }) c.decode.result c.map_err.result c.in_err-decoded.field-0.0 _ c.in_err-decoded.was c.map_err.ensures.cases (λ e h. search rules) in
    ap verdict p.1 ∙ ap (λ (r : RefusedAt). verdict (Err r)) (p.2 ∙ m.2) ∙ sym (k.2 ∙ walk_refused c.args.rows (rest s at) at k.0 _ _ (omega arith) (more s at c.loop-at-test.true) (refused_here s at m.0 (rw m.1 at c.decode.ensures)))

pub judge-requires : goal.judge-requires
judge-requires c =
    let s = c.args.code.now in
    let at = c.loop-at.at in
    let r = whole_read _ _ _ (whole_here s at _ _ _ _ c.in_ok-decoded.was c.map_err.ensures.cases c.decode.ensures) in
    rw (part_rest s at) (record { bytes = c.in_ok-decoded.decoded.length; size = r.size; within = r.within })

pub returns-in_err-map_err : goal.returns-in_err-map_err
returns-in_err-map_err c =
    let s = c.args.code.now in
    let at = c.loop-at.at in
    let k = c.loop-at.invariant.1 in
    let w = whole_here s at _ _ _ _ c.in_ok-decoded.was c.map_err.ensures.cases c.decode.ensures in
    let p = err_from_is_err_and c.from_residual-in_err-map_err.result c.from_residual-in_err-map_err.ensures.1 in
    let m = from_map_err (λ (r : Refusal). record { refusal = r; offset = at }) c.judge.result c.map_err-in-loop-at.result c.in_err-map_err.field-0.0 _ c.in_err-map_err.was c.map_err-in-loop-at.ensures.cases (λ e h. search rules) in
    let z : at + 0 ≡ at = omega arith in
    ap verdict p.1 ∙ ap (λ (r : RefusedAt). verdict (Err r)) (p.2 ∙ m.2)
    ∙ sym (k.2 ∙ rw z at (walk_judged c.args.rows (rest s at) at k.0 _ _ _ _ (omega arith) (more s at c.loop-at-test.true) w (judged_here s at c.args.rows _ _ _ w (rw m.1 at c.judge.ensures))))

pub overflow_add-at : goal.overflow_add-at
overflow_add-at c =
    let s = c.args.code.now in
    let at = c.loop-at.at in
    omega (arith, within s at _ _ c.loop-at-test.true (whole_here s at _ _ _ _ c.in_ok-decoded.was c.map_err.ensures.cases c.decode.ensures))

pub loop-at-smaller : goal.loop-at-smaller
loop-at-smaller c =
    let s = c.args.code.now in
    let at = c.loop-at.at in
    omega (arith, within s at _ _ c.loop-at-test.true (whole_here s at _ _ _ _ c.in_ok-decoded.was c.map_err.ensures.cases c.decode.ensures))

pub loop-at-preserved : goal.loop-at-preserved
loop-at-preserved c =
    let s = c.args.code.now in
    let at = c.loop-at.at in
    let n = c.in_ok-decoded.decoded.length in
    let k = c.loop-at.invariant.1 in
    let w = whole_here s at _ _ _ _ c.in_ok-decoded.was c.map_err.ensures.cases c.decode.ensures in
    let m = from_map_ok c.judge.result c.map_err-in-loop-at.result c.in_ok-map_err.field-0 _ c.in_ok-map_err.was c.map_err-in-loop-at.ensures.cases in
    let h = within s at _ _ c.loop-at-test.true w in (
      h.1,
      (
        k.0 - 1,
        omega (arith, h),
        k.2 ∙ walk_next c.args.rows (rest s at) at k.0 _ n (omega arith) (more s at c.loop-at-test.true) w (judged_here s at c.args.rows _ _ _ w (rw m at c.judge.ensures))
            ∙ ap (λ (l : List ℕ). walk_from (k.0 - 1) c.args.rows l (at + n)) (drop-drop n at s),
      ),
    )

pub returns : goal.returns
returns c =
    let k = c.loop-at.invariant.1 in
    sym (k.2 ∙ walk_end c.args.rows (rest c.args.code.now c.loop-at.at) c.loop-at.at k.0 (simp length-drop (omega arith)))
