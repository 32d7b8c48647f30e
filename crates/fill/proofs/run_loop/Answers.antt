-- `fill::run_loop` meets its contract: a turn of the loop is one instruction more along the program. Assumes nothing.
use Rattle.std.proofs.Common.{◌≡◌, ◌∙◌, ◌-◌, ◌<◌, ℕ, List, length, take, drop, refl, sym, arith}
use Rattle.std.specs.Prelude.{Ok, Err}
use Rattle.refusal.specs.declared.RefusedAt.{RefusedAt}
use Rattle.refusal.specs.Number.{number_of}
use Rattle.bytecode.specs.Instruction.{inst}
use Rattle.bytecode.specs.Parse.{whole, refused, parse, told}
use Rattle.bytecode.specs.declared.decoder.Decoded.{Decoded}
use Rattle.bytecode.proofs.Programs.{part_rest}
use Rattle.fill.specs.Working.{column_of}
use Rattle.fill.proofs.Scans.{claim_notes, claim_reads, judged_as}
use Rattle.fill.proofs.Lists.{held_in}
use Rattle.fill.proofs.Runs.{along_inside, along_sound, along_more, along_end, along_all, running_small, along_start}
use Rattle.fill.proofs.run_loop.Goals as goal

-- what the decoder said of the rest of the code
module _ (code : List ℕ) (at : ℕ) where
  abbrev part : List ℕ
  part = take (length code - at) (drop at code)

  decoded : (d : Decoded) → told part (Ok d) ≡ parse part → parse (drop at code) ≡ whole (inst (drop at code) d.instruction) d.length
  unfolding told
  decoded d h = rw (part_rest code at) at (sym h)

  stopped : (r : RefusedAt) → told part (Err r) ≡ parse part → parse (drop at code) ≡ refused (number_of r.refusal) r.offset
  unfolding told
  stopped r h = rw (part_rest code at) at (sym h)

pub loop-at-init : goal.loop-at-init
loop-at-init c = let a = c.args in record { cap = refl; along = along_start a.code.now a.s a.values.now a.noting.now c.requires.sound.1 c.requires.begins }

pub returns-in_default : goal.returns-in_default
returns-in_default c =
    let p = along_end c.loop-at.invariant.along _ _ (stopped c.args.code.now c.loop-at.at c.in_default.field-0 c.in_default.ensures) in
    record { across = p.0; cap = c.loop-at.invariant.cap; shows = p.1 }

pub judge-requires : goal.judge-requires
judge-requires c =
    let a = c.args in
    let l = c.loop-at in
    let i = c.in-Ok.field-0.instruction in
    let along = l.invariant.along in
    let e = decoded a.code.now l.at c.in-Ok.field-0 c.in-Ok.ensures in
    let few : l.number < 65536 = omega (arith, along.passed) in
    record {
      within = (along.running.size ∙ c.requires.sound.0, rw c.claim_of-claim.ensures (claim_reads (drop l.at a.code.now) a.s.rows i (along_sound along _ _ e)));
      number_bound = (omega arith, running_small along.running few);
    }

pub perform-requires : goal.perform-requires
perform-requires c =
    let a = c.args in
    let l = c.loop-at in
    let d = c.in-Ok.field-0 in
    let along = l.invariant.along in
    let e = decoded a.code.now l.at d c.in-Ok.ensures in
    rw (part_rest a.code.now l.at)
    (record { within = (along.running.size ∙ c.requires.sound.0, along_sound along _ _ e); held = held_in (drop l.at a.code.now) d.instruction d.length e })

pub overflow_add-at : goal.overflow_add-at
overflow_add-at c =
    omega (arith, along_inside c.loop-at.invariant.along _ _ (decoded c.args.code.now c.loop-at.at c.in-Ok.field-0 c.in-Ok.ensures))

pub loop-at-smaller : goal.loop-at-smaller
loop-at-smaller c =
    omega (arith, along_inside c.loop-at.invariant.along _ _ (decoded c.args.code.now c.loop-at.at c.in-Ok.field-0 c.in-Ok.ensures))

pub loop-at-preserved : goal.loop-at-preserved
loop-at-preserved c =
    let a = c.args in
    let l = c.loop-at in
    let i = c.in-Ok.field-0.instruction in
    let judged =
    judged_as a.s.count (λ j. sym (claim_notes (drop l.at a.code.now) l.number i (column_of a.s l.values j)))
    (rw c.claim_of-claim.ensures at c.judge.ensures.judged) in
    record {
      cap = c.judge.ensures.cap ∙ l.invariant.cap;
      along = along_more l.invariant.along _ _ (decoded a.code.now l.at c.in-Ok.field-0 c.in-Ok.ensures) judged (rw (part_rest a.code.now l.at) at c.perform.ensures);
    }

pub returns : goal.returns
returns c =
    let p = along_all c.loop-at.invariant.along c.loop-at-test.false in
    record { across = p.0; cap = c.loop-at.invariant.cap; shows = p.1 }
