-- `report::noting::Noting::note` meets its contract: dropped, added or begun afresh, by where the violation stands. Assumes nothing.
use Rattle.std.proofs.Common.{◌≡◌, refl, arith}
use Rattle.report.proofs.Noted.{note_first, note_lower, note_more}
use Rattle.report.proofs.noting.Noting.note.Goals.{in-Some-2, in_default-2, in_default}
use Rattle.report.proofs.noting.Noting.note.Goals as goal

pub returns-clause-shows : goal.returns-clause-shows
returns-clause-shows c =
    let n = c.args.self.now in
    let e = c.match-self.earlier in
    let p = c.push.ensures in elim c.match-self.branch [
      | in-Some-2 w ↦ note_more n _ c.args.column e c.args.failure (omega arith) p.cap refl p.records w.in-Some-2.low w.in-Some-2.is w.if-low-column-2.true w.earlier-is
      | in_default-2 w ↦
          let same : w.in-Some.low.column ≡ w.in-Some-2.low.column = cc (w.in-Some.is, w.in-Some-2.is) in
          note_lower n _ c.args.column e c.args.failure (omega arith) p.cap refl p.records w.in-Some-2.low w.in-Some-2.is (omega arith) w.earlier-is
      | in_default w ↦ note_first n _ c.args.column e c.args.failure (omega arith) p.cap refl p.records w.in_default.is w.earlier-is
    ]
