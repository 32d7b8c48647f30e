-- `gussetglen::gussetglen_run` meets its contract: what a run answers fits the packing. Assumes nothing.
use Rattle.std.proofs.Common.{sym, subst, arith, rules}
use Rattle.fill.specs.Run.{call}
use Rattle.gussetglen.specs.Packing.{AnswerFits, ReportFits}
use Rattle.gussetglen.proofs.Totals.{answer_fits}
use Rattle.gussetglen.proofs.gussetglen_run.Goals as goal

pub pack_report-requires : goal.pack_report-requires
pack_report-requires c =
    let a = c.args in
    let asked = call a.code.now a.rows a.width a.first a.count a.cap a.values.now a.report.now in
    subst ReportFits (sym (c.map.ensures (λ p. p.0) (search rules)))
    (subst AnswerFits (sym c.in-Ok.ensures.result_value) (answer_fits asked (λ i. omega (arith, c.type_inv.code i))))

pub pack_refusal-requires : goal.pack_refusal-requires
pack_refusal-requires c =
    let a = c.args in
    let asked = call a.code.now a.rows a.width a.first a.count a.cap a.values.now a.report.now in
    subst AnswerFits (sym c.in-Err.ensures.result_value) (answer_fits asked (λ i. omega (arith, c.type_inv.code i)))
