-- `fill::run` meets its contract: refused by its sizes or by the check, or run and reported. Assumes nothing.
use Rattle.std.proofs.Common.{◌≡◌, refl, sym, arith}
use Rattle.std.proofs.lemmas.Result.{err_from_is_err_and}
use Rattle.refusal.specs.Number.{number_of}
use Rattle.accept.specs.Check.{accepted}
use Rattle.accept.proofs.Acceptance.{accepted_program}
use Rattle.bytecode.specs.Program.{program_of}
use Rattle.rows.proofs.Stripes.{across_is}
use Rattle.fill.specs.Meaning.{run_col}
use Rattle.fill.specs.Run.{call, lowest_of, verdict_of}
use Rattle.fill.proofs.Calls.{run_refused, run_accepted}
use Rattle.fill.proofs.Refusals.{accepted_fit}
use Rattle.fill.proofs.run.Goals as goal

-- the clauses by their names
clauses : {A B C : Type 0} → A × (B × C) → record { result_value : A; values_after : B; report_after : C }
clauses (a, r) = record { result_value = a; values_after = r.0; report_after = r.1 }

pub returns-in_err-admit : goal.returns-in_err-admit
unfolding verdict_of
returns-in_err-admit c =
    let a = c.args in
    let r = c.in_err-admit.field-0.0 in
    let q = call a.code.now a.rows a.width a.first a.count a.cap a.values.now a.report.now in
    let p = err_from_is_err_and c.from_residual.result c.from_residual.ensures.1 in
    clauses (run_refused q c.from_residual.result (number_of r.refusal) r.offset (sym c.in_err-admit.ensures) (rw (p.1, p.2) refl))

pub run_loop-requires : goal.run_loop-requires
unfolding verdict_of
run_loop-requires c =
    let a = c.args in
    let fit = accepted_fit (call a.code.now a.rows a.width a.first a.count a.cap a.values.now a.report.now) (sym c.in_ok-admit.ensures) in
    let ok = accepted_program a.code.now a.rows (λ i. omega (arith, c.type_inv.code i)) fit.program in
    record { sound = (fit.shape.array, ok.sound); short = ok.short; begins = c.new-noting.ensures.shows }

pub returns : goal.returns
unfolding lowest_of verdict_of
returns c =
    let a = c.args in
    let q = call a.code.now a.rows a.width a.first a.count a.cap a.values.now a.report.now in
    let judged : verdict_of q ≡ accepted = sym c.in_ok-admit.ensures in
    let fit = accepted_fit q judged in
    let done = rw (c.run_loop.ensures.cap, c.new-noting.ensures.cap) at (c.finish.ensures (lowest_of q) c.run_loop.ensures.shows) in
    clauses (run_accepted q judged done.0 (across_is (run_col (program_of a.code.now)) _ a.values.now fit.shape.array c.run_loop.ensures.across) done.1)
