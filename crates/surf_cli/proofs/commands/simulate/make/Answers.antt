use Rattle.std.proofs.lemmas.Result.{err_from_is_err_and}
use Rattle.surf_cli.specs.Spoken.{gathered}
use Rattle.surf_cli.proofs.Makings.{trace-stops, reports-made}
use Rattle.surf_cli.proofs.commands.simulate.make.Goals as goal

pub returns-in_err-trace-clause-err : goal.returns-in_err-trace-clause-err
returns-in_err-trace-clause-err c =
    let e = err_from_is_err_and c.from_residual-in_err-trace.result c.from_residual-in_err-trace.ensures.1 in
    rw (e.1, e.2) (trace-stops (gathered c.args.contents) c.args.cycles c.as_slice.result.now c.as_slice-2.result.now c.in_ok-plan.plan _ c.as_slice.ensures.value c.as_slice-2.ensures.value
    c.in_ok-plan.ensures.ok c.in_err-trace.ensures.err)

pub returns-clause-ok : goal.returns-clause-ok
returns-clause-ok c =
    reports-made (gathered c.args.contents) c.args.cycles c.as_slice.result.now c.as_slice-2.result.now _ c.in_ok-plan.plan c.in_ok-trace.trace c.as_slice.ensures.value c.as_slice-2.ensures.value
    c.in_ok-plan.ensures.ok c.in_ok-trace.ensures.ok c.in_ok-reports.ensures
