use Rattle.std.proofs.lemmas.Result.{err_from_is_err_and}
use Rattle.surf_cli.specs.Spoken.{gathered}
use Rattle.surf_cli.proofs.OneReport.{IsFound, trace-stops, report-made}
use Rattle.surf_cli.proofs.commands.report.make.Goals as goal

pub returns-in_err-trace-clause-err : goal.returns-in_err-trace-clause-err
returns-in_err-trace-clause-err c =
    let e = err_from_is_err_and c.from_residual-in_err-trace.result c.from_residual-in_err-trace.ensures.1 in
    let found : IsFound (gathered c.args.contents) c.args.cycles c.args.domain.now c.as_slice.result.now c.in_ok-plan.plan c.in_ok-d.d =
    record {
      description_is = c.as_slice.ensures.value;
      plan = c.in_ok-plan.ensures.ok;
      looked_for = c.as_bytes.result.now;
      name_is = c.as_bytes.ensures.value;
      domain = c.in_ok-d.ensures.ok;
    } in
    rw (e.1, e.2) (trace-stops (gathered c.args.contents) c.args.cycles c.args.domain.now c.as_slice.result.now c.as_slice-2.result.now
    c.in_ok-plan.plan c.in_ok-d.d _ found c.as_slice-2.ensures.value c.in_err-trace.ensures.err)

pub returns-clause-ok : goal.returns-clause-ok
returns-clause-ok c =
    let found : IsFound (gathered c.args.contents) c.args.cycles c.args.domain.now c.as_slice.result.now c.in_ok-plan.plan c.in_ok-d.d =
    record {
      description_is = c.as_slice.ensures.value;
      plan = c.in_ok-plan.ensures.ok;
      looked_for = c.as_bytes.result.now;
      name_is = c.as_bytes.ensures.value;
      domain = c.in_ok-d.ensures.ok;
    } in
    report-made (gathered c.args.contents) c.args.cycles c.args.domain.now c.as_slice.result.now c.as_slice-2.result.now _
    c.in_ok-plan.plan c.in_ok-d.d c.in_ok-trace.trace found c.as_slice-2.ensures.value
    c.in_ok-trace.ensures.ok c.in_ok-report.ensures
