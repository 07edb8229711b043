use Rattle.std.proofs.lemmas.Result.{err_from_is_err_and}
use Rattle.vl_tree.specs.Read.{read_design}
use Rattle.vl_rules.specs.Answer.{design_of}
use Rattle.surf_cli.specs.Spoken.{gathered}
use Rattle.surf_cli.proofs.Replays.{IsJudged, text-stops, trace-stops, reports-made}
use Rattle.surf_cli.proofs.commands.replay.make.Goals as goal

pub returns-in_err-sound-clause-err : goal.returns-in_err-sound-clause-err
returns-in_err-sound-clause-err c =
    let e = err_from_is_err_and c.from_residual-in_err-sound.result c.from_residual-in_err-sound.ensures.1 in
    rw (e.1, e.2) (text-stops (gathered c.args.contents) c.args.cycles c.as_slice.result.now c.as_slice-2.result.now c.in_ok-plan.plan _ c.as_slice.ensures.value c.as_slice-2.ensures.value
    c.in_ok-plan.ensures.ok c.in_err-sound.ensures.err)

pub returns-in_err-trace-clause-err : goal.returns-in_err-trace-clause-err
returns-in_err-trace-clause-err c =
    let e = err_from_is_err_and c.from_residual-in_err-trace.result c.from_residual-in_err-trace.ensures.1 in
    let judged : IsJudged (gathered c.args.contents) c.as_slice.result.now c.as_slice-2.result.now c.as_slice-3.result.now c.in_ok-plan.plan (read_design (design_of c.in_ok-sound.sound)) =
    record {
      description_is = c.as_slice.ensures.value;
      text_is = c.as_slice-2.ensures.value;
      trace_is = c.as_slice-3.ensures.value;
      plan = c.in_ok-plan.ensures.ok;
      design = c.in_ok-sound.ensures.ok;
    } in
    rw (e.1, e.2) (trace-stops (gathered c.args.contents) c.args.cycles c.as_slice.result.now c.as_slice-2.result.now c.as_slice-3.result.now c.in_ok-plan.plan
    (read_design (design_of c.in_ok-sound.sound)) _ judged c.in_err-trace.ensures.err)

pub returns-clause-ok : goal.returns-clause-ok
returns-clause-ok c =
    let judged : IsJudged (gathered c.args.contents) c.as_slice.result.now c.as_slice-2.result.now c.as_slice-3.result.now c.in_ok-plan.plan (read_design (design_of c.in_ok-sound.sound)) =
    record {
      description_is = c.as_slice.ensures.value;
      text_is = c.as_slice-2.ensures.value;
      trace_is = c.as_slice-3.ensures.value;
      plan = c.in_ok-plan.ensures.ok;
      design = c.in_ok-sound.ensures.ok;
    } in
    reports-made (gathered c.args.contents) c.args.cycles c.as_slice.result.now c.as_slice-2.result.now c.as_slice-3.result.now _ c.in_ok-plan.plan
    (read_design (design_of c.in_ok-sound.sound)) c.in_ok-trace.trace judged c.in_ok-trace.ensures.ok c.in_ok-reports.ensures
