use Rattle.surf_cli.proofs.Loadings.{trace-read}
use Rattle.surf_cli.proofs.judging.judge_trace.Goals as goal

pub returns-in-Ok-clause-ok : goal.returns-in-Ok-clause-ok
returns-in-Ok-clause-ok c = trace-read c.args.plan.now c.args.bytes.now c.in-Ok.trace c.in-Ok.ensures.ok
