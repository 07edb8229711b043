use Rattle.surf_cli.proofs.Judged.{judged-table, judged-fault, plan-read, plan-refused}
use Rattle.surf_cli.proofs.judging.judge.Goals as goal

pub returns-in-Err-clause-err : goal.returns-in-Err-clause-err
returns-in-Err-clause-err c =
    plan-refused c.args.bytes.now c.in-Err.fault c.end_of.result c.end_of.ensures (λ told. judged-table c.args.bytes.now c.in-Err.fault (c.in-Err.ensures.fault told))

pub returns-in-Ok-check-clause-ok : goal.returns-in-Ok-check-clause-ok
returns-in-Ok-check-clause-ok c =
    plan-read c.args.bytes.now c.in-Ok.draft c.in-Ok-check.plan c.in-Ok.ensures.ok c.in-Ok.ensures.no_fault c.in-Ok-check.ensures.ok.0 c.in-Ok-check.ensures.ok.1

pub returns-in-Err-check-clause-err : goal.returns-in-Err-check-clause-err
returns-in-Err-check-clause-err c =
    plan-refused c.args.bytes.now c.in-Err-check.fault c.end_of-in-Err-check.result c.end_of-in-Err-check.ensures
    (λ told. judged-fault c.args.bytes.now c.in-Ok.draft c.in-Err-check.fault c.in-Ok.ensures.ok c.in-Ok.ensures.no_fault (c.in-Err-check.ensures.fault told))
