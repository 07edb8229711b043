use Rattle.gen_top.proofs.ByKind.{kinds_more}
use Rattle.gen_top.proofs.joins.host_joins.Goals as goal

pub loop-kind-preserved : goal.loop-kind-preserved
loop-kind-preserved c =
    kinds_more c.args.host c.loop-kind.kind c.in_ok-copy.field-0 c.in_ok-name.name c.args.joins.now
    c.loop-kind.joins c.push.new.self c.loop-kind-test.true c.in_ok-name.ensures c.in_ok-copy.ensures
    c.loop-kind.invariant
    c.in_ok-push.ensures.ok
