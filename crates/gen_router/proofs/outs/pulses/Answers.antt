use Rattle.std.proofs.Common.{◌+◌, ◌-◌, arith}
use Rattle.vl_tree.specs.Read.{read}
use Rattle.gen_router.specs.Outs.{credit_net}
use Rattle.leaf_parts.proofs.Rows.{row_begins, row_more, row_ends}
use Rattle.gen_router.proofs.outs.pulses.Goals as goal

pub loop-k-preserved : goal.loop-k-preserved
loop-k-preserved c =
    row_more (λ r. credit_net c.args.plan.now c.args.port (c.args.first + r)) (c.args.count) c.loop-k.k c.loop-k.row c.in_ok-one.one c.push.new.self c.loop-k-test.true c.loop-k.invariant c.in_ok-one.ensures c.in_ok-push.ensures.ok

pub returns : goal.returns
returns c =
    row_ends (λ r. credit_net c.args.plan.now c.args.port (c.args.first + r)) (c.args.count - 1) (c.args.count) c.loop-k.k c.loop-k.row (read c.cat.result) (omega arith) (omega arith) c.loop-k.invariant c.cat.ensures.form
