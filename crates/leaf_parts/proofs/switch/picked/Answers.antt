use Rattle.std.proofs.Common.{◌+◌, ◌-◌, arith}
use Rattle.vl_tree.specs.Read.{read}
use Rattle.leaf_parts.specs.Parts.{turn_winner}
use Rattle.noc_model.specs.Plan.{ports}
use Rattle.leaf_parts.proofs.Rows.{row_begins, row_more, row_ends}
use Rattle.leaf_parts.proofs.switch.picked.Goals as goal

pub loop-port-preserved : goal.loop-port-preserved
loop-port-preserved c =
    row_more (turn_winner c.args.domain) (c.ports.result - 1 + 1) c.loop-port.port c.loop-port.row c.in_ok-one.one c.push.new.self c.loop-port-test.true c.loop-port.invariant c.in_ok-one.ensures c.in_ok-push.ensures.ok

pub returns : goal.returns
returns c =
    row_ends (turn_winner c.args.domain) (ports c.args.plan.now - 1) (c.ports.result - 1 + 1) c.loop-port.port c.loop-port.row (read c.cat.result) (omega arith) (omega arith) c.loop-port.invariant c.cat.ensures.form
