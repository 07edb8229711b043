use Rattle.std.proofs.Common.{◌+◌, ◌-◌, arith}
use Rattle.vl_tree.specs.Read.{read}
use Rattle.leaf_tie.specs.Glue.{placed}
use Rattle.leaf_glue.specs.Marks.{mark_at}
use Rattle.noc_model.specs.Plan.{link_channels}
use Rattle.leaf_parts.proofs.Rows.{row_begins, row_more, row_ends}
use Rattle.leaf_glue.proofs.marks.port_marks.Goals as goal

pub loop-channel-preserved : goal.loop-channel-preserved
loop-channel-preserved c =
    row_more (placed c.args.plan.now c.args.tile c.args.domain (mark_at c.args.domain c.args.mark) c.args.port) (c.link_channels.result - 1 + 1) c.loop-channel.channel c.loop-channel.row c.in_ok-one.one c.push.new.self c.loop-channel-test.true c.loop-channel.invariant c.in_ok-one.ensures c.in_ok-push.ensures.ok

pub returns : goal.returns
returns c =
    row_ends (placed c.args.plan.now c.args.tile c.args.domain (mark_at c.args.domain c.args.mark) c.args.port) (link_channels c.args.plan.now c.args.domain - 1) (c.link_channels.result - 1 + 1) c.loop-channel.channel c.loop-channel.row (read c.cat.result) (omega arith) (omega arith) c.loop-channel.invariant c.cat.ensures.form
