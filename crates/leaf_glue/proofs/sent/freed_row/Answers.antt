use Rattle.std.proofs.Common.{◌+◌, ◌-◌, arith}
use Rattle.vl_tree.specs.Read.{read}
use Rattle.leaf_glue.specs.Sent.{ends_at_channel}
use Rattle.leaf_tie.specs.Glue.{out_high}
use Rattle.leaf_parts.proofs.Rows.{row_begins, row_more, row_ends}
use Rattle.leaf_glue.proofs.sent.freed_row.Goals as goal

pub loop-channel-preserved : goal.loop-channel-preserved
loop-channel-preserved c =
    row_more (ends_at_channel c.args.plan.now c.args.domain c.args.out) (c.out_count-count.result) c.loop-channel.channel c.loop-channel.row c.in_ok-one.one c.push.new.self c.loop-channel-test.true c.loop-channel.invariant c.in_ok-one.ensures c.in_ok-push.ensures.ok

pub returns : goal.returns
returns c =
    row_ends (ends_at_channel c.args.plan.now c.args.domain c.args.out) (out_high c.args.plan.now c.args.domain c.args.out) (c.out_count-count.result) c.loop-channel.channel c.loop-channel.row (read c.cat.result) (omega arith) (omega arith) c.loop-channel.invariant c.cat.ensures.form
