use Rattle.leaf_glue.specs.Sent.{ends_at_channel}
use Rattle.leaf_parts.proofs.Rows.{IsBegun}
use Rattle.leaf_glue.proofs.sent.freed_row.Given as goal

abbrev pub invariant-loop-channel : goal.invariant-loop-channel
invariant-loop-channel l = IsBegun (ends_at_channel l.plan l.domain l.out) (l.count) l.channel l.row
