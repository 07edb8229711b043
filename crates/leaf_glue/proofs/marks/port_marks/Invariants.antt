use Rattle.leaf_tie.specs.Glue.{placed}
use Rattle.leaf_glue.specs.Marks.{mark_at}
use Rattle.leaf_parts.proofs.Rows.{IsBegun}
use Rattle.leaf_glue.proofs.marks.port_marks.Given as goal

abbrev pub invariant-loop-channel : goal.invariant-loop-channel
invariant-loop-channel l = IsBegun (placed l.plan l.tile l.domain (mark_at l.domain l.mark) l.port) (l.count) l.channel l.row
