use Rattle.leaf_glue.specs.Marks.{port_marks}
use Rattle.leaf_parts.proofs.Rows.{IsBegun}
use Rattle.leaf_glue.proofs.marks.place_bits.Given as goal

abbrev pub invariant-loop-port : goal.invariant-loop-port
invariant-loop-port l = IsBegun (port_marks l.plan l.tile l.domain l.mark) (l.count) l.port l.row
