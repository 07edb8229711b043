use Rattle.leaf_parts.specs.Parts.{taken_net}
use Rattle.leaf_parts.proofs.Rows.{IsBegun}
use Rattle.leaf_parts.proofs.alloc.taken_row.Given as goal

abbrev pub invariant-loop-class : goal.invariant-loop-class
invariant-loop-class l = IsBegun (taken_net l.domain l.out) (l.count) l.class l.row
