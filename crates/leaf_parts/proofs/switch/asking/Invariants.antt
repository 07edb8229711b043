use Rattle.leaf_parts.specs.Parts.{some_asks}
use Rattle.leaf_parts.proofs.Rows.{IsBegun}
use Rattle.leaf_parts.proofs.switch.asking.Given as goal

abbrev pub invariant-loop-port : goal.invariant-loop-port
invariant-loop-port l = IsBegun (some_asks l.plan l.domain l.out) (l.count) l.port l.row
