use Rattle.leaf_parts.specs.Parts.{turn_winner}
use Rattle.leaf_parts.proofs.Rows.{IsBegun}
use Rattle.leaf_parts.proofs.switch.picked.Given as goal

abbrev pub invariant-loop-port : goal.invariant-loop-port
invariant-loop-port l = IsBegun (turn_winner l.domain) (l.count) l.port l.row
