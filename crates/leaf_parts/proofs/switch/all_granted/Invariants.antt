use Rattle.leaf_parts.specs.Parts.{granted_net}
use Rattle.leaf_parts.proofs.Rows.{IsBegun}
use Rattle.leaf_parts.proofs.switch.all_granted.Given as goal

abbrev pub invariant-loop-port : goal.invariant-loop-port
invariant-loop-port l = IsBegun (granted_net l.domain) (l.count) l.port l.row
