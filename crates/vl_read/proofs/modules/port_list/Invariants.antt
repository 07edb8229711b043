use Rattle.std.proofs.Common.{◌≡◌, length}
use Rattle.vl_read.specs.View.{placed}
use Rattle.vl_read.specs.Parts as parts
use Rattle.vl_read.specs.Lists.{more_of}
use Rattle.vl_read.proofs.modules.port_list.Given as goal

abbrev pub invariant-ports : goal.invariant-ports
invariant-ports l = more_of (l.ports) (parts.ports_at (placed l.rest)) ≡ parts.ports_at (placed l.ts)

abbrev pub decreases-ports : goal.decreases-ports
decreases-ports l = length (placed l.rest)
