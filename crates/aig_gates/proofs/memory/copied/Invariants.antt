use Rattle.std.proofs.Common.{◌≡◌, take}
use Rattle.aig_gates.proofs.memory.copied.Given as goal

abbrev pub invariant-loop-bits : goal.invariant-loop-bits
invariant-loop-bits l = l.all ≡ take l.bits-index l.row
