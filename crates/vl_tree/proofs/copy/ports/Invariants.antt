use Rattle.std.proofs.Common.{◌≡◌, take}
use Rattle.vl_tree.proofs.copy.ports.Given as goal

abbrev pub invariant-loop-p : goal.invariant-loop-p
invariant-loop-p l = l.copies ≡ take l.p-index l.ps
