use Rattle.std.proofs.Common.{◌≡◌, take}
use Rattle.vl_tree.specs.Read.{read_leaves}
use Rattle.vl_tree.proofs.copy.leaves.Given as goal

abbrev pub invariant-loop-l : goal.invariant-loop-l
invariant-loop-l l = read_leaves l.copies ≡ read_leaves (take l.l-index l.ls)
