use Rattle.std.proofs.Common.{take}
use Rattle.vl_tree.specs.Read.{read_leaves}
use Rattle.label_audit.specs.Whole.{AreParts}
use Rattle.label_audit.proofs.phase.parts.Given as goal

abbrev pub invariant-loop-item : goal.invariant-loop-item
invariant-loop-item l = AreParts (read_leaves l.library.leaves.now) (take l.item-index l.items) l.parts.items
