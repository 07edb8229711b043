use Rattle.std.proofs.Common.{take}
use Rattle.vl_rules.specs.Library.{AreDeclared}
use Rattle.vl_rules.proofs.library.declared.Given as goal

abbrev pub invariant-loop-leaf : goal.invariant-loop-leaf
invariant-loop-leaf l = AreDeclared (take l.leaf-index l.leaves) l.tables.items
