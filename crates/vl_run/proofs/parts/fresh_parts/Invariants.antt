use Rattle.std.proofs.Common.{take}
use Rattle.vl_tree.specs.Read.{read_leaves}
use Rattle.vl_run.specs.Emit.{place_in}
use Rattle.vl_run.specs.Fresh.{AllFresh}
use Rattle.vl_run.proofs.parts.fresh_parts.Given as goal

abbrev pub invariant-loop-item : goal.invariant-loop-item
invariant-loop-item l = AllFresh (place_in l.top.declared.now) (read_leaves l.library.leaves.now) (take l.item-index l.items) l.parts.items
