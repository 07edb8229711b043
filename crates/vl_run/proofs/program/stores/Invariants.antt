use Rattle.std.proofs.Common.{◌≡◌, ◌++◌, drop}
use Rattle.vl_tree.specs.Read.{read_items}
use Rattle.vl_run.specs.Emit.{place_in}
use Rattle.vl_run.specs.Program.{stores_of}
use Rattle.vl_run.proofs.program.stores.Given as goal

abbrev pub invariant-loop-item : goal.invariant-loop-item
invariant-loop-item l = stores_of (place_in l.scope.declared.now) l.scope.lines (read_items l.items) ≡ l.all.items ++ stores_of (place_in l.scope.declared.now) l.free (read_items (drop l.item-index l.items))
