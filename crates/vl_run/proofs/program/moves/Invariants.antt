use Rattle.std.proofs.Common.{◌≡◌, ◌++◌, drop}
use Rattle.vl_tree.specs.Read.{read_items}
use Rattle.vl_run.specs.Emit.{place_in}
use Rattle.vl_run.specs.Program.{move_steps}
use Rattle.vl_run.proofs.program.moves.Given as goal

abbrev pub invariant-loop-item : goal.invariant-loop-item
invariant-loop-item l = move_steps (place_in l.scope.declared.now) l.scope.lines (read_items l.items) ≡ l.steps.items ++ move_steps (place_in l.scope.declared.now) l.free (read_items (drop l.item-index l.items))
