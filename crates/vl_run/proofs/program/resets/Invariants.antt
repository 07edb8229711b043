use Rattle.std.proofs.Common.{◌≡◌, ◌++◌, drop}
use Rattle.vl_tree.specs.Read.{read_items}
use Rattle.vl_run.specs.Emit.{place_in}
use Rattle.vl_run.specs.Program.{reset_steps}
use Rattle.vl_run.proofs.program.resets.Given as goal

abbrev pub invariant-loop-item : goal.invariant-loop-item
invariant-loop-item l = reset_steps (place_in l.scope.declared.now) (read_items l.items) ≡ l.steps.items ++ reset_steps (place_in l.scope.declared.now) (read_items (drop l.item-index l.items))
