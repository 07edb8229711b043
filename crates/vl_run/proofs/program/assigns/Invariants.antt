use Rattle.std.proofs.Common.{◌≡◌, ◌++◌, drop}
use Rattle.vl_tree.specs.Read.{read_items}
use Rattle.vl_rules.specs.Scope.{widths_at}
use Rattle.vl_run.specs.Emit.{place_in}
use Rattle.vl_run.specs.Program.{assign_steps}
use Rattle.vl_run.proofs.program.assigns.Given as goal

abbrev pub invariant-loop-item : goal.invariant-loop-item
invariant-loop-item l = assign_steps (place_in l.scope.declared.now) (widths_at l.scope.declared.now l.scope.lines) l.scope.lines (read_items l.items) ≡ l.steps.items ++ assign_steps (place_in l.scope.declared.now) (widths_at l.scope.declared.now l.scope.lines) l.scope.lines (read_items (drop l.item-index l.items))
