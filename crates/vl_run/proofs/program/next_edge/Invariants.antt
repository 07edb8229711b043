use Rattle.std.proofs.Common.{◌≡◌, ◌++◌, drop}
use Rattle.vl_tree.specs.Read.{read_items}
use Rattle.vl_rules.specs.Scope.{widths_at}
use Rattle.vl_run.specs.Emit.{place_in}
use Rattle.vl_run.specs.Program.{next_steps}
use Rattle.vl_run.proofs.program.next_edge.Given as goal

abbrev pub invariant-loop-item : goal.invariant-loop-item
invariant-loop-item l = next_steps (place_in l.scope.declared.now) (widths_at l.scope.declared.now l.scope.lines) l.scope.lines (read_items l.items) ≡ l.steps.items ++ next_steps (place_in l.scope.declared.now) (widths_at l.scope.declared.now l.scope.lines) l.free (read_items (drop l.item-index l.items))
