use Rattle.std.proofs.Common.{◌≡◌, ◌++◌, drop}
use Rattle.vl_tree.specs.Read.{reads}
use Rattle.vl_rules.specs.Scope.{widths_at}
use Rattle.vl_run.specs.Emit.{place_in, parts_steps}
use Rattle.vl_run.proofs.emit.+emit.Given as goal

abbrev pub invariant-in_a_row-loop-e : goal.invariant-in_a_row-loop-e
invariant-in_a_row-loop-e l = l.initial.steps.items ++ parts_steps (place_in l.scope.declared.now) (widths_at l.scope.declared.now l.scope.lines) l.all (reads l.es)
    ≡ l.steps.items ++ parts_steps (place_in l.scope.declared.now) (widths_at l.scope.declared.now l.scope.lines) l.all (reads (drop l.e-index l.es))
