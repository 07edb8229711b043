use Rattle.std.proofs.Common.{◌≡◌, ◌<◌, ◌++◌}
use Rattle.aig_design.specs.Start.{AreLaid}
use Rattle.aig_design.proofs.start.begin_parts.Given as goal

abbrev pub invariant-loop-part : goal.invariant-loop-part
invariant-loop-part l = (0 < l.variables.next) × (l.initial.part-iterator.rest.items ≡ l.yielded ++ l.part-iterator.rest.items) × AreLaid l.initial.variables.next l.variables.next l.yielded l.wired.items l.resets.items
