use Rattle.std.proofs.Common.{◌≡◌, ◌++◌}
use Rattle.vl_run.proofs.parts.instances_of.Given as goal

abbrev pub invariant-loop-part : goal.invariant-loop-part
invariant-loop-part l = (l.initial.part-iterator.rest.items ≡ l.yielded ++ l.part-iterator.rest.items) × (l.all.items ≡ l.yielded)
