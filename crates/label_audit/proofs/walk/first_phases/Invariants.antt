use Rattle.label_audit.specs.Walks.{AreFirst}
use Rattle.label_audit.proofs.walk.first_phases.Given as goal

abbrev pub invariant-loop-f : goal.invariant-loop-f
invariant-loop-f l = AreFirst l.shape l.f l.phases.items
