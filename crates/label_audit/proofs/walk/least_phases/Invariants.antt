use Rattle.label_audit.specs.Rises.{walk_left}
use Rattle.label_audit.specs.Walks.{IsWalk}
use Rattle.label_audit.proofs.walk.least_phases.Given as goal

abbrev pub invariant-loop-waits : goal.invariant-loop-waits
invariant-loop-waits l = IsWalk l.shape l.phases.items l.waits

abbrev pub decreases-loop-waits : goal.decreases-loop-waits
decreases-loop-waits l = walk_left l.phases.items l.waits
