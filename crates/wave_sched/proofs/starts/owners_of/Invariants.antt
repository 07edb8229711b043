use Rattle.std.proofs.Common.{◌≡◌, take}
use Rattle.wave_sched.proofs.starts.owners_of.Given as goal

abbrev pub invariant-loop-i : goal.invariant-loop-i
invariant-loop-i l = l.owners.items ≡ take l.i l.plan.slots
