use Rattle.std.proofs.Common.{◌≡◌, map, take}
use Rattle.noc_model.specs.Plan.{name_of}
use Rattle.desc_check.proofs.upgrade.slots_of.Given as goal

abbrev pub invariant-loop-i : goal.invariant-loop-i
invariant-loop-i l = l.names ≡ map (name_of l.plan) (take l.i l.plan.slots)
