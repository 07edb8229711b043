use Rattle.std.proofs.Common.{◌≡◌, map, take}
use Rattle.desc_check.specs.Upgrade.{range_draft}
use Rattle.desc_check.proofs.upgrade.ranges_of.Given as goal

abbrev pub invariant-loop-i : goal.invariant-loop-i
invariant-loop-i l = l.ranges ≡ map range_draft (take l.i l.plan.ranges)
