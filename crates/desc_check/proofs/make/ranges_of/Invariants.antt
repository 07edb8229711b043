use Rattle.std.proofs.Common.{◌≡◌, map, take}
use Rattle.desc_check.specs.Network.{range_of}
use Rattle.desc_check.proofs.make.ranges_of.Given as goal

abbrev pub invariant-loop-range : goal.invariant-loop-range
invariant-loop-range l = l.parts.items ≡ map range_of (take l.range-index l.ranges)
