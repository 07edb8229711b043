use Rattle.std.proofs.Common.{◌≡◌, map}
use Rattle.std.specs.List.{range_with_len}
use Rattle.stress_gen.specs.Corners.{range_of}
use Rattle.stress_gen.proofs.corners.ranges.Given as goal

abbrev pub invariant-loop-tile : goal.invariant-loop-tile
invariant-loop-tile l = l.ranges.items ≡ map range_of (range_with_len 0 l.tile)
