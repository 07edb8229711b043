use Rattle.std.proofs.Common.{◌≡◌}
use Rattle.std.specs.Prelude.{flat_map}
use Rattle.std.specs.List.{range_with_len}
use Rattle.stress_gen.specs.Corners.{hosts_at}
use Rattle.stress_gen.proofs.corners.hosts.Given as goal

abbrev pub invariant-loop-tile : goal.invariant-loop-tile
invariant-loop-tile l = l.hosts.items ≡ flat_map hosts_at (range_with_len 0 l.tile)
