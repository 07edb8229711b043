use Rattle.std.proofs.Common.{◌≡◌, map}
use Rattle.std.specs.List.{filter, range_with_len}
use Rattle.desc_check.specs.Upgrade.{tile_of, hosts_some}
use Rattle.desc_check.proofs.upgrade.tiles_of.Given as goal

abbrev pub invariant-loop-tile : goal.invariant-loop-tile
invariant-loop-tile l = l.found ≡ map (tile_of l.plan) (filter (hosts_some l.plan) (range_with_len 0 l.tile))
