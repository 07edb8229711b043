use Rattle.std.proofs.Common.{◌≡◌, ◌++◌, drop}
use Rattle.noc_model.proofs.HostTiles.{host_tiles}
use Rattle.stress_gen.proofs.sends.tiles_of.Given as goal

abbrev pub invariant-loop-j : goal.invariant-loop-j
invariant-loop-j l = l.tiles.items ++ host_tiles l.d (drop l.j l.plan.hosts) ≡ host_tiles l.d l.plan.hosts
