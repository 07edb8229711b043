use Rattle.std.proofs.Common.{◌≡◌, ◌++◌, map}
use Rattle.std.specs.List.{range_with_len}
use Rattle.stress_gen.specs.Corners.{host}
use Rattle.stress_gen.proofs.corners.add_hosts.Given as goal

abbrev pub invariant-loop-domain : goal.invariant-loop-domain
invariant-loop-domain l = l.hosts.items ≡ l.initial.hosts.items ++ map (host l.tile) (range_with_len 0 l.domain)
