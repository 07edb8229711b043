use Rattle.std.proofs.Common.{◌≡◌, map}
use Rattle.std.specs.List.{range_with_len}
use Rattle.stress_gen.specs.Corners.{domain}
use Rattle.stress_gen.proofs.corners.domains.Given as goal

abbrev pub invariant-loop-d : goal.invariant-loop-d
invariant-loop-d l = l.domains.items ≡ map domain (range_with_len 0 l.d)
