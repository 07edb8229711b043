use Rattle.std.proofs.Common.{◌≡◌, map, take}
use Rattle.desc_check.specs.Words.{number_of}
use Rattle.desc_check.proofs.make.sides_of.Given as goal

abbrev pub invariant-loop-side : goal.invariant-loop-side
invariant-loop-side l = l.sides.items ≡ map number_of (take l.side-index l.dims)
