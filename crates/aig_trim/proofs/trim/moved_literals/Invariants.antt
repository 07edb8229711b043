use Rattle.std.proofs.Common.{◌≡◌, map, take}
use Rattle.std.specs.Prelude.{slice_index}
use Rattle.aig_trim.specs.Marks.{moved}
use Rattle.aig_trim.proofs.trim.moved_literals.Given as goal

abbrev pub invariant-loop-literal : goal.invariant-loop-literal
invariant-loop-literal l = l.all ≡ map (moved (slice_index l.numbers)) (take l.literal-index l.literals)
