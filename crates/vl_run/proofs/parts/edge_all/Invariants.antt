use Rattle.std.proofs.Common.{◌≡◌, ◌++◌, map, take, drop}
use Rattle.vl_run.specs.State.{part_edged}
use Rattle.vl_run.proofs.parts.edge_all.Given as goal

abbrev pub invariant-loop-part : goal.invariant-loop-part
invariant-loop-part l = l.parts ≡ map (part_edged l.tops) (take l.part-index l.initial.parts) ++ drop l.part-index l.initial.parts
