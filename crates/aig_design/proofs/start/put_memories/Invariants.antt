use Rattle.std.proofs.Common.{◌<◌, take}
use Rattle.aig_design.specs.Start.{AreMemoriesPut}
use Rattle.aig_design.proofs.start.put_memories.Given as goal

abbrev pub invariant-loop-one : goal.invariant-loop-one
invariant-loop-one l = (0 < l.variables.next) × AreMemoriesPut l.initial.variables.next l.variables.next (take l.one-index l.memories) l.initial.rows.items l.rows.items
