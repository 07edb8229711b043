use Rattle.std.proofs.Common.{take}
use Rattle.aig_cycle.specs.Wires.{rows, AreRows}
use Rattle.aig_cycle.specs.Latches.{memory_row}
use Rattle.aig_cycle.proofs.Added.{AreAdded, AreKnown}
use Rattle.aig_cycle.proofs.taken.add_memories.Given as goal

abbrev pub invariant-loop-one : goal.invariant-loop-one
invariant-loop-one l = AreKnown (λ n. AreRows n l.words) l.initial.all l.all × AreAdded (λ v. memory_row (rows v l.words)) l.initial.all l.all (take l.one-index l.memories)
