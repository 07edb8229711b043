use Rattle.std.proofs.Common.{take}
use Rattle.aig_cycle.specs.Wires.{numbers, AreWords}
use Rattle.aig_cycle.specs.Latches.{register_row}
use Rattle.aig_cycle.proofs.Added.{AreAdded, AreKnown}
use Rattle.aig_cycle.proofs.taken.add_registers.Given as goal

abbrev pub invariant-loop-register : goal.invariant-loop-register
invariant-loop-register l = AreKnown (λ n. AreWords n l.nets) l.initial.all l.all × AreAdded (λ v. register_row l.resets (numbers v l.nets)) l.initial.all l.all (take l.register-index l.registers)
