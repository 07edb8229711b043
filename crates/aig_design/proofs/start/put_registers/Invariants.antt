use Rattle.std.proofs.Common.{◌<◌, take}
use Rattle.std.specs.List.{AllByRecursion}
use Rattle.aig_cycle.specs.Short.{Bounds, IsWithin, lengths}
use Rattle.aig_design.specs.Start.{IsBounded, AreRegistersPut}
use Rattle.aig_design.proofs.start.put_registers.Given as goal

abbrev pub invariant-loop-register : goal.invariant-loop-register
invariant-loop-register l = (0 < l.variables.next) × AreRegistersPut l.resets l.initial.variables.next l.variables.next (take l.register-index l.registers) l.initial.nets.items l.nets.items
    × ((b : Bounds) → AllByRecursion (IsBounded b) l.registers → IsWithin b (lengths l.initial.nets.items) → IsWithin b (lengths l.nets.items))
