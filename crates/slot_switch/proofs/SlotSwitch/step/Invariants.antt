use Rattle.slot_switch.proofs.Stepping.{AreStepping}
use Rattle.slot_switch.proofs.SlotSwitch.step.Given as goal

abbrev pub invariant-loop-d : goal.invariant-loop-d
invariant-loop-d l =
    AreStepping l.initial.self l.self l.initial.grants l.grants l.plan l.d l.wheel l.stages l.fronts l.credits l.room
