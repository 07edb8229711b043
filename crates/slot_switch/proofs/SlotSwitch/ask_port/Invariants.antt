use Rattle.slot_switch.proofs.Asking.{IsAsking}
use Rattle.slot_switch.proofs.SlotSwitch.ask_port.Given as goal

abbrev pub invariant-loop-ch : goal.invariant-loop-ch
invariant-loop-ch l = IsAsking l.initial.self l.self l.plan l.d l.port l.ch l.wheel l.stages l.fronts l.credits l.room
