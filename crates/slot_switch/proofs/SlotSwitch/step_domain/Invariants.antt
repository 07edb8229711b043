use Rattle.slot_switch.proofs.Switching.{AreAsking}
use Rattle.slot_switch.proofs.SlotSwitch.step_domain.Given as goal

abbrev pub invariant-loop-port : goal.invariant-loop-port
invariant-loop-port l = AreAsking l.initial.self l.self l.plan l.d l.port l.wheel l.stages l.fronts l.credits l.room
