use Rattle.slot_switch.specs.Grants.{HaveGranted}
use Rattle.slot_switch.proofs.SlotSwitch.grant_all.Given as goal

abbrev pub invariant-loop-out : goal.invariant-loop-out
invariant-loop-out l = HaveGranted l.initial.self l.self l.initial.grants l.grants l.d l.out
