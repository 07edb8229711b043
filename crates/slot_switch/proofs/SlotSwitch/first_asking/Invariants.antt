use Rattle.std.proofs.Common.{◌≡◌, ◌≤◌, None}
use Rattle.noc_model.specs.Pick.{least}
use Rattle.noc_model.specs.Step.{asks_for}
use Rattle.vc_partition.specs.Picks.{from_on}
use Rattle.slot_switch.specs.Switch.{ask_at}
use Rattle.slot_switch.proofs.SlotSwitch.first_asking.Given as goal

abbrev pub invariant-loop-port : goal.invariant-loop-port
invariant-loop-port l = record {
  late : l.from ≤ l.port;
  none : least l.port (from_on l.from (λ port. asks_for (ask_at l.self l.d port) l.out)) ≡ None;
}
