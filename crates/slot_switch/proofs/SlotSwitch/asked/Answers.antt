use Rattle.slot_switch.proofs.Asks.{read-channel}
use Rattle.slot_switch.proofs.SlotSwitch.asked.Goals as goal

pub returns-clause-channel : goal.returns-clause-channel
returns-clause-channel c = read-channel _ c.args.d c.args.port c.at.result.now c.self.invariant c.at.ensures
