use Rattle.std.proofs.Common.{◌<◌, length, arith}
use Rattle.wave_sched.proofs.Slots.{owned-plus, owned-minus}
use Rattle.wave_sched.proofs.slot_at.Goals as goal

pub returns-in-Plus-clause-value : goal.returns-in-Plus-clause-value
returns-in-Plus-clause-value c =
    let some : 0 < length c.args.plan.now.slots = omega (arith, c.known.ensures.slot_count.0) in
    rw c.in-Plus.is
    (owned-plus c.args.plan.now c.args.tile c.args.cycle 0 c.slots-period.result c.hop.result c.wave.result c.earlier_slot.result c.slots-period.ensures some c.hop.ensures c.wave.ensures.wave c.earlier_slot.ensures)

pub returns-in-Minus-clause-value : goal.returns-in-Minus-clause-value
returns-in-Minus-clause-value c =
    let some : 0 < length c.args.plan.now.slots = omega (arith, c.known.ensures.slot_count.0) in
    rw c.in-Minus.is
    (owned-minus c.args.plan.now c.args.tile c.args.cycle 0 c.slots-period.result c.hop.result c.wave.result c.later_slot.result c.slots-period.ensures some c.hop.ensures c.wave.ensures.wave c.later_slot.ensures)
