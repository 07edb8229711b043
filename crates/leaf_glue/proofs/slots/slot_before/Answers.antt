use Rattle.std.proofs.Common.{◌<◌, length, arith}
use Rattle.wave_sched.proofs.Turns.{before-plus, before-minus}
use Rattle.leaf_glue.proofs.slots.slot_before.Goals as goal

pub returns-in-Plus-clause-value : goal.returns-in-Plus-clause-value
returns-in-Plus-clause-value c =
    let some : 0 < length c.args.plan.now.slots = omega (arith, c.known.ensures.slot_count.0) in
    rw c.in-Plus.is
    (before-plus c.args.plan.now c.args.tile c.args.ago 0 c.slots-period.result c.hop.result c.wave.result c.earlier_slot.result c.slots-period.ensures some c.hop.ensures c.wave.ensures.wave c.earlier_slot.ensures)

pub returns-in-Minus-clause-value : goal.returns-in-Minus-clause-value
returns-in-Minus-clause-value c =
    let some : 0 < length c.args.plan.now.slots = omega (arith, c.known.ensures.slot_count.0) in
    rw c.in-Minus.is
    (before-minus c.args.plan.now c.args.tile c.args.ago 0 c.slots-period.result c.hop.result c.wave.result c.earlier_slot-in-Minus.result c.later_slot.result c.slots-period.ensures some c.hop.ensures c.wave.ensures.wave c.earlier_slot-in-Minus.ensures c.later_slot.ensures)
