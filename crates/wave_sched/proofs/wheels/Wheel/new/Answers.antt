use Rattle.std.proofs.Common.{◌<◌, length, arith}
use Rattle.noc_model.specs.Plan.{ports}
use Rattle.wave_sched.proofs.Standing.{made-below}
use Rattle.wave_sched.proofs.wheels.Wheel.new.Goals as goal

pub invariant_of-result-clause-below : goal.invariant_of-result-clause-below
invariant_of-result-clause-below c =
    let some : 0 < length c.args.plan.now.slots = omega (arith, c.known.ensures.slot_count.0) in
    made-below c.args.plan.now c.args.tile (ports c.args.plan.now) c.in_ok-slots.slots.items c.in_ok-starts.starts.items some c.in_ok-slots.ensures c.in_ok-starts.ensures
