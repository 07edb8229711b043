use Rattle.std.proofs.Common.{◌≤◌, arith}
use Rattle.noc_model.specs.Plan.{ports}
use Rattle.slot_switch.proofs.Switching.{switched}
use Rattle.slot_switch.proofs.SlotSwitch.step_domain.Goals as goal

pub returns-clause-switched : goal.returns-clause-switched
returns-clause-switched c =
    let p = c.args.plan.now in
    let all : ports p ≤ c.loop-port.port = let e = c.requires.made.port_count in omega (arith, c.loop-port-test.false, c.ports-port-end.ensures.value, e) in
    switched c.args.self.now c.loop-port.self c.grant_all.new.self c.forget.new.grants c.grant_all.new.grants p c.args.d c.loop-port.port c.args.wheel.now
    c.args.stages.now c.args.fronts.now c.args.credits.now c.args.room.now c.requires.made all c.loop-port.invariant c.grant_all.ensures
