use Rattle.slot_switch.proofs.Stepping.{step-next}
use Rattle.slot_switch.proofs.SlotSwitch.step.Goals as goal

pub loop-d-preserved : goal.loop-d-preserved
loop-d-preserved c =
    step-next c.args.self.now c.loop-d.self c.step_domain.new.self c.args.grants.now c.loop-d.grants c.step_domain.new.grants c.args.plan.now c.loop-d.d c.args.wheel.now
    c.args.stages.now c.args.fronts.now c.args.credits.now c.args.room.now c.loop-d.invariant c.step_domain.ensures.switched c.step_domain.ensures.made
    c.step_domain.ensures.switch c.step_domain.ensures.grants
