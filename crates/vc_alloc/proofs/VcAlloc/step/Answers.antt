use Rattle.vc_alloc.proofs.Stepping.{step-next}
use Rattle.vc_alloc.proofs.VcAlloc.step.Goals as goal

pub loop-d-preserved : goal.loop-d-preserved
loop-d-preserved c =
    step-next c.args.self.now c.loop-d.self c.step_domain.new.self c.args.stages.now c.args.next.now c.loop-d.next c.step_domain.new.next c.args.plan.now c.loop-d.d
    c.loop-d.invariant c.step_domain.ensures.allocated c.step_domain.ensures.allocator c.step_domain.ensures.next
