use Rattle.vc_alloc.proofs.Allocated.{has-allocated, nothing-wanted, only-domain}
use Rattle.vc_alloc.proofs.VcAlloc.step_domain.Goals as goal

pub returns-clause-allocated : goal.returns-clause-allocated
returns-clause-allocated c =
    has-allocated c.args.self.now c.forget.new.self c.want_all.new.self c.commit_all.new.self c.args.stages.now c.args.next.now c.commit_all.new.next c.args.plan.now c.args.d
    c.requires.made c.forget.ensures.rest c.forget.ensures.outputs c.want_all.ensures.rest c.want_all.ensures.outputs c.want_all.ensures.best c.requires.outs c.requires.places
    c.commit_all.ensures

pub returns-clause-quiet : goal.returns-clause-quiet
returns-clause-quiet c =
    nothing-wanted c.args.self.now c.forget.new.self c.want_all.new.self c.commit_all.new.self c.args.stages.now c.args.next.now c.commit_all.new.next c.args.plan.now c.args.d
    c.requires.made c.forget.ensures.rest c.forget.ensures.outputs c.want_all.ensures.rest c.want_all.ensures.outputs c.want_all.ensures.best c.requires.outs c.requires.places
    c.commit_all.ensures

pub returns-clause-allocator : goal.returns-clause-allocator
returns-clause-allocator c =
    only-domain c.args.self.now c.forget.new.self c.want_all.new.self c.commit_all.new.self c.args.stages.now c.args.next.now c.commit_all.new.next c.args.plan.now c.args.d
    c.requires.made c.forget.ensures.rest c.forget.ensures.outputs c.want_all.ensures.rest c.want_all.ensures.outputs c.want_all.ensures.best c.requires.outs c.requires.places
    c.commit_all.ensures
