use Rattle.vc_alloc.proofs.Starts.{one-more}
use Rattle.noc_model.specs.Plan.{link_channels}
use Rattle.vc_alloc.proofs.link_counts.Goals as goal

pub loop-d-preserved : goal.loop-d-preserved
loop-d-preserved c =
    one-more (link_channels c.args.plan.now) _ _ c.loop-d.d _ c.in_ok-push.ensures.items c.loop-d.invariant c.link_channels.ensures.value
