use Rattle.std.proofs.Common.{◌∙◌, ap, ◌++◌, ◌∷◌, [], None}
use Rattle.vc_partition.proofs.Cuts.{replicate-more}
use Rattle.vc_alloc.proofs.unwanted.Goals as goal

pub loop-preserved : goal.loop-preserved
loop-preserved c =
    c.in_ok-push.ensures.items ∙ ap (λ xs. xs ++ None ∷ []) c.loop.invariant ∙ replicate-more c.loop.counter None
