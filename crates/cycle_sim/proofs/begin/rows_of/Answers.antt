use Rattle.std.proofs.Common.{◌++◌, ◌∷◌, [], ℕ, List, Option, None, replicate, ap, ◌∙◌}
use Rattle.noc_model.specs.declared.LinkFlit.{LinkFlit}
use Rattle.vc_partition.proofs.Cuts.{replicate-more}
use Rattle.cycle_sim.proofs.begin.rows_of.Goals as goal

abbrev row : ℕ → List (Option LinkFlit)
row n = replicate n None

pub loop-preserved : goal.loop-preserved
loop-preserved c =
    let made = c.in_ok-new.ensures ∙ ap row c.stages.ensures in
    c.in_ok-push.ensures.items ∙ ap (λ xs. xs ++ c.in_ok-new.field-0 ∷ []) c.loop.invariant ∙ ap (λ x. replicate c.loop.counter (row c.args.plan.now.stages) ++ x ∷ []) made
    ∙ replicate-more c.loop.counter (row c.args.plan.now.stages)
