use Rattle.std.proofs.Common.{◌++◌, ◌∷◌, [], ℕ, List, Option, None, length, map, replicate, ap, ◌∙◌}
use Rattle.std.specs.List.{range_with_len}
use Rattle.noc_model.specs.Plan.{ports}
use Rattle.vc_partition.proofs.Cuts.{replicate-more}
use Rattle.router_core.specs.Pulses.{no_pulses}
use Rattle.router_core.proofs.Start.{map-lanes}
use Rattle.cycle_sim.proofs.begin.pulses_of.Goals as goal

pub loop-preserved : goal.loop-preserved
loop-preserved c =
    let p = c.args.plan.now in
    let made = c.in_ok-new.ensures ∙ ap (map (λ k. let l : List (Option ℕ) = replicate k None in l)) (c.deref.ensures.value ∙ c.in_ok-counts.ensures.value)
    ∙ map-lanes (λ d. ports p) None (range_with_len 0 (length p.domains)) in
    c.in_ok-push.ensures.items ∙ ap (λ xs. xs ++ c.in_ok-new.field-0 ∷ []) c.loop.invariant ∙ ap (λ x. replicate c.loop.counter (no_pulses p) ++ x ∷ []) made
    ∙ replicate-more c.loop.counter (no_pulses p)
