use Rattle.std.proofs.Common.{◌∙◌, List, length, map, replicate, ap}
use Rattle.std.specs.List.{range_with_len}
use Rattle.noc_model.specs.declared.Stage.{Stage}
use Rattle.noc_model.specs.declared.Stage.TheVariants.{Idle}
use Rattle.noc_model.specs.Inputs.{input_count}
use Rattle.router_core.proofs.Start.{map-lanes}
use Rattle.router_core.proofs.router.start_stages.Goals as goal

pub returns : goal.returns
returns c =
    c.in_ok-stages.ensures ∙ ap (map (λ k. let l : List Stage = replicate k Idle in l)) (c.deref.ensures.value ∙ c.in_ok-inputs.ensures.value)
    ∙ map-lanes (input_count c.args.plan.now) Idle (range_with_len 0 (length c.args.plan.now.domains))
