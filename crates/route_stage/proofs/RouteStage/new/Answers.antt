use Rattle.std.proofs.Common.{arith, ◌∙◌, sym, ap, map, ◌++◌, ◌∷◌, []}
use Rattle.std.specs.List.{range_with_len}
use Rattle.std.proofs.lemmas.List.FromFn.{map-range_with_len_more}
use Rattle.noc_model.specs.Place.{route}
use Rattle.route_stage.proofs.RouteStage.new.Goals as goal

pub loop-dest-preserved : goal.loop-dest-preserved
loop-dest-preserved c =
    let f = route c.args.plan.now c.args.tile in
    let k = c.loop-dest.dest in
    c.in_ok-push.ensures.items ∙ ap (λ xs. xs ++ c.route.result ∷ []) c.loop-dest.invariant
    ∙ ap (λ o. map f (range_with_len 0 k) ++ o ∷ []) c.route.ensures.value
    ∙ sym (map-range_with_len_more f 0 k k (omega arith))
