use Rattle.std.proofs.Common.{◌++◌, ◌∷◌, [], map, ap, sym, ◌∙◌, arith}
use Rattle.std.specs.List.{range_with_len}
use Rattle.std.proofs.lemmas.List.FromFn.{map-range_with_len_more}
use Rattle.noc_model.specs.Plan.{ports}
use Rattle.vc_partition.specs.Lanes.{total}
use Rattle.vc_partition.proofs.Cuts.{total-push}
use Rattle.vc_partition.proofs.numbers.port_counts.Goals as goal

pub loop-preserved : goal.loop-preserved
loop-preserved c =
    let p = c.args.plan.now in
    let k = c.loop.counter in
    let n = c.ports.result in
    let items = c.in_ok-push.ensures.items in
    let more = map-range_with_len_more (λ d. ports p) 0 k k (omega arith) in
    let few = c.ports.ensures.few in
    let sum = ap total items ∙ total-push c.loop.counts.items n in
    let old = c.loop.invariant.1 in (
      items ∙ ap (λ xs. xs ++ n ∷ []) c.loop.invariant.0
          ∙ ap (λ o. map (λ d. ports p) (range_with_len 0 k) ++ o ∷ []) c.ports.ensures.value ∙ sym more,
      omega (arith, few, sum, old),
    )
