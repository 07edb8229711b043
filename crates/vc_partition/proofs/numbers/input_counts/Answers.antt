use Rattle.std.proofs.Common.{◌≡◌, ◌≤◌, ◌*◌, ◌++◌, ◌∷◌, [], map, ap, sym, ◌∙◌, arith}
use Rattle.std.specs.List.{range_with_len}
use Rattle.std.proofs.lemmas.List.FromFn.{map-range_with_len_more}
use Rattle.noc_model.specs.Plan.{ports}
use Rattle.noc_model.specs.Inputs.{input_count}
use Rattle.vc_partition.specs.Lanes.{total}
use Rattle.vc_partition.proofs.Cuts.{total-push}
use Rattle.std.proofs.Math.Nat.{mul-le-mul}
use Rattle.vc_partition.proofs.numbers.input_counts.Goals as goal

pub loop-d-preserved : goal.loop-d-preserved
loop-d-preserved c =
    let p = c.args.plan.now in
    let d = c.loop-d.d in
    let n = c.ports.result * c.link_channels.result in
    let is : n ≡ input_count p d =
    ap (λ k. k * c.link_channels.result) c.ports.ensures.value ∙ ap (λ k. ports p * k) c.link_channels.ensures.value in
    let items = c.in_ok-push.ensures.items in
    let more = map-range_with_len_more (input_count p) 0 d d (omega arith) in
    let few : n ≤ 7 * 8 = mul-le-mul c.ports.ensures.few c.link_channels.ensures.few in
    let sum = ap total items ∙ total-push c.loop-d.counts.items n in
    let old = c.loop-d.invariant.1 in (
      items ∙ ap (λ xs. xs ++ n ∷ []) c.loop-d.invariant.0
          ∙ ap (λ k. map (input_count p) (range_with_len 0 d) ++ k ∷ []) is ∙ sym more,
      omega (arith, few, sum, old),
    )
