use Rattle.std.proofs.Common.{◌≡◌, ◌*◌, ◌<◌, ap, ◌∙◌, arith}
use Rattle.noc_model.specs.Inputs.{input_count}
use Rattle.noc_model.specs.Plan.{ports}
use Rattle.route_stage.specs.Routed.{stage_at}
use Rattle.route_stage.proofs.Routes.{routed-more}
use Rattle.route_stage.proofs.RouteStage.step_domain.Goals as goal

pub loop-i-preserved : goal.loop-i-preserved
loop-i-preserved c =
    let p = c.args.plan.now in
    let count : c.ports.result * c.link_channels.result ≡ input_count p c.args.d =
    ap (λ k. k * c.link_channels.result) c.ports.ensures.value ∙ ap (λ k. ports p * k) c.link_channels.ensures.value in
    let inside : c.loop-i.i < input_count p c.args.d = omega (arith, c.loop-i-test.true, count) in (
      c.step_one.ensures.inputs,
      λ n e k made. ap (λ v. stage_at v e k) (c.step_one.ensures.routed n made)
          ∙ routed-more p n c.args.fronts.now c.args.stages.now c.args.next.now c.loop-i.next c.args.d c.loop-i.i c.loop-i.invariant.0 c.requires.domain inside
          (λ e k. c.loop-i.invariant.1 n e k made) e k,
    )
