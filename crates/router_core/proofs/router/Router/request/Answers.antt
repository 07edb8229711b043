use Rattle.std.proofs.Common.{◌≡◌, ◌∙◌, ◌<◌, ◌%◌, ◌/◌, Bool, true, false, refl, sym, ap, arith, None}
use Rattle.std.specs.Prelude.{nat_lt, ◌&&◌, pos, if◌then◌else◌}
use Rattle.std.proofs.lemmas.Bool.Decides.{nat_tests}
use Rattle.noc_model.specs.declared.Stage.TheVariants.{Idle}
use Rattle.noc_model.specs.Plan.{in_channels}
use Rattle.noc_model.specs.Inputs.{input_port, input_channel}
use Rattle.noc_model.specs.Step.{is_ready, grant_at}
use Rattle.vc_partition.specs.Lanes.{lane}
use Rattle.route_stage.specs.Routed.{stage_at}
use Rattle.vc_alloc.proofs.Wanted.{get-some}
use Rattle.router_core.specs.Attachments.{told_at, outside}
use Rattle.router_core.specs.Parts.{Parts}
use Rattle.router_core.proofs.Takes.{stage-there}
use Rattle.router_core.proofs.router.Router.request.Goals as goal

and-false : (a b : Bool) → b ≡ false → (a && b) ≡ false
and-false true b e = e
and-false false b e = refl

pub returns-then-not-is_ready-clause-value : goal.returns-then-not-is_ready-clause-value
returns-then-not-is_ready-clause-value c = λ s t shown stands.
    let p = c.args.plan.now in
    let d = c.args.d in
    let k = c.args.k in
    let now = c.args.self.now in
    let ready = is_ready p d now.tile (pos t) s (outside (told_at now.told d)) (input_port p d k) (input_channel p d k) in
    sym (ap (λ b. if b then grant_at (input_channel p d k) (s.stage (input_port p d k) (input_channel p d k)) else None)
    (and-false (nat_lt (input_channel p d k) (in_channels p d (input_port p d k))) ready (sym (c.is_ready.ensures s t shown stands) ∙ c.if-not-is_ready.true)))

pub returns-then-channel-channel_count-clause-value : goal.returns-then-channel-channel_count-clause-value
returns-then-channel-channel_count-clause-value c = λ s t shown stands.
    let p = c.args.plan.now in
    let d = c.args.d in
    let k = c.args.k in
    let now = c.args.self.now in
    let i = outside (told_at now.told d) in
    let ch : k % c.link_channels-channels.result ≡ input_channel p d k = ap (λ l. k % l) c.link_channels-channels.ensures.value in
    let port : k / c.link_channels-channels.result ≡ input_port p d k = ap (λ l. k / l) c.link_channels-channels.ensures.value in
    let count : c.channel_count.result ≡ in_channels p d (input_port p d k) = c.channel_count.ensures.value ∙ ap (in_channels p d) port in
    let inside : nat_lt (input_channel p d k) (in_channels p d (input_port p d k)) ≡ true =
    let a : input_channel p d k < in_channels p d (input_port p d k) = omega (arith, ch, count, c.if-channel-channel_count.true) in grind (arith, nat_tests) in
    let ready : is_ready p d now.tile (pos t) s i (input_port p d k) (input_channel p d k) ≡ true = sym (c.is_ready.ensures s t shown stands) ∙ c.if-not-is_ready.false in
    let stage : c.at.result.now ≡ s.stage (input_port p d k) (input_channel p d k) =
    sym (get-some (lane c.self.inside.stages d) k c.at.result.now Idle c.at.ensures) ∙ ap (λ (r : Parts). stage_at r.stages d k) c.self.view_is ∙ stage-there now p d s k shown c.requires.input in
    let test = ap (λ b. b && is_ready p d now.tile (pos t) s i (input_port p d k) (input_channel p d k)) inside ∙ ready in
    c.grant_at.ensures.value ∙ ap (λ n. grant_at n c.at.result.now) ch ∙ ap (grant_at (input_channel p d k)) stage
    ∙ sym (ap (λ b. if b then grant_at (input_channel p d k) (s.stage (input_port p d k) (input_channel p d k)) else None) test)
