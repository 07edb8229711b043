use Rattle.std.proofs.Common.{◌≡◌, ◌∙◌, ◌<◌, ◌≤◌, ◌+◌, ◌*◌, ◌/◌, Bool, sym, ap, subst, arith, ⊎_elim}
use Rattle.std.specs.Prelude.{pos}
use Rattle.std.proofs.lemmas.Bool.Decides.{eqb_tells}
use Rattle.noc_model.specs.Plan.{ports}
use Rattle.noc_model.specs.Inputs.{input_count}
use Rattle.slot_switch.specs.Switch.{Switch}
use Rattle.wave_sched.specs.Wheels.{Stands}
use Rattle.router_core.specs.Attachments.{told_at, outside}
use Rattle.router_core.specs.Asks.{requested, asking, AsksBelow}
use Rattle.route_stage.specs.Routed.{stage_at}
use Rattle.router_core.specs.Buffers.{flits_at}
use Rattle.router_core.specs.Idle.{has_head}
use Rattle.router_core.specs.Parts.{Parts}
use Rattle.router_core.specs.Shown.{Shows}
use Rattle.router_core.proofs.Asked.{asking_parts, asks-none, asks-more, asks-all, asking-shows}
use Rattle.router_core.proofs.router.Router.ask_all.Goals as goal

pub loop-k-init : goal.loop-k-init
loop-k-init c = record {
  rest = λ i. c.args.self.now;
  knows = asks-none c.args.plan.now c.args.d c.args.self.now c.requires.made.switch c.requires.quiet;
  heads = λ none k less. absurd (omega (arith, less));
}

pub loop-k-preserved : goal.loop-k-preserved
loop-k-preserved c =
    let p = c.args.plan.now in
    let d = c.args.d in
    let k = c.loop-k.k in
    let now = c.args.self.now in
    let cur = c.loop-k.self in
    let g = c.request-grant.result in
    let count : c.ports.result * c.link_channels.result ≡ input_count p d =
    ap (λ k. k * c.link_channels.result) c.ports.ensures.value ∙ ap (λ k. ports p * k) c.link_channels.ensures.value in
    let below : k < input_count p d = omega (arith, c.loop-k-test.true, count) in
    let asked = c.ask.ensures ∙ ap (λ (r : Parts). asking r.switch d (k / c.link_channels-in-loop-k.result) g) c.self.view_is
    ∙ ap (λ l. asking cur.switch d (k / l) g) c.link_channels-in-loop-k.ensures.value in
    let e = c.self.view_is ∙ c.loop-k.invariant.rest in
    let H : Parts → Bool = λ r. has_head (stage_at r.stages d k) (flits_at r.buffers d k) in
    let P : Switch → Type 0 = λ x. AsksBelow (k + 1) p d now x in
    record {
      rest = λ i. let r : Parts = e i in asking_parts r c.ask.new.switch;
      knows = subst P (sym asked)
          (asks-more k p d now cur.switch g c.requires.domain below c.loop-k.invariant.knows
          (λ s t shown stands.
          let Q : Parts → Type 0 = λ r. Shows r p d s → Stands r.wheel p r.tile t → g ≡ requested p d r.tile (pos t) s (outside (told_at r.told d)) k in
          subst Q c.loop-k.invariant.rest (c.request-grant.ensures.value s t) (asking-shows k p d now cur.switch d s c.loop-k.invariant.knows shown) stands));
      heads = λ none j less. ⊎_elim
          (λ here. ap (λ i. has_head (stage_at now.stages d i) (flits_at now.buffers d i)) here.1 ∙ ap H (sym c.loop-k.invariant.rest) ∙ c.finds_head-waits.ensures.here none)
          (λ away. let apart = away.1 in c.loop-k.invariant.heads (c.finds_head-waits.ensures.before none) j (omega (arith, less, apart)))
          (eqb_tells j k);
    }

pub returns-clause-heads : goal.returns-clause-heads
returns-clause-heads c = λ none k inside.
    let p = c.args.plan.now in
    let count : c.ports.result * c.link_channels.result ≡ input_count p c.args.d =
    ap (λ k. k * c.link_channels.result) c.ports.ensures.value ∙ ap (λ k. ports p * k) c.link_channels.ensures.value in
    c.loop-k.invariant.heads none k (omega (arith, inside, c.loop-k-test.false, count))

pub returns-clause-asks : goal.returns-clause-asks
returns-clause-asks c = λ s t port shown stands inside.
    let p = c.args.plan.now in
    let d = c.args.d in
    let count : c.ports.result * c.link_channels.result ≡ input_count p d =
    ap (λ k. k * c.link_channels.result) c.ports.ensures.value ∙ ap (λ k. ports p * k) c.link_channels.ensures.value in
    let past : input_count p d ≤ c.loop-k.k = omega (arith, c.loop-k-test.false, count) in
    asks-all c.loop-k.k p d c.args.self.now c.loop-k.self.switch past c.loop-k.invariant.knows s t port shown stands inside
