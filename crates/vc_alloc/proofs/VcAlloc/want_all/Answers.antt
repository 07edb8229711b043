use Rattle.std.proofs.Common.{◌≡◌, ◌<◌, ◌≤◌, ◌*◌, sym, ap, ◌∙◌, subst, arith}
use Rattle.noc_model.specs.declared.Stage.{Stage}
use Rattle.noc_model.specs.declared.Stage.TheVariants.{Idle}
use Rattle.noc_model.specs.Plan.{ports, link_channels, channels, classes}
use Rattle.noc_model.specs.Inputs.{input_count}
use Rattle.vc_partition.specs.Lanes.{lane}
use Rattle.vc_alloc.specs.Shown.{stage_at, GoesBelow}
use Rattle.vc_alloc.proofs.Wanted.{get-some, some-class, knows-none, knows-more, knows-all}
use Rattle.vc_alloc.proofs.VcAlloc.want_all.Goals as goal

pub loop-i-init : goal.loop-i-init
loop-i-init c = knows-none c.args.self.now c.args.plan.now c.args.d c.args.stages.now c.requires.quiet

pub loop-i-preserved : goal.loop-i-preserved
loop-i-preserved c =
    let p = c.args.plan.now in
    let d = c.args.d in
    let i = c.loop-i.i in
    let count : c.ports.result * c.link_channels.result ≡ input_count p d =
    ap (λ k. k * c.link_channels.result) c.ports.ensures.value ∙ ap (λ k. ports p * k) c.link_channels.ensures.value in
    let below : i < input_count p d = omega (arith, c.loop-i-test.true, count) in
    let some : 1 ≤ channels p d =
    some-class (classes p) (channels p d) c.link_channels.result c.link_channels.ensures.value c.link_channels.ensures.some in
    let stage : c.at.result.now ≡ stage_at c.args.stages.now d i =
    sym (get-some (lane c.args.stages.now d) i c.at.result.now Idle c.at.ensures) in
    let goes : GoesBelow (ports p) c.at.result.now = let P : Stage → Type 0 = GoesBelow (ports p) in subst P (sym stage) (c.requires.outs i) in
    knows-more p d i c.args.self.now c.loop-i.self c.want_at.new.self c.args.stages.now c.at.result.now c.requires.made some below c.loop-i.invariant stage goes c.want_at.ensures.best c.want_at.ensures.same

pub returns-clause-best : goal.returns-clause-best
returns-clause-best c =
    let p = c.args.plan.now in
    let d = c.args.d in
    let count : c.ports.result * c.link_channels.result ≡ input_count p d =
    ap (λ k. k * c.link_channels.result) c.ports.ensures.value ∙ ap (λ k. ports p * k) c.link_channels.ensures.value in
    λ s o shows there. knows-all p d c.loop-i.i c.args.self.now c.loop-i.self c.args.stages.now (omega (arith, c.loop-i-test.false, count)) c.loop-i.invariant s o shows there
