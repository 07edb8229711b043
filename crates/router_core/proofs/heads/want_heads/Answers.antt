use Rattle.std.proofs.Common.{◌≡◌, ◌<◌, ◌≤◌, ◌*◌, sym, ap, ◌∙◌, subst, arith}
use Rattle.noc_model.specs.declared.Stage.{Stage}
use Rattle.noc_model.specs.declared.Stage.TheVariants.{Idle}
use Rattle.noc_model.specs.Plan.{ports, channels, classes}
use Rattle.noc_model.specs.Inputs.{input_count}
use Rattle.vc_partition.specs.Lanes.{lane}
use Rattle.vc_alloc.specs.Shown.{stage_at, GoesBelow}
use Rattle.vc_alloc.proofs.Wanted.{get-some, some-class, knows-none, knows-more}
use Rattle.router_core.proofs.heads.want_heads.Goals as goal

pub loop-k-init : goal.loop-k-init
loop-k-init c = knows-none c.args.allocator.now c.args.plan.now c.args.d c.args.stages.now c.requires.quiet

pub loop-k-preserved : goal.loop-k-preserved
loop-k-preserved c =
    let p = c.args.plan.now in
    let d = c.args.d in
    let k = c.loop-k.k in
    let count : c.ports.result * c.link_channels.result ≡ input_count p d =
    ap (λ k. k * c.link_channels.result) c.ports.ensures.value ∙ ap (λ k. ports p * k) c.link_channels.ensures.value in
    let below : k < input_count p d = omega (arith, c.loop-k-test.true, count) in
    let some : 1 ≤ channels p d = some-class (classes p) (channels p d) c.link_channels.result c.link_channels.ensures.value c.link_channels.ensures.some in
    let stage : c.at.result.now ≡ stage_at c.args.stages.now d k = sym (get-some (lane c.args.stages.now d) k c.at.result.now Idle c.at.ensures) in
    let goes : GoesBelow (ports p) c.at.result.now = let P : Stage → Type 0 = GoesBelow (ports p) in subst P (sym stage) (c.requires.outs k) in
    knows-more p d k c.args.allocator.now c.loop-k.allocator c.want_head.new.allocator c.args.stages.now c.at.result.now c.requires.made some below c.loop-k.invariant stage goes c.want_head.ensures.best c.want_head.ensures.same
