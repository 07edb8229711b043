use Rattle.std.proofs.Common.{◌≡◌, ◌<◌, ◌+◌, ◌*◌, true, sym, ◌∙◌, ap, arith, Some}
use Rattle.std.specs.Prelude.{not}
use Rattle.noc_model.specs.Plan.{at_local}
use Rattle.vc_alloc.specs.Allocator.{channels_at, held_at}
use Rattle.vc_alloc.proofs.Winners.{free-found}
use Rattle.vc_alloc.proofs.VcAlloc.free_channel.Goals as goal

pub returns-then-not-held-clause-value : goal.returns-then-not-held-clause-value
returns-then-not-held-clause-value c =
    let x = c.args.self.now in
    let d = c.args.d in
    let j = c.loop-j.j in
    let from = ap (λ k. c.args.class * k + j) c.class_channels.ensures.value in
    let below : j < at_local c.args.out 1 (channels_at x d) =
    omega (arith, c.loop-j-test.true, c.class_width-j-end.ensures.value) in
    let free : not (held_at x d c.args.out (c.args.class * channels_at x d + j)) ≡ true =
    ap (λ w. not (held_at x d c.args.out w)) (sym from) ∙ ap not (sym c.held.ensures) ∙ ap not c.if-not-held.true in
    ap Some from ∙ sym (free-found x d c.args.out c.args.class j below c.loop-j.invariant free)

pub overflow_mul-from : goal.overflow_mul-from
overflow_mul-from c =
    let e = ap (λ k. c.args.class * k) c.class_channels.ensures.value in
    omega (arith, e, c.requires.class, c.class_channels.ensures.few)

pub overflow_add-from : goal.overflow_add-from
overflow_add-from c =
    let e = ap (λ k. c.args.class * k) c.class_channels.ensures.value in
    omega (arith, e, c.requires.class, c.class_channels.ensures.few, c.loop-j-test.true, c.class_width-j-end.ensures.within)

pub overflow_add-result : goal.overflow_add-result
overflow_add-result c =
    let e = ap (λ k. c.args.class * k) c.class_channels.ensures.value in
    omega (arith, e, c.requires.class, c.class_channels.ensures.few, c.loop-j-test.true, c.class_width-j-end.ensures.within)
