use Rattle.std.proofs.Common.{◌≡◌, ◌+◌, ◌^◌, ap, arith}
use Rattle.gen_kit.proofs.Sets.{mask-lt}
use Rattle.leaf_tie.specs.Alloc.{in_class}
use Rattle.leaf_tie.specs.Glue.{high}
use Rattle.leaf_parts.proofs.Masked.{mask_fits}
use Rattle.leaf_parts.proofs.alloc.class_mask.Goals as goal

pub overflow_add-mask : goal.overflow_add-mask
overflow_add-mask c =
    let set = in_class c.args.plan.now c.args.domain c.args.tile c.args.out c.args.class in
    let fits = mask_fits set c.loop-place.place 64 c.loop-place.mask (omega arith) c.loop-place.invariant in
    omega (arith, fits, c.pow-mask.ensures)

pub returns-clause-fits : goal.returns-clause-fits
returns-clause-fits c =
    let small = mask-lt c.loop-place.place (in_class c.args.plan.now c.args.domain c.args.tile c.args.out c.args.class) in
    let end : c.loop-place.place ≡ high c.args.plan.now c.args.domain + 1 = omega arith in
    let same = ap (λ k. 2 ^ k) end in
    omega (arith, small, same, c.loop-place.invariant)
