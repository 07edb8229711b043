-- The count so far, times the next side, is a product of a front of the sides, and so no more than the whole product.
use Rattle.std.proofs.Common.{◌*◌, ◌+◌, ◌∙◌, ap, sym, slice_index, arith}
use Rattle.noc_model.proofs.Coords.{positive, product-take_more, product-take_le}
use Rattle.noc_model.proofs.sides.product_of.Goals as goal

pub overflow_mul-count : goal.overflow_mul-count
overflow_mul-count c =
    let more = product-take_more c.args.sides.now c.loop-k.k-index c.loop-k-test.true in
    let front = product-take_le c.args.sides.now (c.loop-k.k-index + 1) (positive c.args.sides.now c.requires.sides) in
    let up = ap (λ m. m * slice_index c.args.sides.now c.loop-k.k-index) c.loop-k.invariant in
    omega (arith, more, front, up, c.requires.few)

pub loop-k-preserved : goal.loop-k-preserved
loop-k-preserved c =
    ap (λ m. m * slice_index c.args.sides.now c.loop-k.k-index) c.loop-k.invariant
    ∙ sym (product-take_more c.args.sides.now c.loop-k.k-index c.loop-k-test.true)
