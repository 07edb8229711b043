-- A change of one coordinate moves by whole strides.
use Rattle.std.proofs.Common.{arith}
use Rattle.noc_model.proofs.Coords.{positive, tile_in-set}
use Rattle.noc_model.proofs.sides.moved_in.Goals as goal

pub overflow_sub-result : goal.overflow_sub-result
overflow_sub-result c =
    let e =
    tile_in-set c.args.sides.now c.args.n c.args.i c.args.y (positive c.args.sides.now c.requires.sides) c.requires.tile c.requires.there in
    rw (c.coord_in.ensures.value, c.stride_of-stride.ensures.value) (omega arith)

pub returns : goal.returns
returns c =
    let e =
    tile_in-set c.args.sides.now c.args.n c.args.i c.args.y (positive c.args.sides.now c.requires.sides) c.requires.tile c.requires.there in
    rw (c.coord_in.ensures.value, c.stride_of-stride.ensures.value) (omega arith)
