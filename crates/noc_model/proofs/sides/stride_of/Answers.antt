-- A stride is a product of a front of the sides.
use Rattle.noc_model.proofs.Coords.{strides}
use Rattle.noc_model.proofs.sides.stride_of.Goals as goal

pub product_of-requires-clause-few : goal.product_of-requires-clause-few
product_of-requires-clause-few c =
    (strides c.args.sides.now c.args.i c.requires.sides c.requires.few c.requires.there).2

pub returns-clause-some : goal.returns-clause-some
returns-clause-some c =
    rw c.product_of.ensures (strides c.args.sides.now c.args.i c.requires.sides c.requires.few c.requires.there).0

pub returns-clause-few : goal.returns-clause-few
returns-clause-few c =
    rw c.product_of.ensures (strides c.args.sides.now c.args.i c.requires.sides c.requires.few c.requires.there).1
