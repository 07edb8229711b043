-- A coordinate is the number of whole strides, round its side.
use Rattle.std.proofs.Common.{sym}
use Rattle.noc_model.proofs.Coords.{coords_in-at}
use Rattle.noc_model.proofs.sides.coord_in.Goals as goal

pub returns-clause-value : goal.returns-clause-value
returns-clause-value c =
    rw c.stride_of.ensures.value (sym (coords_in-at c.args.sides.now c.args.n c.args.i c.requires.there))
