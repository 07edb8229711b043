use Rattle.std.proofs.Common.{refl, sym}
use Rattle.noc_model.specs.Place.{rank}
use Rattle.dor_routes.proofs.rank.Goals as goal

pub returns-in-Local-clause-value : goal.returns-in-Local-clause-value
unfolding rank
returns-in-Local-clause-value c = rw (sym c.in-Local.ensures) refl

pub returns-in-Plus-clause-value : goal.returns-in-Plus-clause-value
unfolding rank
returns-in-Plus-clause-value c =
    rw (sym c.in-Plus.ensures, ← c.side.ensures.value, ← c.coord.ensures.value) c.rank_on.ensures.value

pub returns-in-Minus-clause-value : goal.returns-in-Minus-clause-value
unfolding rank
returns-in-Minus-clause-value c =
    rw (sym c.in-Minus.ensures, ← c.side-k.ensures.value, ← c.coord-in-Minus.ensures.value) c.rank_on-in-Minus.ensures.value
