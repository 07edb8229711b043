use Rattle.std.proofs.Common.{◌≡◌, true, refl, sym, arith}
use Rattle.noc_model.specs.Place.{is_wrap, side, coord}
use Rattle.dor_routes.proofs.Ways.{wrap-mesh}
use Rattle.dor_routes.proofs.is_wrap.Goals as goal

pub returns-then-not-torus-clause-value : goal.returns-then-not-torus-clause-value
returns-then-not-torus-clause-value c = wrap-mesh c.args.plan.now c.args.at c.args.port (grind arith)

pub returns-in-Local-clause-value : goal.returns-in-Local-clause-value
unfolding is_wrap
returns-in-Local-clause-value c = rw (sym c.in-Local.ensures) refl

pub returns-in-Plus-clause-value : goal.returns-in-Plus-clause-value
unfolding is_wrap side coord
returns-in-Plus-clause-value c =
    let torus : c.args.plan.now.torus ≡ true = grind arith in
    rw (sym c.in-Plus.ensures, torus, ← c.side.ensures.value, ← c.coord.ensures.value) c.is_over_edge.ensures

pub returns-in-Minus-clause-value : goal.returns-in-Minus-clause-value
unfolding is_wrap side coord
returns-in-Minus-clause-value c =
    let torus : c.args.plan.now.torus ≡ true = grind arith in
    rw (sym c.in-Minus.ensures, torus, ← c.side-in-Minus.ensures.value, ← c.coord-in-Minus.ensures.value) c.is_over_edge-in-Minus.ensures
