-- The next coordinate, by plus or by minus, gives the neighbour.
use Rattle.std.proofs.Common.{refl, sym, ◌∙◌}
use Rattle.noc_model.specs.PlanOf.{plan_of}
use Rattle.noc_model.specs.Place.{neighbour}
use Rattle.noc_model.proofs.Plans.{neighbour-plus, neighbour-minus}
use Rattle.noc_model.proofs.plan.Plan.neighbour.Goals as goal

pub returns-in-Local-clause-value : goal.returns-in-Local-clause-value
unfolding neighbour
returns-in-Local-clause-value c = rw (sym c.in-Local.ensures) refl

pub returns-in-Plus-clause-value : goal.returns-in-Plus-clause-value
returns-in-Plus-clause-value c =
    let side_is = rw (← c.self.view_is) at c.side.ensures.value in
    let coord_is = rw (← c.self.view_is) at c.coord.ensures.value in
    let moved = rw (← c.self.view_is) at c.moved.ensures.value in
    let next = neighbour-plus (plan_of c.self.inside.parts) c.args.n c.args.port c.in-Plus.i c.plus_of-next.result (sym c.in-Plus.ensures)
    (rw (← side_is, ← coord_is) c.plus_of-next.ensures.value) in
    rw (← c.self.view_is) (moved ∙ sym next)

pub returns-in-Minus-clause-value : goal.returns-in-Minus-clause-value
returns-in-Minus-clause-value c =
    let side_is = rw (← c.self.view_is) at c.side-in-Minus.ensures.value in
    let coord_is = rw (← c.self.view_is) at c.coord-in-Minus.ensures.value in
    let moved = rw (← c.self.view_is) at c.moved-in-Minus.ensures.value in
    let next = neighbour-minus (plan_of c.self.inside.parts) c.args.n c.args.port c.in-Minus.i c.minus_of-next.result (sym c.in-Minus.ensures)
    (rw (← side_is, ← coord_is) c.minus_of-next.ensures.value) in
    rw (← c.self.view_is) (moved ∙ sym next)
