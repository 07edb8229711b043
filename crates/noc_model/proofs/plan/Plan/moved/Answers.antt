-- A coordinate below its side gives a tile.
use Rattle.noc_model.specs.PlanOf.{plan_of}
use Rattle.noc_model.proofs.Plans.{side-at, moved-below}
use Rattle.noc_model.proofs.plan.Plan.moved.Goals as goal

pub moved_in-requires-clause-below : goal.moved_in-requires-clause-below
moved_in-requires-clause-below c =
    let below = rw c.in-Some.is at c.requires.below in
    let at = side-at (plan_of c.self.inside.parts) c.args.i 0 (rw (← c.self.view_is) at c.requires.dim) in
    rw (c.deref.ensures.value, ← at) (rw (← c.self.view_is) at below)

pub returns-in-Some-clause-tile : goal.returns-in-Some-clause-tile
returns-in-Some-clause-tile c =
    let below = rw c.in-Some.is at c.requires.below in
    let there = rw (← c.self.view_is) at c.requires.dim in
    let at = side-at (plan_of c.self.inside.parts) c.args.i 0 there in
    rw (← c.self.view_is, c.moved_in.ensures, c.deref.ensures.value)
    (moved-below c.self.inside.parts.dims.items c.args.n c.args.i c.in-Some.y c.self.invariant.sides there (rw (← at) (rw (← c.self.view_is) at below)))
