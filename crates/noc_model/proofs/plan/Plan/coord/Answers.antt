-- A coordinate is that of the sides.
use Rattle.noc_model.specs.PlanOf.{plan_of}
use Rattle.noc_model.specs.Place.{coord}
use Rattle.noc_model.proofs.Plans.{side-at}
use Rattle.noc_model.proofs.plan.Plan.coord.Goals as goal

pub returns-clause-value : goal.returns-clause-value
unfolding coord
returns-clause-value c = rw (← c.self.view_is, ← c.deref.ensures.value) c.coord_in.ensures.value

pub returns-clause-below : goal.returns-clause-below
returns-clause-below c =
    let there = rw (← c.self.view_is) at c.requires in
    rw (← c.self.view_is, side-at (plan_of c.self.inside.parts) c.args.i 0 there, ← c.deref.ensures.value) c.coord_in.ensures.below
