-- A side is an entry of the list.
use Rattle.std.proofs.Common.{sym, ◌∙◌}
use Rattle.noc_model.specs.PlanOf.{plan_of}
use Rattle.noc_model.proofs.Plans.{side-at}
use Rattle.noc_model.proofs.plan.Plan.side.Goals as goal

pub returns-clause-value : goal.returns-clause-value
returns-clause-value c =
    let there = rw (← c.self.view_is) at c.requires in
    rw (← c.self.view_is) (c.index.ensures ∙ sym (side-at (plan_of c.self.inside.parts) c.args.i c.index.result.now there))
