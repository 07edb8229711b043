-- No two domains have one name, so the one that is found is the first.
use Rattle.std.proofs.Common.{◌≡◌}
use Rattle.noc_model.specs.Plan.{domain_named}
use Rattle.noc_model.specs.PlanOf.{plan_of}
use Rattle.noc_model.proofs.DomainNames.{domain_named-is}
use Rattle.noc_model.proofs.plan.Plan.find.Goals as goal

pub returns-clause-value : goal.returns-clause-value
returns-clause-value c =
    let here : c.find_in.result ≡ domain_named (plan_of c.self.inside.parts) c.args.name.now =
    domain_named-is (plan_of c.self.inside.parts) c.args.name.now c.find_in.result c.self.invariant
    (rw (← c.deref.ensures.value) c.find_in.ensures.found) (rw (← c.deref.ensures.value) c.find_in.ensures.absent) in
    rw (← c.self.view_is) here
