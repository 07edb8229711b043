use Rattle.std.proofs.Common.{◌≡◌, sym, subst, ◌∙◌, None}
use Rattle.noc_model.specs.Plan.{Plan}
use Rattle.noc_model.specs.Sound.{IsSound}
use Rattle.desc_check.specs.Network.{plan_of_draft}
use Rattle.desc_check.specs.Accepted.{lists_fault, plan_fault, slots_fault, IsSized}
use Rattle.desc_check.proofs.Judged.{form_none, domains_none, ranges_none, none_of_all}
use Rattle.desc_check.proofs.Sound.{sized, sound}
use Rattle.desc_check.proofs.check.Goals as goal

pub parts_of-requires-clause-form : goal.parts_of-requires-clause-form
parts_of-requires-clause-form c = form_none c.args.draft (sym c.lists_fault.ensures ∙ c.in_default.is)

pub parts_of-requires-clause-domains : goal.parts_of-requires-clause-domains
parts_of-requires-clause-domains c = domains_none c.args.draft (sym c.lists_fault.ensures ∙ c.in_default.is)

pub parts_of-requires-clause-ranges : goal.parts_of-requires-clause-ranges
parts_of-requires-clause-ranges c = ranges_none c.args.draft (sym c.lists_fault.ensures ∙ c.in_default.is)

pub plan_fault-requires : goal.plan_fault-requires
plan_fault-requires c =
    let none : lists_fault c.args.draft ≡ None = sym c.lists_fault.ensures ∙ c.in_default.is in
    subst IsSized (sym c.in-Ok.ensures) (sized c.args.draft (form_none c.args.draft none) (domains_none c.args.draft none))

pub new-requires : goal.new-requires
new-requires c =
    let none : lists_fault c.args.draft ≡ None = sym c.lists_fault.ensures ∙ c.in_default.is in
    let few = sym c.plan_fault.ensures ∙ c.in_default-plan_fault.is in
    let sizes : plan_fault (plan_of_draft c.args.draft) ≡ None =
    subst (λ (p : Plan). plan_fault p ≡ None) c.in-Ok.ensures few in
    let slots : slots_fault c.args.draft ≡ None = sym c.slots_fault.ensures ∙ c.in_default-slots_fault.is in
    subst IsSound (sym c.in-Ok.ensures) (sound c.args.draft (none_of_all c.args.draft none sizes slots))
