use Rattle.std.proofs.Common.{◌≡◌, sym, ap, ◌∙◌, None, Some, List, length, refl}
use Rattle.noc_model.specs.Plan.{places}
use Rattle.noc_model.specs.declared.Host.{Host}
use Rattle.noc_model.specs.PlanOf.{plan_of}
use Rattle.desc_check.specs.Faults.{places_fault, attach_fault}
use Rattle.desc_check.proofs.Judged.{alone}
use Rattle.desc_check.proofs.plan_fault.Goals as goal

pub returns-in-Some : goal.returns-in-Some
returns-in-Some c =
    let e : places_fault (places (plan_of c.args.parts.now)) ≡ Some c.in-Some.fault =
    ap places_fault (sym c.places.ensures) ∙ sym c.places_fault.ensures ∙ c.in-Some.is in
    rw e refl

pub returns : goal.returns
returns c =
    let e : places_fault (places (plan_of c.args.parts.now)) ≡ None =
    ap places_fault (sym c.places.ensures) ∙ sym c.places_fault.ensures ∙ c.in_default.is in
    let counted = ap (λ (hosts : List Host). attach_fault (length hosts)) c.as_slice.ensures.value in
    rw e (c.attach_fault.ensures ∙ counted ∙ sym (alone (attach_fault (length (plan_of c.args.parts.now).hosts))))
