use Rattle.std.proofs.Common.{◌≡◌, sym, subst, None}
use Rattle.std.proofs.lemmas.Result.{IfOk-weaker}
use Rattle.noc_desc.specs.declared.Draft.{Draft}
use Rattle.noc_desc.specs.Document.{AreTexts}
use Rattle.desc_check.specs.Network.{plan_of_draft}
use Rattle.desc_check.specs.Accepted.{first_fault}
use Rattle.desc_check.proofs.UpgradedTexts.{upgrade-texts}
use Rattle.desc_check.proofs.Harmless.{faultless}
use Rattle.desc_check.proofs.SamePlan.{same-plan}
use Rattle.desc_check.proofs.upgrade.draft_of.Goals as goal

pub returns-clause-texts : goal.returns-clause-texts
returns-clause-texts c = IfOk-weaker c.values_of.result _ AreTexts
    (λ draft is. subst AreTexts (sym is) (upgrade-texts c.args.plan.now c.known.ensures)) c.values_of.ensures

pub returns-clause-accepted : goal.returns-clause-accepted
returns-clause-accepted c =
    IfOk-weaker c.values_of.result _ (λ draft. first_fault draft ≡ None)
    (λ draft is. subst (λ (d : Draft). first_fault d ≡ None) (sym is)
    (faultless c.args.plan.now c.known.ensures)) c.values_of.ensures

pub returns-clause-same_plan : goal.returns-clause-same_plan
returns-clause-same_plan c =
    IfOk-weaker c.values_of.result _ (λ draft. plan_of_draft draft ≡ c.args.plan.now)
    (λ draft is. subst (λ (d : Draft). plan_of_draft d ≡ c.args.plan.now) (sym is)
    (same-plan c.args.plan.now c.known.ensures)) c.values_of.ensures
