use Rattle.std.proofs.Common.{rules, arith, ◌∙◌}
use mir.Val.{SFits}
use mir.Syntax.{w64}
use Rattle.std.proofs.Math.Facts.{to_z-of_z}
use Rattle.desc_check.specs.Upgrade.{domain_draft}
use Rattle.desc_check.proofs.Upgraded.{map-next, domain-is, nobody}
use Rattle.desc_check.proofs.upgrade.domains_of.Goals as goal

pub loop-d-preserved : goal.loop-d-preserved
loop-d-preserved c =
    let fits : SFits w64 c.from-channels.result = search rules in
    let a = to_z-of_z fits ∙ c.from-channels.ensures in
    map-next domain_draft c.args.plan.now.domains c.loop-d.domains _ c.loop-d.d nobody _ (omega arith) c.loop-d.invariant c.in_ok-push.ensures.ok
    ((λ t. record { name = c.in_ok-name.name; channels = a t })
    ∙ domain-is c.args.plan.now.domains c.loop-d.d nobody c.in_ok-name.name c.channels.result (omega arith) (c.in_ok-name.ensures ∙ c.name.ensures) c.channels.ensures.value)
