use Rattle.std.proofs.Common.{arith, rules, pos, ap, ◌∙◌}
use mir.Val.{SFits}
use mir.Syntax.{w64}
use Rattle.std.proofs.Math.Facts.{to_z-of_z}
use Rattle.noc_model.specs.Place.{side}
use Rattle.desc_check.proofs.Upgraded.{map-next}
use Rattle.desc_check.proofs.upgrade.dims_of.Goals as goal

pub loop-i-preserved : goal.loop-i-preserved
unfolding side
loop-i-preserved c =
    let fits : SFits w64 c.from.result = search rules in
    map-next (λ k. pos k) c.args.plan.now.dims c.loop-i.dims _ c.loop-i.i 1 _ (omega arith) c.loop-i.invariant c.in_ok-push.ensures.ok
    (to_z-of_z fits ∙ c.from.ensures ∙ ap (λ k. pos k) c.side.ensures.value)
