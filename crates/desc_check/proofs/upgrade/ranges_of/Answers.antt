use Rattle.std.proofs.Common.{rules, arith, ◌∙◌}
use mir.Val.{SFits}
use mir.Syntax.{w64}
use Rattle.std.proofs.Math.Facts.{to_z-of_z}
use Rattle.desc_check.specs.Upgrade.{range_draft}
use Rattle.desc_check.proofs.Upgraded.{map-next, range-is}
use Rattle.desc_check.proofs.upgrade.ranges_of.Goals as goal

pub loop-i-preserved : goal.loop-i-preserved
loop-i-preserved c =
    let tile_fits : SFits w64 c.from.result = search rules in
    let first_fits : SFits w64 c.from-in-loop-i.result = search rules in
    let last_fits : SFits w64 c.from-in-loop-i-2.result = search rules in
    let a = to_z-of_z tile_fits ∙ c.from.ensures in
    let b = to_z-of_z first_fits ∙ c.from-in-loop-i.ensures in
    let e = to_z-of_z last_fits ∙ c.from-in-loop-i-2.ensures in
    map-next range_draft c.args.plan.now.ranges c.loop-i.ranges _ c.loop-i.i c.range-range.result _ (omega arith) c.loop-i.invariant c.in_ok-push.ensures.ok
    ((λ t. record { tile = a t; first = b t; last = e t }) ∙ range-is c.args.plan.now.ranges c.loop-i.i c.range-range.result c.range-range.ensures)
