use Rattle.std.proofs.Common.{rules, sym, ◌∙◌}
use mir.Val.{SFits}
use mir.Syntax.{w64}
use Rattle.std.proofs.Math.Facts.{to_z-of_z}
use Rattle.desc_check.specs.Upgrade.{tile_of, hosts_some}
use Rattle.desc_check.proofs.Upgraded.{kept-next, left-next, some-hosted, none-hosted}
use Rattle.desc_check.proofs.upgrade.tiles_of.Goals as goal
use Rattle.desc_check.proofs.upgrade.tiles_of.Goals.{then-len-ne0+in_ok-push, else-len-ne0}

pub loop-tile-preserved : goal.loop-tile-preserved
loop-tile-preserved c =
    let p = c.args.plan.now in
    elim c.if-len-ne0.branch [
      | then-len-ne0+in_ok-push w ↦
          (let fits : SFits w64 w.from-at.result = search rules in
          let a = to_z-of_z fits ∙ w.from-at.ensures in
          let b = c.in_ok-domains.ensures in
          rw w.found-is
          (kept-next (hosts_some p) (tile_of p) c.loop-tile.found _ c.loop-tile.tile _ (some-hosted p c.loop-tile.tile c.in_ok-domains.domains c.in_ok-domains.ensures (λ e. w.if-len-ne0.true (c.len.ensures ∙ e))) c.loop-tile.invariant
          w.in_ok-push.ensures.ok (λ t. record { at = a t; domains = b t })))
      | else-len-ne0 w ↦ rw w.found-is (left-next (hosts_some p) (tile_of p) c.loop-tile.found c.loop-tile.tile (none-hosted p c.loop-tile.tile c.in_ok-domains.domains c.in_ok-domains.ensures (sym c.len.ensures ∙ w.if-len-ne0.false)) c.loop-tile.invariant)
    ]
