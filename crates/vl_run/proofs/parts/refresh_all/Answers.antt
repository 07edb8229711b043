use Rattle.std.proofs.Common.{sym, subst}
use Rattle.vl_run.specs.State.{Part}
use Rattle.vl_run.specs.Shown.{IsRefreshed}
use Rattle.vl_run.proofs.Refreshed.{refreshed-turn}
use Rattle.vl_run.proofs.parts.refresh_all.Goals as goal

pub loop-part-preserved : goal.loop-part-preserved
loop-part-preserved c =
    refreshed-turn c.args.parts.now c.loop-part.parts c.loop-part.part-index c.part-item.result c.refresh.new.self c.loop-part-test.true
    c.loop-part.invariant.0 c.loop-part.invariant.1 c.loop-part.invariant.2 c.part-item.is
    (subst (λ (z : Part). IsRefreshed z c.refresh.new.self) (sym c.part-item.is) c.refresh.ensures)
