use Rattle.std.proofs.Common.{arith}
use Rattle.noc_model.specs.Plan.{tiles}
use Rattle.surf_cli.specs.Schedule.{tile_text, cycle_text}
use Rattle.std.proofs.lemmas.Result.{err_from_is_err_and}
use Rattle.surf_cli.proofs.Texts.{Puts-next, Puts-loop, BreaksOff-loop, Writes-broken}
use Rattle.surf_cli.proofs.table.put_cycle.Goals as goal

pub returns-in_err-put_tile : goal.returns-in_err-put_tile
unfolding cycle_text
returns-in_err-put_tile g c =
    let e = err_from_is_err_and c.from_residual.result c.from_residual.ensures.1 in
    Writes-broken c.from_residual.result e.0 _ _ _ e.1
    (BreaksOff-loop _ _ _ c.loop-tile.tile (tiles c.args.plan.now) (tile_text c.args.plan.now c.args.cycle) (omega arith) c.loop-tile.invariant c.in_err-put_tile.ensures)

pub loop-tile-preserved : goal.loop-tile-preserved
loop-tile-preserved g c = Puts-next _ _ _ c.loop-tile.tile (tile_text c.args.plan.now c.args.cycle) c.loop-tile.invariant c.in_ok-put_tile.ensures

pub returns : goal.returns
unfolding cycle_text
returns g c = Puts-loop _ _ c.loop-tile.tile (tiles c.args.plan.now) (tile_text c.args.plan.now c.args.cycle) (omega arith) c.loop-tile.invariant
