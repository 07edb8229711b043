use Rattle.std.proofs.Common.{arith}
use Rattle.noc_model.specs.Plan.{tiles}
use Rattle.surf_cli.specs.Routes.{routes_from, routes_text}
use Rattle.std.proofs.lemmas.Result.{err_from_is_err_and}
use Rattle.surf_cli.proofs.Texts.{Puts-next, Puts-loop, BreaksOff-loop, Writes-broken}
use Rattle.surf_cli.proofs.routes.put_routes.Goals as goal

pub returns-in_err-put_routes_from : goal.returns-in_err-put_routes_from
unfolding routes_text
returns-in_err-put_routes_from g c =
    let e = err_from_is_err_and c.from_residual.result c.from_residual.ensures.1 in
    Writes-broken c.from_residual.result e.0 _ _ _ e.1
    (BreaksOff-loop _ _ _ c.loop-tile.tile (tiles c.args.plan.now) (routes_from c.args.plan.now) (omega arith) c.loop-tile.invariant c.in_err-put_routes_from.ensures)

pub loop-tile-preserved : goal.loop-tile-preserved
loop-tile-preserved g c = Puts-next _ _ _ c.loop-tile.tile (routes_from c.args.plan.now) c.loop-tile.invariant c.in_ok-put_routes_from.ensures

pub returns : goal.returns
unfolding routes_text
returns g c = Puts-loop _ _ c.loop-tile.tile (tiles c.args.plan.now) (routes_from c.args.plan.now) (omega arith) c.loop-tile.invariant
