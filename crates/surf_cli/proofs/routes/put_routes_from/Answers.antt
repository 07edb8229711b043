use Rattle.std.proofs.Common.{arith}
use Rattle.noc_model.specs.Plan.{tiles}
use Rattle.surf_cli.specs.Routes.{route_text, routes_from}
use Rattle.std.proofs.lemmas.Result.{err_from_is_err_and}
use Rattle.surf_cli.proofs.Texts.{Puts-next, Puts-loop, BreaksOff-loop, Writes-broken}
use Rattle.surf_cli.proofs.routes.put_routes_from.Goals as goal

pub returns-in_err-put_route : goal.returns-in_err-put_route
unfolding routes_from
returns-in_err-put_route g c =
    let e = err_from_is_err_and c.from_residual.result c.from_residual.ensures.1 in
    Writes-broken c.from_residual.result e.0 _ _ _ e.1
    (BreaksOff-loop _ _ _ c.loop-dest.dest (tiles c.args.plan.now) (route_text c.args.plan.now c.args.tile) (omega arith) c.loop-dest.invariant c.in_err-put_route.ensures)

pub loop-dest-preserved : goal.loop-dest-preserved
loop-dest-preserved g c = Puts-next _ _ _ c.loop-dest.dest (route_text c.args.plan.now c.args.tile) c.loop-dest.invariant c.in_ok-put_route.ensures

pub returns : goal.returns
unfolding routes_from
returns g c = Puts-loop _ _ c.loop-dest.dest (tiles c.args.plan.now) (route_text c.args.plan.now c.args.tile) (omega arith) c.loop-dest.invariant
