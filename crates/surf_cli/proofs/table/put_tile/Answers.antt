use Rattle.std.proofs.Common.{arith}
use Rattle.noc_model.specs.Plan.{ports}
use Rattle.surf_cli.specs.Schedule.{port_text, tile_text}
use Rattle.std.proofs.lemmas.Result.{err_from_is_err_and}
use Rattle.surf_cli.proofs.Texts.{Puts-next, Puts-loop, BreaksOff-loop, Writes-broken}
use Rattle.surf_cli.proofs.table.put_tile.Goals as goal

pub returns-in_err-put_port : goal.returns-in_err-put_port
unfolding tile_text
returns-in_err-put_port g c =
    let e = err_from_is_err_and c.from_residual.result c.from_residual.ensures.1 in
    Writes-broken c.from_residual.result e.0 _ _ _ e.1
    (BreaksOff-loop _ _ _ c.loop-port.port (ports c.args.plan.now) (port_text c.args.plan.now c.args.cycle c.args.tile) (omega arith) c.loop-port.invariant c.in_err-put_port.ensures)

pub loop-port-preserved : goal.loop-port-preserved
loop-port-preserved g c = Puts-next _ _ _ c.loop-port.port (port_text c.args.plan.now c.args.cycle c.args.tile) c.loop-port.invariant c.in_ok-put_port.ensures

pub returns : goal.returns
unfolding tile_text
returns g c = Puts-loop _ _ c.loop-port.port (ports c.args.plan.now) (port_text c.args.plan.now c.args.cycle c.args.tile) (omega arith) c.loop-port.invariant
