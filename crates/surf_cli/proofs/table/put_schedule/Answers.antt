use Rattle.std.proofs.Common.{arith}
use Rattle.surf_cli.specs.Schedule.{cycle_text, schedule_text}
use Rattle.std.proofs.lemmas.Result.{err_from_is_err_and}
use Rattle.surf_cli.proofs.Texts.{Puts-next, Puts-loop, BreaksOff-loop, Writes-broken}
use Rattle.surf_cli.proofs.table.put_schedule.Goals as goal

pub returns-in_err-put_cycle : goal.returns-in_err-put_cycle
unfolding schedule_text
returns-in_err-put_cycle g c =
    let e = err_from_is_err_and c.from_residual.result c.from_residual.ensures.1 in
    Writes-broken c.from_residual.result e.0 _ _ _ e.1
    (BreaksOff-loop _ _ _ c.loop-cycle.cycle c.args.cycles (cycle_text c.args.plan.now) (omega arith) c.loop-cycle.invariant.so_far c.in_err-put_cycle.ensures)

pub loop-cycle-preserved : goal.loop-cycle-preserved
loop-cycle-preserved g c = record {
  so_far = Puts-next _ _ _ c.loop-cycle.cycle (cycle_text c.args.plan.now) c.loop-cycle.invariant.so_far c.in_ok-put_cycle.ensures;
  wheels = c.tick_all.ensures c.args.plan.now c.loop-cycle.cycle c.loop-cycle.invariant.wheels;
}

pub returns : goal.returns
unfolding schedule_text
returns g c = Puts-loop _ _ c.loop-cycle.cycle c.args.cycles (cycle_text c.args.plan.now) (omega arith) c.loop-cycle.invariant.so_far
