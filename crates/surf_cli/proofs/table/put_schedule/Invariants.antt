use Rattle.surf_base.specs.Block.{Puts, stream}
use Rattle.surf_cli.specs.Texts.{texts_below}
use Rattle.surf_cli.specs.Schedule.{cycle_text}
use Rattle.surf_cli.specs.Turning.{AllStand}
use Rattle.surf_cli.proofs.table.put_schedule.Given as goal

abbrev pub invariant-loop-cycle : goal.invariant-loop-cycle
invariant-loop-cycle g l = record {
  so_far :
      Puts (stream (g.O.Sink.written l.initial.out) l.initial.block (g.O.Sink.faults l.initial.out))
      (stream (g.O.Sink.written l.out) l.block (g.O.Sink.faults l.out)) (texts_below l.cycle (cycle_text l.plan));
  wheels : AllStand l.wheels l.plan l.cycle;
}
