use Rattle.surf_base.specs.Block.{Puts, stream}
use Rattle.surf_cli.specs.Texts.{texts_below}
use Rattle.surf_cli.specs.Schedule.{port_text}
use Rattle.surf_cli.proofs.table.put_tile.Given as goal

abbrev pub invariant-loop-port : goal.invariant-loop-port
invariant-loop-port g l =
    Puts (stream (g.O.Sink.written l.initial.out) l.initial.block (g.O.Sink.faults l.initial.out))
    (stream (g.O.Sink.written l.out) l.block (g.O.Sink.faults l.out)) (texts_below l.port (port_text l.plan l.cycle l.tile))
