use Rattle.surf_base.specs.Block.{Puts, stream}
use Rattle.surf_cli.specs.Texts.{texts_below}
use Rattle.surf_cli.specs.Schedule.{tile_text}
use Rattle.surf_cli.proofs.table.put_cycle.Given as goal

abbrev pub invariant-loop-tile : goal.invariant-loop-tile
invariant-loop-tile g l =
    Puts (stream (g.O.Sink.written l.initial.out) l.initial.block (g.O.Sink.faults l.initial.out))
    (stream (g.O.Sink.written l.out) l.block (g.O.Sink.faults l.out)) (texts_below l.tile (tile_text l.plan l.cycle))
