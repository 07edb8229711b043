use Rattle.surf_base.specs.Block.{Puts, stream}
use Rattle.surf_cli.specs.Texts.{texts_below}
use Rattle.surf_cli.specs.Routes.{route_text}
use Rattle.surf_cli.proofs.routes.put_routes_from.Given as goal

abbrev pub invariant-loop-dest : goal.invariant-loop-dest
invariant-loop-dest g l =
    Puts (stream (g.O.Sink.written l.initial.out) l.initial.block (g.O.Sink.faults l.initial.out))
    (stream (g.O.Sink.written l.out) l.block (g.O.Sink.faults l.out)) (texts_below l.dest (route_text l.plan l.tile))
