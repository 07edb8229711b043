use Rattle.surf_base.specs.Block.{Puts, stream}
use Rattle.stress_gen.specs.Summary.{summary_line}
use Rattle.surf_cli.specs.Texts.{texts_below}
use Rattle.surf_cli.specs.Simulate.{events_of}
use Rattle.surf_cli.proofs.summary.Summary.put.Given as goal

abbrev pub invariant-loop-d : goal.invariant-loop-d
invariant-loop-d g l =
    Puts (stream (g.O.Sink.written l.initial.out) l.initial.block (g.O.Sink.faults l.initial.out))
    (stream (g.O.Sink.written l.out) l.block (g.O.Sink.faults l.out)) (texts_below l.d (λ d. summary_line l.self.plan d (events_of l.self.events d)))
