use Rattle.surf_base.specs.Block.{Puts, stream}
use Rattle.aig_model.specs.Text.{input_lines}
use Rattle.aig_out.proofs.text.put_inputs.Given as goal

abbrev pub invariant-loop-i : goal.invariant-loop-i
invariant-loop-i g l =
    Puts (stream (g.O.Sink.written l.initial.out) l.initial.block (g.O.Sink.faults l.initial.out))
    (stream (g.O.Sink.written l.out) l.block (g.O.Sink.faults l.out)) (input_lines 1 l.i)
