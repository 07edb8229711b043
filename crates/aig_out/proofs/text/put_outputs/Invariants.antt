use Rattle.std.proofs.Common.{take}
use Rattle.surf_base.specs.Block.{Puts, stream}
use Rattle.aig_model.specs.Text.{output_lines}
use Rattle.aig_out.proofs.text.put_outputs.Given as goal

abbrev pub invariant-loop-output : goal.invariant-loop-output
invariant-loop-output g l =
    Puts (stream (g.O.Sink.written l.initial.out) l.initial.block (g.O.Sink.faults l.initial.out))
    (stream (g.O.Sink.written l.out) l.block (g.O.Sink.faults l.out)) (output_lines (take l.output-index l.outputs))
