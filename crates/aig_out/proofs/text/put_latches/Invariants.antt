use Rattle.std.proofs.Common.{take}
use Rattle.surf_base.specs.Block.{Puts, stream}
use Rattle.aig_model.specs.Text.{latch_lines}
use Rattle.aig_out.proofs.text.put_latches.Given as goal

abbrev pub invariant-loop-i : goal.invariant-loop-i
invariant-loop-i g l =
    Puts (stream (g.O.Sink.written l.initial.out) l.initial.block (g.O.Sink.faults l.initial.out))
    (stream (g.O.Sink.written l.out) l.block (g.O.Sink.faults l.out)) (latch_lines l.first (take l.i l.latches))
