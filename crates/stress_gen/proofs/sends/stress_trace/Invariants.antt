use Rattle.std.proofs.Common.{◌≡◌}
use Rattle.stress_gen.specs.Sends.{after_sends, sends_before, stress_trace}
use Rattle.stress_gen.proofs.sends.stress_trace.Given as goal

abbrev pub invariant-loop-cycle : goal.invariant-loop-cycle
invariant-loop-cycle l = record {
  trace : l.trace ≡ stress_trace l.plan l.number l.cycle;
  number : l.draws.number ≡ after_sends l.number (sends_before l.plan l.cycle);
}
