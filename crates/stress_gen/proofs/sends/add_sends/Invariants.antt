use Rattle.std.proofs.Common.{◌≡◌, ◌++◌, map}
use Rattle.std.specs.List.{range_with_len}
use Rattle.stress_gen.specs.Sends.{send, after_sends}
use Rattle.stress_gen.proofs.sends.add_sends.Given as goal

abbrev pub invariant-loop-attach : goal.invariant-loop-attach
invariant-loop-attach l = record {
  trace : l.trace ≡ l.initial.trace ++ map (λ j. send l.plan l.cycle j (after_sends l.initial.draws.number j)) (range_with_len 0 l.attach);
  number : l.draws.number ≡ after_sends l.initial.draws.number l.attach;
}
