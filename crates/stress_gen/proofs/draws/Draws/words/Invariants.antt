use Rattle.std.proofs.Common.{◌≡◌, map}
use Rattle.std.specs.List.{range_with_len}
use Rattle.stress_gen.specs.Draws.{draw, after_draws}
use Rattle.stress_gen.proofs.draws.Draws.words.Given as goal

abbrev pub invariant-loop : goal.invariant-loop
invariant-loop l = record {
  words : l.words ≡ map (draw l.initial.self.number) (range_with_len 0 l.counter);
  number : l.self.number ≡ after_draws l.initial.self.number l.counter;
}
