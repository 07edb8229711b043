use Rattle.std.proofs.Common.{◌≡◌, [], replicate}
use Rattle.aig_design.proofs.start.empty_words.Given as goal

abbrev pub invariant-loop : goal.invariant-loop
invariant-loop l = l.words.items ≡ replicate l.counter []
