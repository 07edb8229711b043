use Rattle.aig_cycle.specs.Wires.{AreWords}
use Rattle.aig_cycle.proofs.Added.{AreWordsAdded, AreKnown}
use Rattle.aig_cycle.proofs.taken.add_words.Given as goal

abbrev pub invariant-loop-place : goal.invariant-loop-place
invariant-loop-place l = AreKnown (λ n. AreWords n l.row) l.initial.all l.all × AreWordsAdded l.row l.high l.initial.all l.all l.place
