use Rattle.std.proofs.Common.{take, []}
use Rattle.vl_model.specs.Rules.{all_depending}
use Rattle.vl_rules.specs.Lines.{lines_of}
use Rattle.vl_rules.specs.Tallies.{IsSet}
use Rattle.vl_rules.proofs.tallies.dependents.Given as goal

abbrev pub invariant-loop-number : goal.invariant-loop-number
invariant-loop-number l = IsSet l.set (all_depending [] (take l.number (lines_of l.subject)))
