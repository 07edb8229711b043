use Rattle.std.proofs.Common.{take}
use Rattle.vl_tree.specs.Read.{read_leaves}
use Rattle.vl_rules.specs.Lines.{lines_of}
use Rattle.vl_rules.specs.Tallies.{Counts}
use Rattle.vl_rules.proofs.tallies.driver_counts.Given as goal

abbrev pub invariant-loop-number : goal.invariant-loop-number
invariant-loop-number l =
    Counts l.table (take l.leaves (read_leaves l.library.leaves.now)) (take l.number (lines_of l.subject))
