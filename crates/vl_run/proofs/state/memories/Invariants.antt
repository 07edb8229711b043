use Rattle.std.proofs.Common.{◌≡◌, map, take}
use Rattle.vl_rules.specs.Lines.{lines_of}
use Rattle.vl_run.specs.Start.{empty_memory}
use Rattle.vl_run.proofs.state.memories.Given as goal

abbrev pub invariant-loop-number : goal.invariant-loop-number
invariant-loop-number l = l.rows.items ≡ map empty_memory (take l.number (lines_of l.subject))
