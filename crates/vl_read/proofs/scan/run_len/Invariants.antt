use Rattle.std.proofs.Common.{◌≡◌, ◌+◌, drop}
use Rattle.std.specs.List.{prefix_len}
use Rattle.vl_tree.specs.Tokens as tokens
use Rattle.vl_read.proofs.scan.run_len.Given as goal

abbrev pub invariant-loop-i : goal.invariant-loop-i
invariant-loop-i l = l.i + prefix_len tokens.is_run (drop l.i l.bytes) ≡ prefix_len tokens.is_run l.bytes
