use Rattle.std.proofs.Common.{◌≡◌, ◌+◌, drop}
use Rattle.std.specs.Prelude.{option_map}
use Rattle.vl_tree.specs.Tokens as tokens
use Rattle.vl_read.proofs.scan.to_close.Given as goal

abbrev pub invariant-loop-i : goal.invariant-loop-i
invariant-loop-i l = option_map (λ n. n + l.i) (tokens.to_close (drop l.i l.bytes)) ≡ tokens.to_close l.bytes
