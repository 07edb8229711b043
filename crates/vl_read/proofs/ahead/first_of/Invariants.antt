use Rattle.std.proofs.Common.{◌≡◌, length}
use Rattle.vl_tree.specs.Tokens.{tokens_of}
use Rattle.vl_read.proofs.ahead.first_of.Given as goal

abbrev pub invariant-loop-p : goal.invariant-loop-p
invariant-loop-p l = tokens_of l.rest ≡ tokens_of l.bytes

abbrev pub decreases-loop-p : goal.decreases-loop-p
decreases-loop-p l = length l.rest
