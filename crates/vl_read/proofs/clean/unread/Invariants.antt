use Rattle.std.proofs.Common.{◌≡◌, ◌≤◌, length}
use Rattle.vl_tree.specs.Tokens as tokens
use Rattle.vl_read.proofs.clean.unread.Given as goal

abbrev pub invariant-loop-p : goal.invariant-loop-p
invariant-loop-p l = (tokens.unread l.rest ≡ tokens.unread l.bytes) × (length l.rest ≤ length l.bytes)

abbrev pub decreases-loop-p : goal.decreases-loop-p
decreases-loop-p l = length l.rest
