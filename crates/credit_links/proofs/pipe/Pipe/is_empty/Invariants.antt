use Rattle.std.proofs.Common.{◌≡◌, ◌<◌, ℕ, None}
use Rattle.credit_links.specs.Rows.{place_at}
use Rattle.credit_links.proofs.pipe.Pipe.is_empty.Given as goal

abbrev pub invariant-loop-i : goal.invariant-loop-i
invariant-loop-i l = (k : ℕ) → k < l.i → place_at l.self k ≡ None
