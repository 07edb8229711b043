use Rattle.std.proofs.Common.{◌≡◌, ℕ, ◌<◌, length, None}
use Rattle.router_core.specs.Crossing.{laid_at}
use Rattle.router_core.proofs.sends.empty_links.Given as goal

abbrev pub invariant-loop-k : goal.invariant-loop-k
invariant-loop-k l = ((o : ℕ) → o < l.k → laid_at l.links o ≡ None) × (length l.links ≡ length l.initial.links)
