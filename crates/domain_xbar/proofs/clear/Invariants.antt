use Rattle.std.proofs.Common.{◌≡◌, ℕ, ◌<◌, length}
use Rattle.std.specs.Prelude.{Some, None, slice_get}
use Rattle.domain_xbar.proofs.clear.Given as goal

abbrev pub invariant-loop-k : goal.invariant-loop-k
invariant-loop-k g l =
    ((k : ℕ) → k < l.k → slice_get l.entries k ≡ Some None) × (length l.entries ≡ length l.initial.entries)
