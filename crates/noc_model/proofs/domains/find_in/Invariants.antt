use Rattle.std.proofs.Common.{◌≢◌, ◌<◌, ℕ}
use Rattle.noc_model.specs.Plan.{name_at}
use Rattle.noc_model.proofs.domains.find_in.Given as goal

abbrev pub invariant-loop-d : goal.invariant-loop-d
invariant-loop-d l = (k : ℕ) → k < l.d → name_at l.domains k ≢ l.name
