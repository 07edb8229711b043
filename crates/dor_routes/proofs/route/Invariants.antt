use Rattle.std.proofs.Common.{◌≡◌, ◌<◌, ℕ}
use Rattle.std.specs.Prelude.{slice_index}
use Rattle.noc_model.specs.Place.{coords_in}
use Rattle.dor_routes.proofs.route.Given as goal

-- no dimension before this one differs
abbrev pub invariant-loop-i : goal.invariant-loop-i
invariant-loop-i l =
    (j : ℕ) → j < l.i → slice_index (coords_in l.plan.dims l.at) j ≡ slice_index (coords_in l.plan.dims l.dest) j
