use Rattle.std.proofs.Common.{◌≡◌, ◌≤◌, ◌*◌, take}
use Rattle.std.specs.Prelude.{sum_by}
use Rattle.noc_model.specs.Place.{coords_in}
use Rattle.leaf_glue.proofs.slots.wave.Given as goal

abbrev pub invariant-loop-i : goal.invariant-loop-i
invariant-loop-i l = record {
  so_far : l.sum ≡ sum_by (λ c. c) (take l.i (coords_in l.plan.dims l.tile));
  small : l.sum ≤ 15 * l.i;
}
