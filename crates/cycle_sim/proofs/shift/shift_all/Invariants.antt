use Rattle.std.proofs.Common.{◌≡◌, ◌<◌, ◌≤◌, ◌-◌, ◌*◌, ◌∷◌, ℕ, true, false, length, take, Some, None}
use Rattle.std.specs.Prelude.{slice_get, slice_index_or}
use Rattle.noc_model.specs.Plan.{tiles, ports}
use Rattle.router_core.specs.declared.router.RouterOut.{RouterOut}
use Rattle.cycle_sim.specs.Asleep.{is_awake}
use Rattle.cycle_sim.specs.Links.{row_of}
use Rattle.cycle_sim.proofs.shift.shift_all.Given as goal

abbrev pub invariant-loop-tile : goal.invariant-loop-tile
invariant-loop-tile l = record {
  rows : length l.rows.items ≡ tiles l.plan * ports l.plan;
  shifted : (n o : ℕ) (out : RouterOut) → n < l.tile → slice_get l.outs n ≡ Some out → is_awake l.awake n ≡ true → o < ports l.plan
      → row_of l.plan l.rows.items n o ≡ slice_index_or out.links.items o None
      ∷ take (length (row_of l.plan l.initial.rows.items n o) - 1) (row_of l.plan l.initial.rows.items n o);
  asleep : (n o : ℕ) → is_awake l.awake n ≡ false → o < ports l.plan → row_of l.plan l.rows.items n o ≡ row_of l.plan l.initial.rows.items n o;
  left : (n o : ℕ) → l.tile ≤ n → o < ports l.plan → row_of l.plan l.rows.items n o ≡ row_of l.plan l.initial.rows.items n o;
}
