use Rattle.std.proofs.Common.{◌≡◌, ◌≢◌, ◌<◌, ◌≤◌, ◌-◌, ◌*◌, ◌∷◌, ℕ, length, take, None}
use Rattle.std.specs.Prelude.{slice_index_or}
use Rattle.noc_model.specs.Plan.{tiles, ports}
use Rattle.cycle_sim.specs.Links.{row_of}
use Rattle.cycle_sim.proofs.shift.shift_from.Given as goal

abbrev pub invariant-loop-port : goal.invariant-loop-port
invariant-loop-port l = record {
  rows : length l.rows.items ≡ tiles l.plan * ports l.plan;
  shifted : (o : ℕ) → o < l.port → row_of l.plan l.rows.items l.tile o ≡ slice_index_or l.out.links.items o None
      ∷ take (length (row_of l.plan l.initial.rows.items l.tile o) - 1) (row_of l.plan l.initial.rows.items l.tile o);
  left : (o : ℕ) → l.port ≤ o → o < ports l.plan → row_of l.plan l.rows.items l.tile o ≡ row_of l.plan l.initial.rows.items l.tile o;
  others : (n o : ℕ) → n ≢ l.tile → o < ports l.plan → row_of l.plan l.rows.items n o ≡ row_of l.plan l.initial.rows.items n o;
}
