-- The wheels of all tiles.
use Rattle.std.specs.Prelude.{◌≡◌, ℕ, ◌<◌, List, length, slice_index_or}
use Rattle.noc_model.specs.Plan.{Plan, tiles}
use Rattle.wave_sched.specs.declared.wheels.Wheel.{Wheel}
use Rattle.wave_sched.specs.Wheels.{Stands}

-- wheel n is that of tile n in cycle t, for each tile
pub record AllStand (ws : List Wheel) (p : Plan) (t : ℕ) : Type 0 where
  pub count : length ws ≡ tiles p
  pub each : (n : ℕ) (w : Wheel) → n < length ws → Stands (slice_index_or ws n w) p n t
