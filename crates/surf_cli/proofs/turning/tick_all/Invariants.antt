use Rattle.std.proofs.Common.{◌≡◌, ◌<◌, ◌≤◌, ◌+◌, ℕ, length}
use Rattle.std.specs.Prelude.{slice_index_or}
use Rattle.noc_model.specs.Plan.{Plan}
use Rattle.wave_sched.specs.declared.wheels.Wheel.{Wheel}
use Rattle.wave_sched.specs.Wheels.{Stands}
use Rattle.surf_cli.proofs.turning.tick_all.Given as goal

abbrev pub invariant-loop-i : goal.invariant-loop-i
invariant-loop-i l = record {
  count : length l.wheels ≡ length l.initial.wheels;
  gone : (n : ℕ) (w : Wheel) → n < l.i → (p : Plan) (m t : ℕ) → Stands (slice_index_or l.initial.wheels n w) p m t → Stands (slice_index_or l.wheels n w) p m (t + 1);
  still : (n : ℕ) (w : Wheel) → l.i ≤ n → slice_index_or l.wheels n w ≡ slice_index_or l.initial.wheels n w;
}
