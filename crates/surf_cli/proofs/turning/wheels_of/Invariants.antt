use Rattle.std.proofs.Common.{◌≡◌, ◌<◌, ℕ, length}
use Rattle.std.specs.Prelude.{slice_index_or}
use Rattle.wave_sched.specs.declared.wheels.Wheel.{Wheel}
use Rattle.wave_sched.specs.Wheels.{Stands}
use Rattle.surf_cli.proofs.turning.wheels_of.Given as goal

abbrev pub invariant-loop-tile : goal.invariant-loop-tile
invariant-loop-tile l =
    (length l.wheels.items ≡ l.tile) × ((n : ℕ) (w : Wheel) → n < length l.wheels.items → Stands (slice_index_or l.wheels.items n w) l.plan n 0)
