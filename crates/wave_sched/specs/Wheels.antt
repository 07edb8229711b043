-- What a wheel stands for.
use Rattle.std.specs.Prelude.{◌≡◌, ℕ, ◌%◌, ◌<◌, length, map, All}
use Rattle.std.specs.List.{range_with_len}
use Rattle.wave_sched.specs.declared.wheels.Wheel.{Wheel}
use Rattle.noc_model.specs.Plan.{Plan, ports}
use Rattle.wave_sched.specs.Starts.{port_slots}

-- the number of a wheel's ports: those of its tile, with a link or without
abbrev pub wheel_ports : Wheel → ℕ
wheel_ports w = length w.starts.items

-- The wheel is that of tile n in cycle t.
pub record Stands (w : Wheel) (p : Plan) (n t : ℕ) : Type 0 where
  pub owners : w.slots.items ≡ p.slots
  pub domains : All (λ d. d < length p.domains) p.slots
  pub links : w.starts.items ≡ map (port_slots p n) (range_with_len 0 (ports p))
  pub cycle : w.phase ≡ t % length p.slots
