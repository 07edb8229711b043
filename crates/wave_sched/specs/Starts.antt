-- Where a tile's slots stand in cycle 0.
use Rattle.std.specs.Prelude.{ℕ, ◌<◌, Option, Some, None, pos, ◌-ℤ◌}
use Rattle.wave_sched.specs.declared.starts.PortSlots.{PortSlots}
use Rattle.noc_model.specs.Plan.{Plan}
use Rattle.noc_model.specs.Place.{neighbour, opposite, way_of, slot_of}

-- the slot that the link from a neighbour has as many cycles before cycle 0 as a flit is on it
abbrev pub arriving_from : Plan → ℕ → Option ℕ → ℕ
arriving_from p port None = 0
arriving_from p port (Some m) = slot_of p m (pos 0 -ℤ pos p.stages) (way_of (opposite port))

-- the slots of the link that leaves tile n by the port, and of the one that arrives there
abbrev pub port_slots : Plan → ℕ → ℕ → PortSlots
port_slots p n port = record {
  leaving = slot_of p n (pos 0) (way_of port);
  arriving = arriving_from p port (neighbour p n port);
}

-- both slots are below so many
abbrev pub AreBelow : ℕ → PortSlots → Type 0
AreBelow k s = (s.leaving < k) × (s.arriving < k)
