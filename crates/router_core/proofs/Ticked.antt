-- What a router shows in the next cycle, when the owners of its links are others.
use Rattle.std.proofs.Common.{ℕ}
use Rattle.noc_model.specs.Plan.{Plan}
use Rattle.noc_model.specs.Tile.{Tile}
use Rattle.wave_sched.specs.declared.wheels.Wheel.{Wheel}
use Rattle.wave_sched.specs.Wheels.{Stands}
use Rattle.wave_sched.proofs.Standing.{wheel_ports-is}
use Rattle.router_core.specs.Parts.{Parts}
use Rattle.router_core.specs.Sizes.{IsMade}
use Rattle.router_core.specs.Shown.{Shows}

-- the router with another wheel
abbrev pub ticked_parts : Parts → Wheel → Parts
ticked_parts r w = record r { wheel = w }

pub ticked-shows : (r : Parts) (w : Wheel) (p : Plan) (d : ℕ) (s : Tile) → Shows r p d s → Shows (ticked_parts r w) p d s
ticked-shows r w p d s shown = record {
  queue = shown.queue;
  stage = shown.stage;
  pulse = shown.pulse;
  held = shown.held;
  credits = shown.credits;
  allocation = shown.allocation;
  switch = shown.switch;
  turn = shown.turn;
  packet = shown.packet;
  current = shown.current;
  dropped = shown.dropped;
  ejected = shown.ejected;
}

pub ticked-made : (r : Parts) (w : Wheel) (p : Plan) (n t : ℕ) → Stands w p n t → IsMade r p → IsMade (ticked_parts r w) p
ticked-made r w p n t stands made = record {
  tile = made.tile;
  buffers = made.buffers;
  stages = made.stages;
  pulses = made.pulses;
  allocator = made.allocator;
  switch = made.switch;
  credits = made.credits;
  attachments = made.attachments;
  told = made.told;
  wheel = wheel_ports-is w p n t stands;
}
