-- What a router shows after it was told what the outside does.
use Rattle.std.proofs.Common.{ℕ, set, length-set, ◌∙◌}
use Rattle.noc_model.specs.Plan.{Plan}
use Rattle.noc_model.specs.Tile.{Tile}
use Rattle.router_core.specs.declared.attachments.Told.{Told}
use Rattle.router_core.specs.Parts.{Parts}
use Rattle.router_core.specs.Sizes.{IsMade}
use Rattle.router_core.specs.Shown.{Shows}

-- the router where the outside does this at the attachment of domain d
abbrev pub told_parts : Parts → ℕ → Told → Parts
told_parts r d x = record r { told = set r.told d x }

pub told-shows : (r : Parts) (d : ℕ) (x : Told) (p : Plan) (e : ℕ) (s : Tile) → Shows r p e s → Shows (told_parts r d x) p e s
told-shows r d x p e s shown = record {
  queue = shown.queue;
  stage = shown.stage;
  pulse = shown.pulse;
  held = shown.held;
  credits = shown.credits;
  allocation = shown.allocation;
  switch = shown.switch;
  turn = shown.turn;
  packet = shown.packet;
  current = shown.current;
  dropped = shown.dropped;
  ejected = shown.ejected;
}

pub told-made : (r : Parts) (d : ℕ) (x : Told) (p : Plan) → IsMade r p → IsMade (told_parts r d x) p
told-made r d x p made = record {
  tile = made.tile;
  buffers = made.buffers;
  stages = made.stages;
  pulses = made.pulses;
  allocator = made.allocator;
  switch = made.switch;
  credits = made.credits;
  attachments = made.attachments;
  told = length-set r.told d x ∙ made.told;
  wheel = made.wheel;
}
