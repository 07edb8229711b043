-- The cycle of all domains of a router, one after the other.
use Rattle.std.specs.Prelude.{◌≡◌, ◌≢◌, ℕ, ◌<◌, ◌≤◌, List, length, Option, None, pos}
use Rattle.noc_model.specs.declared.LinkFlit.{LinkFlit}
use Rattle.noc_model.specs.Plan.{Plan, ports}
use Rattle.noc_model.specs.Place.{owner}
use Rattle.noc_model.specs.Tile.{Tile}
use Rattle.noc_model.specs.Step.{sent, tile_step}
use Rattle.vc_alloc.specs.Allocator.{best_at}
use Rattle.wave_sched.specs.Wheels.{Stands}
use Rattle.router_core.specs.Attachments.{told_at, outside}
use Rattle.router_core.specs.Crossing.{laid_at}
use Rattle.router_core.specs.Parts.{Parts}
use Rattle.router_core.specs.Pulses.{ArePulses}
use Rattle.router_core.specs.Sizes.{IsMade}
use Rattle.router_core.specs.Shown.{Shows}

-- the router r, but for what its cycle changes, which is that of q
abbrev pub cycled : Parts → Parts → Parts
cycled r q = record r {
  buffers = q.buffers;
  stages = q.stages;
  pulses = q.pulses;
  allocator = q.allocator;
  switch = q.switch;
  credits = q.credits;
  attachments = q.attachments;
}

-- the router r has become q where the domains below m have done their cycle: those show their tiles after it, and the
-- links have their flits, and all others wait
pub record AdvancesBelow (m : ℕ) (p : Plan) (r q : Parts) (links : List (Option LinkFlit)) : Type 0 where
  pub made : IsMade q p
  pub rest : q ≡ cycled r q
  pub quiet : (o : ℕ) → best_at q.allocator o ≡ None
  pub kept : ArePulses p r.pulses → ArePulses p q.pulses
  pub count : length links ≡ ports p
  pub steps : (d : ℕ) (s : Tile) (t : ℕ) → d < m → Shows r p d s → Stands r.wheel p r.tile t
      → Shows q p d (tile_step p d r.tile (pos t) s (outside (told_at r.told d)))
  pub waits : (d : ℕ) (s : Tile) → m ≤ d → Shows r p d s → Shows q p d s
  pub sends : (d o : ℕ) (s : Tile) (t : ℕ) → d < m → o ≢ 0 → o < ports p → owner p r.tile o (pos t) ≡ d
      → Shows r p d s → Stands r.wheel p r.tile t
      → laid_at links o ≡ sent p d r.tile (pos t) s (outside (told_at r.told d)) o
  pub empty : (o t : ℕ) → o ≢ 0 → o < ports p → m ≤ owner p r.tile o (pos t) → Stands r.wheel p r.tile t → laid_at links o ≡ None
