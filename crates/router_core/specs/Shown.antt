-- The tile of a domain that a router shows.
use Rattle.std.specs.Prelude.{◌≡◌, ◌≢◌, ℕ, ◌+◌, ◌<◌, ◌==◌, ◌&&◌, [], ◌∷◌, ◌++◌, if◌then◌else◌}
use Rattle.noc_model.specs.declared.LinkFlit.{LinkFlit}
use Rattle.noc_model.specs.Plan.{Plan, ports, link_channels}
use Rattle.noc_model.specs.Inputs.{place}
use Rattle.noc_model.specs.Tile.{Tile}
use Rattle.credit_links.specs.Counts.{count_at}
use Rattle.route_stage.specs.Routed.{stage_at}
use Rattle.vc_alloc.specs.Allocator.{held_at, pointer_at}
use Rattle.slot_switch.specs.Switch.{turn_at, switch_at}
use Rattle.router_core.specs.Buffers.{flits_at}
use Rattle.router_core.specs.Pulses.{pulse_at, is_pulse}
use Rattle.router_core.specs.Attachments.{attachment_at}
use Rattle.router_core.specs.Parts.{Parts}

-- the router keeps for domain d what the tile has, at each place that there is. The rows of its links are the
-- network's, and the local output has no credits
pub record Shows (r : Parts) (p : Plan) (d : ℕ) (s : Tile) : Type 0 where
  pub queue : (port c : ℕ) → port < ports p → c < link_channels p d → flits_at r.buffers d (place p d port c) ≡ s.queue port c
  pub stage : (port c : ℕ) → port < ports p → c < link_channels p d → stage_at r.stages d (place p d port c) ≡ s.stage port c
  pub pulse : (port c : ℕ) → port < ports p → c < link_channels p d → is_pulse (pulse_at r.pulses d port) c ≡ s.pulse port c
  pub held : (o w : ℕ) → o < ports p → w < link_channels p d → held_at r.allocator d o w ≡ s.held o w
  pub credits : (o w : ℕ) → o ≢ 0 → o < ports p → w < link_channels p d → count_at r.credits d (place p d o w) ≡ s.credits o w
  pub allocation : (o : ℕ) → o < ports p → pointer_at r.allocator d o ≡ s.allocation o
  pub switch : (o : ℕ) → o < ports p → switch_at r.switch d o ≡ s.switch o
  pub turn : (port : ℕ) → port < ports p → turn_at r.switch d port ≡ s.turn port
  pub packet : (attachment_at r.attachments d).packet ≡ s.packet
  pub current : (attachment_at r.attachments d).current ≡ s.current
  pub dropped : (attachment_at r.attachments d).dropped ≡ s.dropped
  pub ejected : (attachment_at r.attachments d).ejected ≡ s.ejected

-- the tile where a flit has arrived by the port
abbrev pub with_flit : Tile → ℕ → LinkFlit → Tile
with_flit s port x = record s {
  queue = λ q c. if (q == port) && (c == x.channel) then s.queue q c ++ x.flit ∷ [] else s.queue q c;
}

-- the tile where a credit has come back for channel w of output o
abbrev pub with_credit : Tile → ℕ → ℕ → Tile
with_credit s o w = record s {
  credits = λ q v. if (q == o) && (v == w) then s.credits q v + 1 else s.credits q v;
}
