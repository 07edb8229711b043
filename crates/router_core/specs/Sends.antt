-- The flits that go through the switch: what changes with one of them.
use Rattle.std.specs.Prelude.{ℕ, ◌+◌, ◌-◌, ◌==◌, ◌&&◌, Bool, not, List, drop, slice_set, Option, Some, None, if◌then◌else◌}
use Rattle.noc_model.specs.declared.Grant.{Grant}
use Rattle.noc_model.specs.declared.Stage.{Stage}
use Rattle.noc_model.specs.declared.Stage.TheVariants.{Idle}
use Rattle.noc_model.specs.Plan.{Plan, at_local}
use Rattle.noc_model.specs.Inputs.{place}
use Rattle.noc_model.specs.Tile.{Tile}
use Rattle.noc_model.specs.Step.{front, is_tail}
use Rattle.vc_partition.specs.Lanes.{lane}
use Rattle.route_stage.specs.Routed.{with_stage}
use Rattle.credit_links.specs.Counts.{Counts, count_at, with_count}
use Rattle.vc_alloc.specs.Allocator.{Allocator, with_holder}
use Rattle.router_core.specs.Buffers.{flits_at, with_flits}
use Rattle.router_core.specs.Heads.{front_of}
use Rattle.router_core.specs.Parts.{Parts}

-- the pulses where a flit left a channel of the input port: the local input has none
abbrev pub pulsed : List (List (Option ℕ)) → ℕ → ℕ → ℕ → List (List (Option ℕ))
pulsed v d port c = at_local port v (slice_set v d (slice_set (lane v d) port (Some c)))

-- the credits where a flit went out in channel w: the local output has none
abbrev pub spent : Counts → Plan → ℕ → ℕ → ℕ → Counts
spent x p d o w = at_local o x (with_count x d (place p d o w) (count_at x d (place p d o w) - 1))

-- the stages where the input at place k is idle again, if its packet has gone
abbrev pub finished : List (List Stage) → ℕ → ℕ → Bool → List (List Stage)
finished v d k gone = if gone then with_stage v d k Idle else v

-- and the output channel that it held is free then
abbrev pub freed : Allocator → ℕ → ℕ → ℕ → Bool → Allocator
freed x d o w gone = if gone then with_holder x d o w None else x

-- whether the first flit of a channel is a tail
abbrev pub ends : Parts → Plan → ℕ → ℕ → Grant → Bool
ends r p d port g = is_tail (front_of r.buffers d (place p d port g.channel))

-- the router after the first flit of the channel went through the switch
abbrev pub passed_parts : Parts → Plan → ℕ → ℕ → Grant → Parts
passed_parts r p d port g = record r {
  buffers = with_flits r.buffers d (place p d port g.channel) (drop 1 (flits_at r.buffers d (place p d port g.channel)));
  stages = finished r.stages d (place p d port g.channel) (ends r p d port g);
  pulses = pulsed r.pulses d port g.channel;
  allocator = freed r.allocator d g.out g.to (ends r p d port g);
  credits = spent r.credits p d g.out g.to;
}

-- whether a channel is this one
abbrev pub is_at : ℕ → ℕ → ℕ → ℕ → Bool
is_at q c port ch = (q == port) && (c == ch)

-- the tile after it
abbrev pub passed : Tile → ℕ → Grant → Tile
passed v port g = record v {
  queue = λ q c. if is_at q c port g.channel then drop 1 (v.queue q c) else v.queue q c;
  stage = λ q c. if is_at q c port g.channel && is_tail (front (v.queue port g.channel)) then Idle else v.stage q c;
  pulse = λ q c. if q == port then at_local q (v.pulse q c) (g.channel == c) else v.pulse q c;
  held = λ o w. v.held o w && not (is_tail (front (v.queue port g.channel)) && is_at o w g.out g.to);
  credits = λ o w. if is_at o w g.out g.to then v.credits o w - 1 else v.credits o w;
}

-- the tile whose pointers moved for a grant of output o to the input port
abbrev pub turned : Tile → ℕ → ℕ → Grant → Tile
turned v o port g = record v {
  switch = λ q. if q == o then port + 1 else v.switch q;
  turn = λ q. if q == port then g.channel + 1 else v.turn q;
}
