-- The simulated network: what contracts see of it, and the states of its domains.
use Rattle.std.specs.Prelude.{◌≡◌, ℕ, ◌<◌, ◌*◌, ◌≤◌, List, length, false, Option, None, Some, slice_get, pos}
use Rattle.noc_model.specs.declared.LinkFlit.{LinkFlit}
use Rattle.noc_model.specs.Limits.{most_cycles}
use Rattle.noc_model.specs.Plan.{Plan, tiles, ports, hosts}
use Rattle.noc_model.specs.Place.{neighbour}
use Rattle.noc_model.specs.Tile.{start_tile}
use Rattle.noc_model.specs.Run.{State, start}
use Rattle.noc_model.specs.Laws.{channel_sum}
use Rattle.noc_model.specs.Reached.{IsReached}
use Rattle.noc_model.specs.Shared.{own_places}
use Rattle.credit_links.specs.Rows.{place_at}
use Rattle.wave_sched.specs.Wheels.{Stands}
use Rattle.router_core.specs.Attachments.{nothing_told, told_at}
use Rattle.vc_alloc.specs.Allocator.{best_at}
use Rattle.router_core.specs.Pulses.{ArePulses}
use Rattle.router_core.specs.Parts.{Parts}
use Rattle.router_core.specs.declared.router.RouterOut.{RouterOut}
use Rattle.router_core.specs.Sizes.{HasPorts, IsMade}
use Rattle.router_core.specs.Shown as routers
use Rattle.cycle_sim.specs.Links.{row_of, pulses_of}

-- what a network keeps: its plan, its cycle, the router of each tile, and the registers of each link
pub record Kept : Type 0 where
  pub plan : Plan
  pub cycle : ℕ
  pub routers : List Parts
  pub rows : List (List (Option LinkFlit))

-- a network that keeps these
abbrev pub kept : Plan → ℕ → List Parts → List (List (Option LinkFlit)) → Kept
kept p t routers rows = record { plan = p; cycle = t; routers = routers; rows = rows }

-- the network is in this state of domain d: each router shows its tile, and of a link's registers the state has those that
-- were filled in cycles of the domain
pub record Shows (net : Kept) (d : ℕ) (s : State) : Type 0 where
  pub each : (n : ℕ) (r : Parts) → slice_get net.routers n ≡ Some r → routers.Shows r net.plan d (s n)
  pub rows : (n o m i : ℕ) → n < tiles net.plan → neighbour net.plan n o ≡ Some m → i < net.plan.stages
      → (s n).row o i ≡ own_places net.plan d n o (pos net.cycle) (place_at (row_of net.plan net.rows n o)) i

-- the network is in a state that a run of domain d comes to
pub record IsRun (net : Kept) (d : ℕ) : Type 0 where
  pub state : State
  pub shows : Shows net d state
  pub reached : IsReached net.plan d (pos net.cycle) state
  pub sum : (n o m w : ℕ) → n < tiles net.plan → neighbour net.plan n o ≡ Some m
      → channel_sum net.plan state n o m w ≡ net.plan.buffer

-- between two cycles no output knows of a head that waits for it, and flits left channels that there are
pub record IsQuiet (p : Plan) (r : Parts) : Type 0 where
  pub best : (o : ℕ) → best_at r.allocator o ≡ None
  pub pulses : ArePulses p r.pulses

-- the router of tile n in cycle t
pub record IsRouterOf (p : Plan) (n t : ℕ) (r : Parts) : Type 0 where
  pub tile : r.tile ≡ n
  pub made : IsMade r p
  pub quiet : IsQuiet p r
  pub wheel : Stands r.wheel p n t
  -- where the tile doesn't host a domain, the outside does nothing
  pub away : (d : ℕ) → hosts p n d ≡ false → told_at r.told d ≡ nothing_told

-- the router of tile n in cycle 0, which shows the start of each domain
pub record IsFresh (p : Plan) (n : ℕ) (r : Parts) : Type 0 where
  pub router : IsRouterOf p n 0 r
  pub shows : (d : ℕ) → d < length p.domains → routers.Shows r p d (start_tile p)

-- what holds of each network
pub record IsWhole (net : Kept) : Type 0 where
  pub few : net.cycle ≤ most_cycles
  pub routers : length net.routers ≡ tiles net.plan
  pub rows : length net.rows ≡ tiles net.plan * ports net.plan
  pub row : (k : ℕ) (row : List (Option LinkFlit)) → slice_get net.rows k ≡ Some row → length row ≡ net.plan.stages
  pub router : (n : ℕ) (r : Parts) → slice_get net.routers n ≡ Some r → IsRouterOf net.plan n net.cycle r
  pub runs : (d : ℕ) → d < length net.plan.domains → IsRun net d
  -- in cycle 0 each domain is in the start
  pub starts : net.cycle ≡ 0 → (d : ℕ) → d < length net.plan.domains → Shows net d (start net.plan)

-- what is kept while a cycle is made: a place for each tile's credit pulses and for what it sends
pub record HasScratch (p : Plan) (kept_pulses : List (List (List (Option ℕ)))) (sent : List RouterOut) : Type 0 where
  pub pulses : length kept_pulses ≡ tiles p
  pub pulse_ports : (n : ℕ) → n < tiles p → HasPorts p (pulses_of kept_pulses n)
  pub outs : length sent ≡ tiles p
  pub links : (n : ℕ) (out : RouterOut) → slice_get sent n ≡ Some out → length out.links.items ≡ ports p
