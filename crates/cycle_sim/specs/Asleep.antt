-- The tiles that have nothing to do: a cycle leaves them out.
use Rattle.std.specs.Prelude.{◌≡◌, ℕ, ◌+◌, ◌<◌, Bool, false, List, length, Option, Some, None, slice_get, slice_index_or}
use Rattle.noc_model.specs.declared.LinkFlit.{LinkFlit}
use Rattle.noc_model.specs.Plan.{Plan, tiles, ports}
use Rattle.credit_links.specs.Rows.{place_at, last_place}
use Rattle.router_core.specs.Idle.{IsIdle}
use Rattle.router_core.specs.Parts.{Parts}
use Rattle.router_core.specs.Pulses.{pulse_at}
use Rattle.cycle_sim.specs.Links.{row_of, pulses_of}
use Rattle.cycle_sim.specs.Net.{IsRouterOf}

-- whether tile n is awake
abbrev pub is_awake : List Bool → ℕ → Bool
is_awake awake n = slice_index_or awake n false

-- nothing goes out of tile m by port o at the beginning of a cycle: no flit comes off its link, and no credit goes back
pub record SendsNothing (p : Plan) (rows : List (List (Option LinkFlit))) (pulses : List (List (List (Option ℕ)))) (m o : ℕ) : Type 0 where
  pub flit : last_place (row_of p rows m o) ≡ None
  pub credit : (d : ℕ) → d < length p.domains → pulse_at (pulses_of pulses m) d o ≡ None

-- tile n, which has this router, has nothing to do: nor has its router, and its links have no flits and no credits
pub record IsAsleep (p : Plan) (n : ℕ) (r : Parts) (rows : List (List (Option LinkFlit))) (pulses : List (List (List (Option ℕ)))) : Type 0 where
  pub idle : IsIdle p r
  pub empty : (o i : ℕ) → o < ports p → place_at (row_of p rows n o) i ≡ None
  pub silent : (d port : ℕ) → d < length p.domains → port < ports p → pulse_at (pulses_of pulses n) d port ≡ None

-- so it is of each tile that isn't awake
pub record AreAsleep (p : Plan) (routers : List Parts) (rows : List (List (Option LinkFlit))) (pulses : List (List (List (Option ℕ))))
    (awake : List Bool) : Type 0 where
  pub count : length awake ≡ tiles p
  pub each : (n : ℕ) (r : Parts) → slice_get routers n ≡ Some r → is_awake awake n ≡ false → IsAsleep p n r rows pulses

-- the router of a tile that slept in cycle t: all but the owners of its links stays
pub record HasSlept (p : Plan) (n t : ℕ) (r new : Parts) : Type 0 where
  pub rest : new ≡ (record r { wheel = new.wheel })
  pub router : IsRouterOf p n (t + 1) new
