-- The attachments in a cycle.
use Rattle.std.specs.Prelude.{ℕ, List, None, slice_set, is_some, ◌&&◌, if◌then◌else◌}
use Rattle.noc_model.specs.Plan.{Plan}
use Rattle.noc_model.specs.Tile.{Tile}
use Rattle.noc_model.specs.Step.{is_open}
use Rattle.noc_model.specs.Driver.{Driver, after_taken, after_got}
use Rattle.noc_model.specs.Events.{ejected_of}
use Rattle.tile_drive.specs.declared.cycle_seen.SeenAt.{SeenAt}
use Rattle.router_core.specs.declared.attachments.Told.{Told}
use Rattle.router_core.specs.Parts.{Parts}

-- the router where the outside does this
abbrev pub with_told : Parts → List Told → Parts
with_told r told = record r { told = told }

-- what the outside does, where it does this at the attachment of domain d
abbrev pub told_of : Parts → ℕ → Told → List Told
told_of r d x = slice_set r.told d x

-- what a driver does at attachment j in a cycle, in this state of the attachment
abbrev pub told_by : Driver → ℕ → ℕ → List ℕ → Told
told_by v t j state = record { offer = v.offer j state t; hears = v.hears j state t }

-- what is seen in a cycle at attachment j, whose tile is in the state s and whose driver is in this state
abbrev pub seen_of : Plan → Driver → ℕ → ℕ → Tile → List ℕ → SeenAt
seen_of p v t j s state = record {
  offered = v.offer j state t;
  ready = is_open p s;
  dropped = s.dropped;
  got = if v.hears j state t then ejected_of s.ejected else None;
}

-- the state of attachment j after the cycle
abbrev pub state_after : Plan → Driver → ℕ → ℕ → Tile → List ℕ → List ℕ
state_after p v t j s state =
    after_got v j (after_taken v j state t (is_open p s && is_some (v.offer j state t))) t (v.hears j state t)
    (ejected_of s.ejected)
