-- A machine in a cycle, as its ports show it.
use Rattle.std.specs.Prelude.{◌≡◌, ℕ, ◌∷◌, [], List, Option, Some, None, is_some, if◌then◌else◌, ◌&&◌, codes}
use Rattle.vl_tree.specs.Values.{Name}
use Rattle.vl_model.specs.Meaning.{Values}
use Rattle.vl_model.specs.Whole.{Nets}
use Rattle.vl_model.specs.Settle.{settled, with_inputs}
use Rattle.noc_model.specs.declared.Host.{Host}
use Rattle.noc_model.specs.Plan.{Plan}
use Rattle.noc_model.specs.Driver.{Driver, after_taken, after_got}
use Rattle.tile_drive.specs.declared.cycle_seen.SeenAt.{SeenAt}
use Rattle.gen_kit.specs.Ports.{top_ports}
use Rattle.gen_kit.specs.Replayed.{is_on, ejected_at}
use Rattle.vl_run.specs.Stands.{Running, Stands}

-- the machine has the plan's ports, and these are its nets for some inputs
pub record IsIn (m : Running) (p : Plan) (nets : Nets) : Type 0 where
  pub inside : Name → Values
  pub inputs : Name → ℕ
  pub stands : Stands m inside
  pub ports : m.design.top.ports ≡ top_ports p
  pub settles : nets ≡ settled m.design (with_inputs m.design inputs inside)

-- what is seen at attachment j, which is h
abbrev pub seen_text : Driver → ℕ → ℕ → List ℕ → Nets → Host → SeenAt
seen_text v t j state nets h = record {
  offered = v.offer j state t;
  ready = is_on nets (codes "rd") h;
  dropped = is_on nets (codes "dr") h;
  got = if v.hears j state t then ejected_at nets h else None;
}

-- the state of attachment j, which is h, after the cycle
abbrev pub notified : Driver → ℕ → ℕ → List ℕ → Nets → Host → List ℕ
notified v t j state nets h =
    after_got v j (after_taken v j state t (is_on nets (codes "rd") h && is_some (v.offer j state t))) t
    (v.hears j state t) (ejected_at nets h)
