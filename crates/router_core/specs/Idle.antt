-- The inputs of a tile that are busy, and a router that has nothing to do.
use Rattle.std.specs.Prelude.{◌≡◌, ℕ, ◌<◌, Bool, true, false, List, [], ◌∷◌, length, None}
use Rattle.noc_model.specs.declared.Flit.{Flit}
use Rattle.noc_model.specs.declared.Stage.{Stage}
use Rattle.noc_model.specs.declared.Stage.TheVariants.{Idle, Routed, Active}
use Rattle.noc_model.specs.Plan.{Plan, ports}
use Rattle.noc_model.specs.Inputs.{input_count}
use Rattle.route_stage.specs.Routed.{stage_at}
use Rattle.router_core.specs.Attachments.{attachment_at}
use Rattle.router_core.specs.Buffers.{flits_at}
use Rattle.router_core.specs.Pulses.{pulse_at}
use Rattle.router_core.specs.Parts.{Parts}

-- whether an input with these flits and in this stage is busy: it has a flit, or its packet hasn't gone yet
abbrev pub is_busy : List Flit → Stage → Bool
is_busy (f ∷ fs) stage = true
is_busy [] Idle = false
is_busy [] (Routed o) = true
is_busy [] (Active o w) = true

-- whether the head of a packet waits at an input in this stage and with these flits: for a route, or for a channel of its
-- output
abbrev pub has_head : Stage → List Flit → Bool
has_head Idle [] = false
has_head Idle (f ∷ fs) = true
has_head (Routed o) fs = true
has_head (Active o w) fs = false

-- domain d has nothing to do: none of its inputs is busy, no flit left one in the last cycle, and nothing is at its
-- attachment
pub record IsIdleFor (p : Plan) (r : Parts) (d : ℕ) : Type 0 where
  pub inputs : (k : ℕ) → k < input_count p d → is_busy (flits_at r.buffers d k) (stage_at r.stages d k) ≡ false
  pub pulses : (port : ℕ) → port < ports p → pulse_at r.pulses d port ≡ None
  pub dropped : (attachment_at r.attachments d).dropped ≡ false
  pub ejected : (attachment_at r.attachments d).ejected ≡ None

-- so it is of each domain
abbrev pub IsIdle : Plan → Parts → Type 0
IsIdle p r = (d : ℕ) → d < length p.domains → IsIdleFor p r d
