-- What an attachment shows in a cycle, which depends on its tile's state alone.
use Rattle.std.specs.Prelude.{ℕ, Bool, Option}
use Rattle.noc_model.specs.declared.Ejected.{Ejected}
use Rattle.noc_model.specs.Plan.{Plan}
use Rattle.noc_model.specs.Tile.{Tile}
use Rattle.noc_model.specs.Step.{is_open}
use Rattle.noc_model.specs.Run.{Input, state_after}
use Rattle.noc_model.specs.Events.{ejected_of}

-- what an attachment shows: whether it takes a word, whether one was dropped, and the flit that is given out
pub record AttachOut : Type 0 where
  pub ready : Bool
  pub dropped : Bool
  pub ejected : Option Ejected

-- what the attachment shows in this state of its tile
abbrev pub attach_out : Plan → Tile → AttachOut
attach_out p s = record { ready = is_open p s; dropped = s.dropped; ejected = ejected_of s.ejected }

-- what the domain's attachments show in a run, by cycle and by tile
abbrev pub outs : Plan → ℕ → (ℕ → Input) → ℕ → ℕ → AttachOut
outs p d xs t n = attach_out p (state_after p d xs t n)
