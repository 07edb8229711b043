-- Bytes that are gathered on their way to a sink.
use Rattle.std.specs.Prelude.{◌≡◌, ℕ, ◌≤◌, List, ◌++◌, Option, Result, Ok, Err}
use Rattle.surf_base.specs.Outside.{Rose, appended}

-- what a sink has, where that is observed, what a block has gathered for it, and the sink's count of faults
pub record Stream : Type 0 where
  pub written : Option (List ℕ)
  pub gathered : List ℕ
  pub faults : ℕ

-- the stream of these parts
abbrev pub stream : Option (List ℕ) → List ℕ → ℕ → Stream
stream written gathered faults = record { written = written; gathered = gathered; faults = faults }

-- After more bytes a front of all that was gathered and of these is written, and the rest is gathered.
pub record Puts (old new : Stream) (bytes : List ℕ) : Type 0 where
  pub front : List ℕ
  pub sent : new.written ≡ appended old.written front
  pub kept : old.gathered ++ bytes ≡ front ++ new.gathered
  pub faults : old.faults ≤ new.faults

-- The sink failed, and a front of all that was gathered and of the bytes is written.
pub record BreaksOff (old new : Stream) (bytes : List ℕ) : Type 0 where
  pub front : List ℕ
  pub rest : List ℕ
  pub sent : new.written ≡ appended old.written front
  pub kept : old.gathered ++ bytes ≡ front ++ rest
  pub faults : old.faults ≤ new.faults
  pub rose : Rose old.faults new.faults

-- what an answer says of the bytes that were to be put
abbrev pub Writes : {T E : Type 0} → Result T E → Stream → Stream → List ℕ → Type 0
Writes (Ok x) old new bytes = Puts old new bytes
Writes (Err e) old new bytes = BreaksOff old new bytes
