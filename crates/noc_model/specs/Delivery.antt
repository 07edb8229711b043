-- Where the flits of a state stand in their packets.
use Rattle.std.specs.Prelude.{ℕ, ◌==◌, if◌then◌else◌, Option, Some, None}
use Rattle.noc_model.specs.declared.Packet.{Packet}
use Rattle.noc_model.specs.declared.Packet.TheVariants.{Between, Passing, Dropping}
use Rattle.noc_model.specs.Tile.{Tile}

-- the tile that the packet of the attachment goes to
abbrev pub given_to : Packet → Option ℕ
given_to Between = None
given_to (Passing dest) = Some dest
given_to Dropping = None

-- where the local channel c stands: within the packet that is given in, if it is the current one
abbrev pub given : Tile → ℕ → Option ℕ
given s c = if s.current == c then given_to s.packet else None
