-- The attachments of a tile.
use Rattle.std.specs.Prelude.{ℕ, false, List, None, slice_index_or}
use Rattle.noc_model.specs.declared.Packet.TheVariants.{Between}
use Rattle.noc_model.specs.Tile.{TileIn}
use Rattle.router_core.specs.declared.attachments.Attachment.{Attachment}
use Rattle.router_core.specs.declared.attachments.Told.{Told}

-- an attachment at the start
abbrev pub start_attachment : Attachment
start_attachment = record { packet = Between; current = 0; dropped = false; ejected = None }

-- the attachment of domain d
abbrev pub attachment_at : List Attachment → ℕ → Attachment
attachment_at xs d = slice_index_or xs d start_attachment

-- the outside does nothing
abbrev pub nothing_told : Told
nothing_told = record { offer = None; hears = false }

-- what the outside does at the attachment of domain d
abbrev pub told_at : List Told → ℕ → Told
told_at xs d = slice_index_or xs d nothing_told

-- what comes in where the outside does this, and nothing comes from the neighbours
abbrev pub outside : Told → TileIn
outside x = record {
  arrives = λ port. None;
  returns = λ o w. false;
  offer = x.offer;
  hears = x.hears;
}
