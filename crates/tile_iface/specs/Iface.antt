-- What an attachment keeps, and its part of the step of a tile.
use Rattle.std.specs.Prelude.{◌≡◌, ℕ, Bool, false, List, Option, None, if◌then◌else◌, slice_index_or}
use Rattle.noc_model.specs.declared.Flit.{Flit}
use Rattle.noc_model.specs.declared.Offer.{Offer}
use Rattle.noc_model.specs.declared.Packet.{Packet}
use Rattle.noc_model.specs.declared.Packet.TheVariants.{Between}
use Rattle.noc_model.specs.Plan.{Plan, channels}
use Rattle.noc_model.specs.Step.{is_ready_packet, entry, next_packet, is_dropped, next_current, next_ejected, with_channel}

-- the attachment of a domain with so many channels of the local input: the packet that its words are of, the channel
-- that the next word goes to, the drop pulse and the ejection place
pub record Attached : Type 0 where
  pub domain : ℕ
  pub channels : ℕ
  pub packet : Packet
  pub current : ℕ
  pub dropped : Bool
  pub ejected : Option Flit

-- the start: nothing is on its way
abbrev pub start_attached : Plan → ℕ → Attached
start_attached p d = record {
  domain = d;
  channels = channels p d;
  packet = Between;
  current = 0;
  dropped = false;
  ejected = None;
}

-- the attachment is of a domain of this plan
abbrev pub IsOf : Plan → Attached → Type 0
IsOf p a = a.channels ≡ channels p a.domain

-- a word that is offered is taken, where the buffers of the local input have so many flits
abbrev pub is_ready : Plan → List ℕ → Attached → Bool
is_ready p lengths a = is_ready_packet a.packet (slice_index_or lengths a.current 0) p.buffer

-- the word that is taken
abbrev pub taken : Bool → Option Offer → Option Offer
taken ready offer = if ready then offer else None

-- the flit that enters
abbrev pub entering : Plan → Bool → Option Offer → Attached → Option Flit
entering p ready offer a = entry p a.domain a.packet (taken ready offer)

-- the attachment after a word was taken, or none was: its ejection place is as before
abbrev pub after_word : Plan → Bool → Option Offer → Attached → Attached
after_word p ready offer a = record a {
  packet = next_packet p a.domain a.packet (taken ready offer);
  current = next_current p a.domain a.current (entering p ready offer a);
  dropped = is_dropped p a.domain a.packet (taken ready offer);
}

-- the attachment after a flit was ejected, or none was
abbrev pub after_flit : Bool → Option Flit → Attached → Attached
after_flit heard flit a = record a { ejected = next_ejected (with_channel 0 flit) heard a.ejected }
