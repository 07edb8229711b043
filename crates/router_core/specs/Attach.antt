-- What becomes of an attachment in a cycle: a word that is taken enters the buffer of the local input, and a flit is
-- ejected.
use Rattle.std.specs.Prelude.{◌≡◌, ℕ, Bool, false, List, [], ◌∷◌, ◌++◌, ◌==◌, Option, None, Some, option_to_list, slice_set, if◌then◌else◌}
use Rattle.noc_model.specs.declared.Flit.{Flit}
use Rattle.noc_model.specs.declared.Offer.{Offer}
use Rattle.noc_model.specs.Plan.{Plan, at_local}
use Rattle.noc_model.specs.Inputs.{place}
use Rattle.noc_model.specs.Tile.{Tile}
use Rattle.noc_model.specs.Step.{entry, next_packet, is_dropped, next_current, next_ejected, with_channel}
use Rattle.flit_pool.specs.Lists.{Lists}
use Rattle.router_core.specs.declared.attachments.Attachment.{Attachment}
use Rattle.router_core.specs.Attachments.{attachment_at}
use Rattle.router_core.specs.Buffers.{flits_at, with_flits}
use Rattle.router_core.specs.Parts.{Parts}

-- the attachment of domain d after the word was taken, if there is one, and the flit was ejected, if there is one
abbrev pub attachment_after : Plan → ℕ → Attachment → Option Offer → Option Flit → Bool → Attachment
attachment_after p d a word eject hears = record {
  packet = next_packet p d a.packet word;
  current = next_current p d a.current (entry p d a.packet word);
  dropped = is_dropped p d a.packet word;
  ejected = next_ejected (with_channel 0 eject) hears a.ejected;
}

-- nothing becomes of the attachment: no word was taken, no flit ejected, no drop pulse ends, and no flit is heard
pub record IsStill (a : Attachment) (word : Option Offer) (eject : Option Flit) (hears : Bool) : Type 0 where
  pub no_word : word ≡ None
  pub no_flit : eject ≡ None
  pub no_drop : a.dropped ≡ false
  pub unheard : next_ejected None hears a.ejected ≡ a.ejected

-- the buffers where this flit entered, if there is one
abbrev pub entered : List Lists → ℕ → ℕ → Option Flit → List Lists
entered xs d k None = xs
entered xs d k (Some f) = with_flits xs d k (flits_at xs d k ++ f ∷ [])

-- the router after its attachment of domain d took the word and ejected the flit
abbrev pub attached_parts : Parts → Plan → ℕ → Option Offer → Option Flit → Bool → Parts
attached_parts r p d word eject hears = record r {
  buffers = entered r.buffers d (place p d 0 (attachment_at r.attachments d).current)
      (entry p d (attachment_at r.attachments d).packet word);
  attachments = slice_set r.attachments d
      (attachment_after p d (attachment_at r.attachments d) word eject hears);
}

-- the tile after it
abbrev pub attached : Plan → ℕ → Tile → Option Offer → Option Flit → Bool → Tile
attached p d s word eject hears = record s {
  queue = λ port c. s.queue port c
      ++ at_local port (if s.current == c then option_to_list (entry p d s.packet word) else []) [];
  packet = next_packet p d s.packet word;
  current = next_current p d s.current (entry p d s.packet word);
  dropped = is_dropped p d s.packet word;
  ejected = next_ejected (with_channel 0 eject) hears s.ejected;
}
