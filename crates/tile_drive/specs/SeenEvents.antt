-- What is seen in a cycle, as events.
use Rattle.std.specs.Prelude.{◌<◌, ℕ, suc, true, List, [], ◌∷◌, ◌++◌}
use Rattle.noc_model.specs.declared.Event.{Event}
use Rattle.noc_model.specs.declared.Kind.{Kind}
use Rattle.noc_model.specs.declared.Host.{Host}
use Rattle.noc_model.specs.Events.{offer_events, drop_events, got_events}
use Rattle.tile_drive.specs.declared.cycle_seen.SeenAt.{SeenAt}
use Rattle.tile_drive.specs.Seen.{seen_at}
use Rattle.tile_drive.specs.Order.{By}

-- an event of the attachment in the cycle
abbrev pub event_at : ℕ → Host → Kind → Event
event_at t h kind = record { cycle = t; tile = h.tile; domain = h.domain; kind = kind }

-- an event of a later cycle than t, or of this one and a later attachment than h
abbrev pub IsLater : ℕ → Host → Event → Type 0
IsLater t h f = By t f.cycle (By h.tile f.tile (h.domain < f.domain))

-- the events of an attachment: take or wait, then drop, then got
abbrev pub seen_events : ℕ → Host → SeenAt → List Event
seen_events t h x =
    offer_events t h.tile h.domain x.ready x.offered ++ drop_events t h.tile h.domain x.dropped
    ++ got_events t h.tile h.domain true x.got

-- the events of these attachments, whose numbers are from j on
abbrev pub events_seen : ℕ → List SeenAt → ℕ → List Host → List Event
events_seen t seen j [] = []
events_seen t seen j (h ∷ hs) = seen_events t h (seen_at seen j) ++ events_seen t seen (suc j) hs
