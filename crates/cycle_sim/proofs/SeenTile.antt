-- What is seen at an attachment are the events of its tile.
use Rattle.std.proofs.Common.{◌≡◌, ℕ, Bool, true, false, List, ◌++◌, refl, sym, ap, ◌∙◌, Option, Some, None}
use Rattle.std.specs.Prelude.{slice_get, if◌then◌else◌}
use Rattle.noc_model.specs.declared.Host.{Host}
use Rattle.noc_model.specs.declared.Ejected.{Ejected}
use Rattle.noc_model.specs.Plan.{Plan}
use Rattle.noc_model.specs.Sound.{IsSound}
use Rattle.noc_model.specs.Step.{is_open}
use Rattle.noc_model.specs.Run.{State}
use Rattle.noc_model.specs.Driver.{Driver, offer_at, hears_at, driven}
use Rattle.noc_model.specs.Events.{ejected_of, offer_events, drop_events, got_events, tile_events}
use Rattle.noc_model.proofs.HostTiles.{number-is}
use Rattle.cycle_sim.specs.Attached.{seen_of}
use Rattle.tile_drive.specs.SeenEvents.{seen_events}

-- what is given out and heard
got-heard : (t n d : ℕ) (hears : Bool) (e : Option Ejected) → got_events t n d true (if hears then e else None) ≡ got_events t n d hears e
got-heard t n d true e = refl
got-heard t n d false e = refl

-- the events of what is seen at an attachment are those of its tile
pub seen-tile : (p : Plan) (v : Driver) (t j : ℕ) (h : Host) (s : State) (states : ℕ → List ℕ) → IsSound p → slice_get p.hosts j ≡ Some h
    → seen_events t h (seen_of p v t j (s h.tile) (states j)) ≡ tile_events p h.domain t s (driven p h.domain v states t) h.tile
seen-tile p v t j h s states sound at =
    ap (λ got. offer_events t h.tile h.domain (is_open p (s h.tile)) (v.offer j (states j) t) ++ drop_events t h.tile h.domain (s h.tile).dropped ++ got)
    (got-heard t h.tile h.domain (v.hears j (states j) t) (ejected_of (s h.tile).ejected))
    ∙ ap (λ o. offer_events t h.tile h.domain (is_open p (s h.tile)) (offer_at v states t o) ++ drop_events t h.tile h.domain (s h.tile).dropped
    ++ got_events t h.tile h.domain (hears_at v states t o) (ejected_of (s h.tile).ejected))
    (sym (number-is p j h sound at))
