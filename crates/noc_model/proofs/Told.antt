-- What enters and what is delivered, and the events of a cycle.
use Rattle.std.proofs.Common.{◌≡◌, ℕ, ◌+◌, Bool, true, false, Option, length, map, refl, sym, ap, ◌∙◌, ◌&&◌}
use Rattle.std.specs.Prelude.{Some, None, if◌then◌else◌, is_none, option_to_list, count_by, pos}
use Rattle.noc_model.specs.declared.Flit.{Flit}
use Rattle.noc_model.specs.declared.Offer.{Offer}
use Rattle.noc_model.specs.declared.Packet.{Packet}
use Rattle.noc_model.specs.declared.Event.{Event}
use Rattle.noc_model.specs.declared.Kind.TheVariants.{Got}
use Rattle.noc_model.specs.Plan.{Plan, hosts}
use Rattle.noc_model.specs.Step.{is_open, word_in, goes_to, entry, entry_of, is_dropped, one_if, tile_step}
use Rattle.noc_model.specs.Run.{State, Input, step}
use Rattle.noc_model.specs.Events.{ejected_of, offer_events, got_events}
use Rattle.noc_model.specs.Report.{is_take}
use Rattle.noc_model.specs.Flits.{where_there, enters_at, delivered_at}

-- the got event of a flit
abbrev pub got_of : ℕ → ℕ → ℕ → Flit → Event
got_of t n d f =
    record { cycle = t; tile = n; domain = d; kind = Got (record { head = f.head; tail = f.tail; payload = f.payload }) }

-- the flits that are delivered at a tile are those of its got events
pub got-delivered : (p : Plan) (d t n : ℕ) (s : State) (x : Input) → hosts p n d ≡ true
    → got_events t n d (x.hears n) (ejected_of (s n).ejected) ≡ map (got_of t n d) (delivered_at p d s x n)
got-delivered p d t n s x here = go (x.hears n) (s n).ejected ∙ sym (ap (λ b. map (got_of t n d) (where_there (b && x.hears n) (option_to_list (s n).ejected))) here)
  where
    go : (h : Bool) (e : Option Flit)
        → got_events t n d h (ejected_of e) ≡ map (got_of t n d) (where_there h (option_to_list e))
    go false e = refl
    go true None = refl
    go true (Some f) = refl

-- a word that is taken enters, or is dropped, and then the drop pulse is set in the next cycle
pub taken-entered : (p : Plan) (d t n : ℕ) (s : State) (x : Input) → hosts p n d ≡ true
    → count_by (λ (e : Event). is_take e.kind) (offer_events t n d (is_open p (s n)) (x.offer n)) ≡ length (enters_at p d s x n) + one_if (step p d (pos t) s x n).dropped
unfolding step tile_step word_in
taken-entered p d t n s x here = one (is_open p (s n)) (x.offer n) ∙ sym (ap whole here)
  where
    whole : Bool → ℕ
    whole b = length (where_there b (option_to_list (entry p d (s n).packet (if is_open p (s n) then (if b then x.offer n else None) else None))))
        + one_if (is_dropped p d (s n).packet (if is_open p (s n) then (if b then x.offer n else None) else None))

    passed : (k : Packet) (y : Offer) (o : Option ℕ) → 1 ≡ length (option_to_list (entry_of k y o)) + one_if (is_none o)
    passed k y None = refl
    passed k y (Some dest) = refl

    one : (open_now : Bool) (o : Option Offer)
        → count_by (λ (e : Event). is_take e.kind) (offer_events t n d open_now o)
        ≡ length (option_to_list (entry p d (s n).packet (if open_now then o else None))) + one_if (is_dropped p d (s n).packet (if open_now then o else None))
    one true None = refl
    one false None = refl
    one true (Some y) = passed (s n).packet y (goes_to p d (s n).packet y)
    one false (Some y) = refl
