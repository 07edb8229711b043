-- What happens at the attachments of one domain, cycle by cycle.
use Rattle.std.specs.Prelude.{ℕ, zero, suc, Bool, true, false, List, [], ◌∷◌, ◌++◌, Option, Some, None, flat_map, filter, pos}
use Rattle.noc_model.specs.declared.Flit.{Flit}
use Rattle.noc_model.specs.declared.Offer.{Offer}
use Rattle.noc_model.specs.declared.Ejected.{Ejected}
use Rattle.noc_model.specs.declared.Event.{Event}
use Rattle.noc_model.specs.declared.Kind.TheVariants.{Take, Wait, Drop, Got}
use Rattle.noc_model.specs.Plan.{Plan, hosts, tiles}
use Rattle.noc_model.specs.Step.{is_open}
use Rattle.noc_model.specs.Run.{State, Input, step}

-- what an attachment shows of a flit
abbrev pub ejected_of : Option Flit → Option Ejected
ejected_of None = None
ejected_of (Some f) = Some (record { head = f.head; tail = f.tail; payload = f.payload })

-- a word that is offered is taken, or waits
abbrev pub offer_events : ℕ → ℕ → ℕ → Bool → Option Offer → List Event
offer_events t n d ready None = []
offer_events t n d true (Some x) = record { cycle = t; tile = n; domain = d; kind = Take x.payload } ∷ []
offer_events t n d false (Some x) = record { cycle = t; tile = n; domain = d; kind = Wait x.payload } ∷ []

-- the drop pulse
abbrev pub drop_events : ℕ → ℕ → ℕ → Bool → List Event
drop_events t n d false = []
drop_events t n d true = record { cycle = t; tile = n; domain = d; kind = Drop } ∷ []

-- a flit that is heard
abbrev pub got_events : ℕ → ℕ → ℕ → Bool → Option Ejected → List Event
got_events t n d false e = []
got_events t n d true None = []
got_events t n d true (Some e) = record { cycle = t; tile = n; domain = d; kind = Got e } ∷ []

-- the events of a tile that hosts the domain: take or wait, then drop, then got
abbrev pub tile_events : Plan → ℕ → ℕ → State → Input → ℕ → List Event
tile_events p d t s x n =
    offer_events t n d (is_open p (s n)) (x.offer n) ++ drop_events t n d (s n).dropped
    ++ got_events t n d (x.hears n) (ejected_of (s n).ejected)

-- f at 0, f at 1 and so on, below n
abbrev pub tabulate : {A : Type 0} → ℕ → (ℕ → A) → List A
tabulate zero f = []
tabulate (suc n) f = f 0 ∷ tabulate n (λ k. f (suc k))

-- the tiles that host the domain
abbrev pub hosts_of : Plan → ℕ → List ℕ
hosts_of p d = filter (λ n. hosts p n d) (tabulate (tiles p) (λ n. n))

-- the events of a cycle, by tile
abbrev pub cycle_events : Plan → ℕ → ℕ → State → Input → List Event
cycle_events p d t s x = flat_map (tile_events p d t s x) (hosts_of p d)

-- the events of the cycles from t on
abbrev pub events_from : Plan → ℕ → ℕ → State → List Input → List Event
events_from p d t s [] = []
events_from p d t s (x ∷ xs) = cycle_events p d t s x ++ events_from p d (suc t) (step p d (pos t) s x) xs
