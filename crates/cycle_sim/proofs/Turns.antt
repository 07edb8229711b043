-- A run, and one cycle more of it.
use Rattle.std.proofs.Common.{◌≡◌, refl, ℕ, suc, ◌+◌, ◌<◌, List, ◌++◌, length, sym, ap, ◌∙◌, subst, arith, Some}
use Rattle.std.specs.Prelude.{slice_get, ◌==◌, filter, flat_map, pos}
use Rattle.std.proofs.lemmas.List.Elements.{filter-append}
use Rattle.noc_model.specs.declared.Event.{Event}
use Rattle.noc_model.specs.declared.Host.{Host}
use Rattle.noc_model.specs.Plan.{Plan}
use Rattle.noc_model.specs.Sound.{IsSound}
use Rattle.noc_model.specs.Run.{State, start, step}
use Rattle.noc_model.specs.Driver.{Driver, driven, next_state, driven_events, driven_state, driver_states}
use Rattle.noc_model.specs.Events.{tile_events, cycle_events}
use Rattle.noc_model.proofs.HostTiles.{hosts_of-tiles, host-within}
use Rattle.noc_model.proofs.Driven.{state-last, states-last, events-last}
use Rattle.noc_model.proofs.OwnAttachments.{DoAlike, step-same, driven-same}
use Rattle.tile_drive.specs.declared.cycle_seen.SeenAt.{SeenAt}
use Rattle.tile_drive.specs.Seen.{seen_at}
use Rattle.cycle_sim.specs.Attached.{seen_of}
use Rattle.cycle_sim.specs.Net.{Kept, Shows}
use Rattle.tile_drive.specs.SeenEvents.{seen_events, events_seen}
use Rattle.tile_drive.proofs.SeenEvents.{own-events}
use Rattle.cycle_sim.proofs.SeenTile.{seen-tile}

-- network and driver are in the states after k cycles from the start, of each domain
pub record HasRun (p : Plan) (v : Driver) (first : ℕ → List ℕ) (k : ℕ) (net : Kept) (states : ℕ → List ℕ) : Type 0 where
  pub plan : net.plan ≡ p
  pub cycle : net.cycle ≡ k
  pub shows : (d : ℕ) → d < length p.domains → Shows net d (driven_state p d v k 0 (start p) first)
  pub attached : (j : ℕ) (h : Host) → slice_get p.hosts j ≡ Some h → states j ≡ driver_states p h.domain v k 0 (start p) first j

-- what a step says
pub record HasStepped (p : Plan) (v : Driver) (t : ℕ) (net new : Kept) (states after : ℕ → List ℕ) (seen : List SeenAt) : Type 0 where
  pub plan : new.plan ≡ p
  pub cycle : new.cycle ≡ t + 1
  pub steps : (d : ℕ) (s : State) → d < length p.domains → Shows net d s → Shows new d (step p d (pos t) s (driven p d v states t))
  pub states_are : (j : ℕ) (h : Host) (s : State) → slice_get p.hosts j ≡ Some h → Shows net h.domain s
      → after j ≡ next_state p h.domain v t s j (states j) (Some h)
  pub seen_are : (j : ℕ) (h : Host) (s : State) → slice_get p.hosts j ≡ Some h → Shows net h.domain s
      → seen_at seen j ≡ seen_of p v t j (s h.tile) (states j)

-- a step, from what is known of the network and the driver before it
stepped_from : (p : Plan) (v w : Driver) (k : ℕ) (net new : Kept) (states after : ℕ → List ℕ) (seen : List SeenAt) → net.plan ≡ p → net.cycle ≡ k → w ≡ v
    → HasStepped net.plan w net.cycle net new states after seen → HasStepped p v k net new states after seen
stepped_from p v w k net new states after seen plan cycle driver stepped =
    subst (λ (x : Driver). HasStepped p x k net new states after seen) driver
    (subst (λ (i : ℕ). HasStepped p w i net new states after seen) cycle
    (subst (λ (q : Plan). HasStepped q w net.cycle net new states after seen) plan stepped))

alike : (v : Driver) (j : ℕ) → DoAlike v v j
alike v j = record { offer = λ state t. refl; hears = λ state t. refl; taken = λ state t. refl; got = λ state t e. refl }

-- net and driver after one cycle more
turn_of : (p : Plan) (v : Driver) (first : ℕ → List ℕ) (k : ℕ) (net new : Kept) (states after : ℕ → List ℕ) (seen : List SeenAt) → IsSound p
    → HasRun p v first k net states → HasStepped p v k net new states after seen → HasRun p v first (suc k) new after
turn_of p v first k net new states after seen sound ran stepped = record {
  plan = stepped.plan;
  cycle = omega (arith, stepped.cycle);
  shows = λ d less.
      subst (λ (s : State). Shows new d s)
      (step-same p d (pos k) (driven_state p d v k 0 (start p) first) (driven p d v states k) (driven p d v (driver_states p d v k 0 (start p) first) k)
      (driven-same p d v v states (driver_states p d v k 0 (start p) first) k (λ j own. alike v j)
      (λ j own. ran.attached j own.host own.at ∙ ap (λ e. driver_states p e v k 0 (start p) first j) own.own))
      ∙ sym (state-last p d v k 0 k (start p) first (omega arith)))
      (stepped.steps d (driven_state p d v k 0 (start p) first) less (ran.shows d less));
  attached = λ j h at.
      let s : State = driven_state p h.domain v k 0 (start p) first in
      stepped.states_are j h s at (ran.shows h.domain ((host-within p j h sound at).1))
      ∙ ap (λ state. next_state p h.domain v k s j state (Some h)) (ran.attached j h at)
      ∙ ap (next_state p h.domain v k s j (driver_states p h.domain v k 0 (start p) first j)) (sym at)
      ∙ sym (ap (λ (f : ℕ → List ℕ). f j) (states-last p h.domain v k 0 k (start p) first (omega arith)));
}

pub turn : (p : Plan) (v w : Driver) (first : ℕ → List ℕ) (k : ℕ) (net new : Kept) (states after : ℕ → List ℕ) (seen : List SeenAt) → IsSound p
    → HasRun p v first k net states → w ≡ v → HasStepped net.plan w net.cycle net new states after seen → HasRun p v first (k + 1) new after
turn p v w first k net new states after seen sound ran driver stepped =
    let one : suc k ≡ k + 1 = omega arith in
    subst (λ (n : ℕ). HasRun p v first n new after) one
    (turn_of p v first k net new states after seen sound ran (stepped_from p v w k net new states after seen ran.plan ran.cycle driver stepped))

-- what is seen are the cycle's events
cycle-own : (p : Plan) (v : Driver) (first : ℕ → List ℕ) (k d : ℕ) (net new : Kept) (states after : ℕ → List ℕ) (seen : List SeenAt) → IsSound p
    → HasRun p v first k net states → HasStepped p v k net new states after seen
    → filter (λ (e : Event). e.domain == d) (events_seen k seen 0 p.hosts)
    ≡ cycle_events p d k (driven_state p d v k 0 (start p) first) (driven p d v (driver_states p d v k 0 (start p) first) k)
cycle-own p v first k d net new states after seen sound ran stepped =
    own-events k d 0 seen (at d) p.hosts own ∙ ap (flat_map (at d)) (sym (hosts_of-tiles p d sound))
  where
    at : ℕ → ℕ → List Event
    at e = tile_events p e k (driven_state p e v k 0 (start p) first) (driven p e v (driver_states p e v k 0 (start p) first) k)

    own : (i j : ℕ) (h : Host) → j ≡ 0 + i → slice_get p.hosts i ≡ Some h → h.domain ≡ d → seen_events k h (seen_at seen j) ≡ at d h.tile
    own i j h is has same =
        let s : State = driven_state p h.domain v k 0 (start p) first in
        let i_j : i ≡ j = omega arith in
        let here : slice_get p.hosts j ≡ Some h = ap (slice_get p.hosts) (sym i_j) ∙ has in
        ap (seen_events k h) (stepped.seen_are j h s here (ran.shows h.domain ((host-within p j h sound here).1))
        ∙ ap (seen_of p v k j (s h.tile)) (ran.attached j h here))
        ∙ seen-tile p v k j h s (driver_states p h.domain v k 0 (start p) first) sound here
        ∙ ap (λ e. at e h.tile) same

-- the events of a domain after one cycle more
pub turn-events : (p : Plan) (v w : Driver) (first : ℕ → List ℕ) (k d : ℕ) (net new : Kept) (states after : ℕ → List ℕ) (seen : List SeenAt) (es : List Event)
    → IsSound p → HasRun p v first k net states → w ≡ v → HasStepped net.plan w net.cycle net new states after seen
    → filter (λ (e : Event). e.domain == d) es ≡ driven_events p d v k 0 (start p) first
    → filter (λ (e : Event). e.domain == d) (es ++ events_seen k seen 0 p.hosts) ≡ driven_events p d v (k + 1) 0 (start p) first
turn-events p v w first k d net new states after seen es sound ran driver stepped so_far =
    let one : suc k ≡ k + 1 = omega arith in
    filter-append (λ (e : Event). e.domain == d) es (events_seen k seen 0 p.hosts)
    ∙ ap (λ xs. xs ++ filter (λ (e : Event). e.domain == d) (events_seen k seen 0 p.hosts)) so_far
    ∙ ap (λ ys. driven_events p d v k 0 (start p) first ++ ys)
    (cycle-own p v first k d net new states after seen sound ran (stepped_from p v w k net new states after seen ran.plan ran.cycle driver stepped))
    ∙ sym (events-last p d v k 0 k (start p) first (omega arith))
    ∙ ap (λ n. driven_events p d v n 0 (start p) first) one
