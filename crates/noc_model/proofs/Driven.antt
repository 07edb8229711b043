-- The run that a driver makes of a domain, and one cycle more at its end.
use Rattle.std.proofs.Common.{◌≡◌, ℕ, zero, suc, ◌+◌, List, ◌++◌, length, refl, sym, ap, ◌∙◌, append_assoc, arith}
use Rattle.std.specs.Prelude.{pos}
use Rattle.std.proofs.lemmas.List.{append-nil}
use Rattle.noc_model.specs.Plan.{Plan}
use Rattle.noc_model.specs.Run.{State, step, state_from}
use Rattle.noc_model.specs.Events.{cycle_events, events_from}
use Rattle.noc_model.specs.Driver.{Driver, driven, next_states, driven_events, driven_state, driver_states, driven_inputs}

-- the state after one cycle more
pub state-last : (p : Plan) (d : ℕ) (v : Driver) (k t u : ℕ) (s : State) (states : ℕ → List ℕ) → u ≡ t + k
    → driven_state p d v (suc k) t s states ≡ step p d (pos u) (driven_state p d v k t s states) (driven p d v (driver_states p d v k t s states) u)
state-last p d v zero t u s states is =
    let same : t ≡ u = omega arith in ap (λ i. step p d (pos i) s (driven p d v states i)) same
state-last p d v (suc k) t u s states is =
    state-last p d v k (suc t) u (step p d (pos t) s (driven p d v states t)) (next_states p d v states t s) (omega arith)

-- the attachments' states after one cycle more
pub states-last : (p : Plan) (d : ℕ) (v : Driver) (k t u : ℕ) (s : State) (states : ℕ → List ℕ) → u ≡ t + k
    → driver_states p d v (suc k) t s states ≡ next_states p d v (driver_states p d v k t s states) u (driven_state p d v k t s states)
states-last p d v zero t u s states is =
    let same : t ≡ u = omega arith in ap (λ i. next_states p d v states i s) same
states-last p d v (suc k) t u s states is =
    states-last p d v k (suc t) u (step p d (pos t) s (driven p d v states t)) (next_states p d v states t s) (omega arith)

-- the events of one cycle more come last
pub events-last : (p : Plan) (d : ℕ) (v : Driver) (k t u : ℕ) (s : State) (states : ℕ → List ℕ) → u ≡ t + k
    → driven_events p d v (suc k) t s states
    ≡ driven_events p d v k t s states ++ cycle_events p d u (driven_state p d v k t s states) (driven p d v (driver_states p d v k t s states) u)
events-last p d v zero t u s states is =
    let same : t ≡ u = omega arith in
    append-nil (cycle_events p d t s (driven p d v states t))
    ∙ ap (λ i. cycle_events p d i s (driven p d v states i)) same
events-last p d v (suc k) t u s states is =
    let next : State = step p d (pos t) s (driven p d v states t) in
    let after : ℕ → List ℕ = next_states p d v states t s in
    let first = cycle_events p d t s (driven p d v states t) in
    let last =
    cycle_events p d u (driven_state p d v k (suc t) next after) (driven p d v (driver_states p d v k (suc t) next after) u) in
    ap (λ es. first ++ es) (events-last p d v k (suc t) u next after (omega arith))
    ∙ sym (append_assoc first (driven_events p d v k (suc t) next after) last)

-- ---- the run is that of the inputs which the driver makes

-- one input for each cycle
pub inputs-length : (p : Plan) (d : ℕ) (v : Driver) (k t : ℕ) (s : State) (states : ℕ → List ℕ)
    → length (driven_inputs p d v k t s states) ≡ k
inputs-length p d v zero t s states = refl
inputs-length p d v (suc k) t s states =
    omega (arith, inputs-length p d v k (suc t) (step p d (pos t) s (driven p d v states t)) (next_states p d v states t s))

pub driven-state_from : (p : Plan) (d : ℕ) (v : Driver) (k t : ℕ) (s : State) (states : ℕ → List ℕ)
    → driven_state p d v k t s states ≡ state_from p d t s (driven_inputs p d v k t s states)
driven-state_from p d v zero t s states = refl
driven-state_from p d v (suc k) t s states =
    driven-state_from p d v k (suc t) (step p d (pos t) s (driven p d v states t)) (next_states p d v states t s)

pub driven-events_from : (p : Plan) (d : ℕ) (v : Driver) (k t : ℕ) (s : State) (states : ℕ → List ℕ)
    → driven_events p d v k t s states ≡ events_from p d t s (driven_inputs p d v k t s states)
driven-events_from p d v zero t s states = refl
driven-events_from p d v (suc k) t s states =
    ap (λ es. cycle_events p d t s (driven p d v states t) ++ es)
    (driven-events_from p d v k (suc t) (step p d (pos t) s (driven p d v states t)) (next_states p d v states t s))
