-- The law of a lone word holds of the runs that a driver makes.
use Rattle.std.proofs.Common.{◌≡◌, ℕ, zero, suc, ◌+◌, ◌<◌, ◌≤◌, List, ◌∷◌, length, refl, sym, ap, ◌∙◌, subst, arith}
use Rattle.std.specs.Prelude.{pos, take}
use Rattle.noc_model.specs.declared.Offer.{Offer}
use Rattle.noc_model.specs.Plan.{Plan}
use Rattle.noc_model.specs.Sound.{IsSound}
use Rattle.noc_model.specs.Run.{State, Input, start, step, run}
use Rattle.noc_model.specs.Events.{events_from}
use Rattle.noc_model.specs.Driver.{Driver, driven, next_states, driven_events, driven_state, driven_inputs}
use Rattle.noc_model.specs.Lone.{IsLoneWord, IsRoute, IsGot, least_latency, most_latency}
use Rattle.noc_model.proofs.Driven.{inputs-length, driven-state_from, driven-events_from}
use Rattle.noc_model.proofs.LoneWord.{lone_word-law}

-- the inputs of the first cycles
take-driven : (p : Plan) (d : ℕ) (v : Driver) (k j t : ℕ) (s : State) (states : ℕ → List ℕ) → j ≤ k
    → take j (driven_inputs p d v k t s states) ≡ driven_inputs p d v j t s states
take-driven p d v k zero t s states few = refl
take-driven p d v zero (suc j) t s states few = absurd (omega arith)
take-driven p d v (suc k) (suc j) t s states few =
    ap (λ xs. driven p d v states t ∷ xs) (take-driven p d v k j (suc t) (step p d (pos t) s (driven p d v states t)) (next_states p d v states t s) (omega arith))

pub lone_word-driven : (p : Plan) (d n dest t k : ℕ) (v : Driver) (states : ℕ → List ℕ) (word : Offer) (way : List ℕ)
    → IsSound p → d < length p.domains → IsRoute p dest n way
    → IsLoneWord p d n dest t (t + most_latency p dest n way) word (driven_state p d v t 0 (start p) states) (driven_inputs p d v k 0 (start p) states) (driven_events p d v k 0 (start p) states)
    → IsGot d dest word.payload (t + least_latency p way) (t + most_latency p dest n way) (driven_events p d v k 0 (start p) states)
lone_word-driven p d n dest t k v states word way sound there way_is lone =
    let xs : List Input = driven_inputs p d v k 0 (start p) states in
    let u : ℕ = t + most_latency p dest n way in
    let events : driven_events p d v k 0 (start p) states ≡ events_from p d 0 (start p) xs =
    driven-events_from p d v k 0 (start p) states in
    let count = inputs-length p d v k 0 (start p) states in
    let state : driven_state p d v t 0 (start p) states ≡ run p d (take t xs) =
    driven-state_from p d v t 0 (start p) states ∙ ap (run p d) (sym (take-driven p d v k t 0 (start p) states (let long = lone.long in omega (arith, count, long)))) in
    subst (IsGot d dest word.payload (t + least_latency p way) u) (sym events)
    (lone_word-law p d n dest t xs word way sound there way_is
    (subst (IsLoneWord p d n dest t u word (run p d (take t xs)) xs) events (subst (λ s. IsLoneWord p d n dest t u word s xs (driven_events p d v k 0 (start p) states)) state lone)))
