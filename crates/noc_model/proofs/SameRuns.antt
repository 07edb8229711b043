-- A run from the same places, with the same inputs at the tiles that host the domain, has the same events.
use Rattle.std.proofs.Common.{◌≡◌, ℕ, zero, suc, List, [], ◌∷◌, ◌++◌, refl, ap, ◌∙◌}
use Rattle.std.specs.Prelude.{pos}
use Rattle.noc_model.specs.Plan.{Plan}
use Rattle.noc_model.specs.Sound.{IsSound}
use Rattle.noc_model.specs.Run.{State, Input, step, state_from}
use Rattle.noc_model.specs.Events.{cycle_events, events_from}
use Rattle.noc_model.specs.Driver.{Driver, driven, next_states, driven_events, driven_state, driver_states}
use Rattle.noc_model.specs.Same.{IsSameState, IsBareState}
use Rattle.noc_model.specs.Reached.{IsReached}
use Rattle.noc_model.proofs.OwnAttachments.{AreSame}
use Rattle.noc_model.proofs.SameStates.{same-step, bare-step, events-same, next_states-same, driven-alike}
use Rattle.noc_model.proofs.Reached.{reached-next, placed}

-- a run's state, and another that is the same at each place that there is
pub record AreTwinStates (p : Plan) (d t : ℕ) (a b : State) : Type 0 where
  pub reached : IsReached p d (pos t) a
  pub bare : IsBareState p d b
  pub same : IsSameState p d a b

-- so are they after a step
pub twins-next : (p : Plan) (d t : ℕ) (a b : State) (x y : Input) → IsSound p → AreSame p d x y
    → AreTwinStates p d t a b
    → AreTwinStates p d (suc t) (step p d (pos t) a x) (step p d (pos t) b y)
twins-next p d t a b x y sound fit twins = record {
  reached = reached-next p d t a x sound twins.reached;
  bare = bare-step p d (pos t) b y twins.bare;
  same = same-step p d (pos t) a b x y sound twins.same fit (placed p d (pos t) a twins.reached) twins.bare;
}

-- and the cycle's events are the same
pub twins-events : (p : Plan) (d t : ℕ) (a b : State) (x y : Input) → IsSound p → AreSame p d x y
    → AreTwinStates p d t a b
    → cycle_events p d t a x ≡ cycle_events p d t b y
twins-events p d t a b x y sound fit twins =
    events-same p d t a b x y sound twins.same fit (placed p d (pos t) a twins.reached)

-- ---- lists of inputs

abbrev pub AreAllSame : Plan → ℕ → List Input → List Input → Type 0
AreAllSame p d [] [] = Unit {0}
AreAllSame p d [] (y ∷ ys) = ⊥
AreAllSame p d (x ∷ xs) [] = ⊥
AreAllSame p d (x ∷ xs) (y ∷ ys) = AreSame p d x y × AreAllSame p d xs ys

pub states-from : (p : Plan) (d t : ℕ) (a b : State) (xs ys : List Input) → IsSound p → AreAllSame p d xs ys
    → AreTwinStates p d t a b
    → IsSameState p d (state_from p d t a xs) (state_from p d t b ys)
states-from p d t a b [] [] sound fit twins = twins.same
states-from p d t a b [] (y ∷ ys) sound fit twins = absurd fit
states-from p d t a b (x ∷ xs) [] sound fit twins = absurd fit
states-from p d t a b (x ∷ xs) (y ∷ ys) sound fit twins =
    states-from p d (suc t) (step p d (pos t) a x) (step p d (pos t) b y) xs ys sound fit.1 (twins-next p d t a b x y sound fit.0 twins)

pub events-from : (p : Plan) (d t : ℕ) (a b : State) (xs ys : List Input) → IsSound p → AreAllSame p d xs ys
    → AreTwinStates p d t a b
    → events_from p d t a xs ≡ events_from p d t b ys
events-from p d t a b [] [] sound fit twins = refl
events-from p d t a b [] (y ∷ ys) sound fit twins = absurd fit
events-from p d t a b (x ∷ xs) [] sound fit twins = absurd fit
events-from p d t a b (x ∷ xs) (y ∷ ys) sound fit twins =
    ap (λ es. es ++ events_from p d (suc t) (step p d (pos t) a x) xs) (twins-events p d t a b x y sound fit.0 twins)
    ∙ ap (λ es. cycle_events p d t b y ++ es)
    (events-from p d (suc t) (step p d (pos t) a x) (step p d (pos t) b y) xs ys sound fit.1 (twins-next p d t a b x y sound fit.0 twins))

-- ---- a driver

pub driven_events-twins : (p : Plan) (d : ℕ) (v : Driver) (k t : ℕ) (a b : State) (states others : ℕ → List ℕ)
    → IsSound p → ((j : ℕ) → states j ≡ others j) → AreTwinStates p d t a b
    → driven_events p d v k t a states ≡ driven_events p d v k t b others
driven_events-twins p d v zero t a b states others sound alike twins = refl
driven_events-twins p d v (suc k) t a b states others sound alike twins =
    let x : Input = driven p d v states t in
    let y : Input = driven p d v others t in
    let fit : AreSame p d x y = driven-alike p d v states others t alike in
    ap (λ es. es ++ driven_events p d v k (suc t) (step p d (pos t) a x) (next_states p d v states t a)) (twins-events p d t a b x y sound fit twins)
    ∙ ap (λ es. cycle_events p d t b y ++ es)
    (driven_events-twins p d v k (suc t) (step p d (pos t) a x) (step p d (pos t) b y) (next_states p d v states t a) (next_states p d v others t b) sound
    (next_states-same p d v states others t a b sound twins.same (placed p d (pos t) a twins.reached) alike) (twins-next p d t a b x y sound fit twins))

pub driven_state-twins : (p : Plan) (d : ℕ) (v : Driver) (k t : ℕ) (a b : State) (states others : ℕ → List ℕ)
    → IsSound p → ((j : ℕ) → states j ≡ others j) → AreTwinStates p d t a b
    → IsSameState p d (driven_state p d v k t a states) (driven_state p d v k t b others)
driven_state-twins p d v zero t a b states others sound alike twins = twins.same
driven_state-twins p d v (suc k) t a b states others sound alike twins =
    let x : Input = driven p d v states t in
    let y : Input = driven p d v others t in
    driven_state-twins p d v k (suc t) (step p d (pos t) a x) (step p d (pos t) b y) (next_states p d v states t a) (next_states p d v others t b) sound
    (next_states-same p d v states others t a b sound twins.same (placed p d (pos t) a twins.reached) alike)
    (twins-next p d t a b x y sound (driven-alike p d v states others t alike) twins)

pub driver_states-twins : (p : Plan) (d : ℕ) (v : Driver) (k t : ℕ) (a b : State) (states others : ℕ → List ℕ)
    → IsSound p → ((j : ℕ) → states j ≡ others j) → AreTwinStates p d t a b
    → (j : ℕ) → driver_states p d v k t a states j ≡ driver_states p d v k t b others j
driver_states-twins p d v zero t a b states others sound alike twins = alike
driver_states-twins p d v (suc k) t a b states others sound alike twins =
    let x : Input = driven p d v states t in
    let y : Input = driven p d v others t in
    driver_states-twins p d v k (suc t) (step p d (pos t) a x) (step p d (pos t) b y) (next_states p d v states t a) (next_states p d v others t b) sound
    (next_states-same p d v states others t a b sound twins.same (placed p d (pos t) a twins.reached) alike)
    (twins-next p d t a b x y sound (driven-alike p d v states others t alike) twins)
