-- A driver, and the run of one domain that it drives.
use Rattle.std.specs.Prelude.{◌≡◌, ℕ, zero, suc, Bool, true, false, List, [], ◌∷◌, ◌++◌, Option, Some, None, is_some, slice_get, ◌&&◌, ◌==◌, if◌then◌else◌, pos}
use Rattle.noc_model.specs.declared.Host.{Host}
use Rattle.noc_model.specs.declared.Offer.{Offer}
use Rattle.noc_model.specs.declared.Ejected.{Ejected}
use Rattle.noc_model.specs.declared.Event.{Event}
use Rattle.noc_model.specs.Plan.{Plan, attach_of}
use Rattle.noc_model.specs.Step.{is_open}
use Rattle.noc_model.specs.Run.{State, Input, step}
use Rattle.noc_model.specs.Events.{cycle_events, ejected_of}

-- what a driver does at attachment j, whose state is a list of numbers, in a cycle: what it offers, whether it hears,
-- and its state after a word was taken, and after a flit was got
pub record Driver : Type 0 where
  pub offer : ℕ → List ℕ → ℕ → Option Offer
  pub hears : ℕ → List ℕ → ℕ → Bool
  pub taken : ℕ → List ℕ → ℕ → List ℕ
  pub got : ℕ → List ℕ → ℕ → Ejected → List ℕ

-- an attachment that hears in a cycle still does when the word that it offers was taken in it
abbrev pub KeepsHearing : Driver → Type 0
KeepsHearing v = (j t : ℕ) (state : List ℕ) → is_some (v.offer j state t) ≡ true → v.hears j state t ≡ true
    → v.hears j (v.taken j state t) t ≡ true

-- what an attachment offers, where there is one, and attachment j is in the state at j
abbrev pub offer_at : Driver → (ℕ → List ℕ) → ℕ → Option ℕ → Option Offer
offer_at v states t None = None
offer_at v states t (Some j) = v.offer j (states j) t

-- whether it hears
abbrev pub hears_at : Driver → (ℕ → List ℕ) → ℕ → Option ℕ → Bool
hears_at v states t None = false
hears_at v states t (Some j) = v.hears j (states j) t

-- the input of domain d in cycle t: a tile that doesn't host the domain has no attachment to ask
abbrev pub driven : Plan → ℕ → Driver → (ℕ → List ℕ) → ℕ → Input
driven p d v states t = record {
  offer = λ n. offer_at v states t (attach_of p n d);
  hears = λ n. hears_at v states t (attach_of p n d);
}

-- the state of an attachment after a cycle in which a word was taken, or not
abbrev pub after_taken : Driver → ℕ → List ℕ → ℕ → Bool → List ℕ
after_taken v j state t true = v.taken j state t
after_taken v j state t false = state

-- the state of an attachment after a cycle in which it heard, or not
abbrev pub after_got : Driver → ℕ → List ℕ → ℕ → Bool → Option Ejected → List ℕ
after_got v j state t true (Some e) = v.got j state t e
after_got v j state t true None = state
after_got v j state t false e = state

-- the state of an attachment after a cycle, by what its tile took, and then by what it got. One of another domain stays
abbrev pub next_state : Plan → ℕ → Driver → ℕ → State → ℕ → List ℕ → Option Host → List ℕ
next_state p d v t s j state None = state
next_state p d v t s j state (Some h) =
    if h.domain == d
    then after_got v j (after_taken v j state t (is_open p (s h.tile) && is_some (v.offer j state t))) t
    (v.hears j state t) (ejected_of (s h.tile).ejected)
    else state

-- the attachments' states after cycle t
abbrev pub next_states : Plan → ℕ → Driver → (ℕ → List ℕ) → ℕ → State → ℕ → List ℕ
next_states p d v states t s j = next_state p d v t s j (states j) (slice_get p.hosts j)

-- the events of k cycles from t on, from the state s and the attachments' states
abbrev pub driven_events : Plan → ℕ → Driver → ℕ → ℕ → State → (ℕ → List ℕ) → List Event
driven_events p d v zero t s states = []
driven_events p d v (suc k) t s states =
    cycle_events p d t s (driven p d v states t)
    ++ driven_events p d v k (suc t) (step p d (pos t) s (driven p d v states t)) (next_states p d v states t s)

-- the state of the domain after k cycles from t on, from the state s and the attachments' states
abbrev pub driven_state : Plan → ℕ → Driver → ℕ → ℕ → State → (ℕ → List ℕ) → State
driven_state p d v zero t s states = s
driven_state p d v (suc k) t s states =
    driven_state p d v k (suc t) (step p d (pos t) s (driven p d v states t)) (next_states p d v states t s)

-- the attachments' states after k cycles from t on, where only those of the domain move
abbrev pub driver_states : Plan → ℕ → Driver → ℕ → ℕ → State → (ℕ → List ℕ) → ℕ → List ℕ
driver_states p d v zero t s states = states
driver_states p d v (suc k) t s states =
    driver_states p d v k (suc t) (step p d (pos t) s (driven p d v states t)) (next_states p d v states t s)

-- what the domain is fed in k cycles from t on, from the state s and the attachments' states
abbrev pub driven_inputs : Plan → ℕ → Driver → ℕ → ℕ → State → (ℕ → List ℕ) → List Input
driven_inputs p d v zero t s states = []
driven_inputs p d v (suc k) t s states =
    driven p d v states t
    ∷ driven_inputs p d v k (suc t) (step p d (pos t) s (driven p d v states t)) (next_states p d v states t s)
