-- The domains of a tile, switched one after the other.
use Rattle.std.proofs.Common.{◌≡◌, ◌≢◌, ℕ, ◌+◌, ◌<◌, ◌≤◌, Bool, List, length, refl, sym, ◌∙◌, ap, subst, arith, ⊎_elim}
use Rattle.std.specs.Prelude.{Option, None, slice_get, slice_index_or}
use Rattle.std.proofs.lemmas.Bool.{cases_eq}
use Rattle.noc_model.specs.declared.Flit.{Flit}
use Rattle.noc_model.specs.declared.Grant.{Grant}
use Rattle.noc_model.specs.declared.Stage.{Stage}
use Rattle.noc_model.specs.Plan.{Plan}
use Rattle.noc_model.specs.Tile.{Tile}
use Rattle.vc_partition.specs.Lanes.{lane}
use Rattle.wave_sched.specs.declared.wheels.Wheel.{Wheel}
use Rattle.slot_switch.specs.Switch.{Switch}
use Rattle.slot_switch.specs.Grants.{OnlyLane, OnlyDomain}
use Rattle.slot_switch.specs.Shown.{HasPorts, IsFor, Keeps, HasSwitched}

-- both keep the same for domain d
pub record SameDomain (x y : Switch) (d : ℕ) : Type 0 where
  pub asks : lane y.asks d ≡ lane x.asks d
  pub turns : lane y.turns d ≡ lane x.turns d
  pub switches : lane y.switches d ≡ lane x.switches d

same-self : (x : Switch) (d : ℕ) → SameDomain x x d
same-self x d = record { asks = refl; turns = refl; switches = refl }

same-other : (x y : Switch) (d e : ℕ) → OnlyDomain x y d → e ≢ d → SameDomain x y e
same-other x y d e only apart =
    record { asks = only.asks.others e apart; turns = only.turns.others e apart; switches = only.switches.others e apart }

same-then : (x y z : Switch) (d : ℕ) → SameDomain x y d → SameDomain y z d → SameDomain x z d
same-then x y z d a b = record { asks = b.asks ∙ a.asks; turns = b.turns ∙ a.turns; switches = b.switches ∙ a.switches }

-- the switch keeps for a domain what its lanes say
keeps-same : (x y : Switch) (p : Plan) (d : ℕ) (s : Tile) → SameDomain x y d → Keeps x p d s → Keeps y p d s
keeps-same x y p d s same keeps = record {
  turn = λ k there. ap (λ l. slice_index_or l k 0) same.turns ∙ keeps.turn k there;
  switch = λ o there. ap (λ l. slice_index_or l o 0) same.switches ∙ keeps.switch o there;
}

back : (x y : Switch) (d : ℕ) → SameDomain x y d → SameDomain y x d
back x y d same = record { asks = sym same.asks; turns = sym same.turns; switches = sym same.switches }

-- what a domain was granted depends on its lanes alone
switched-same : (x x' y y' : Switch) (u u' : List (List (Option Grant))) (p : Plan) (d : ℕ) (wheel : Wheel)
    (stages : List (List Stage))
    (fronts : List (List (Option Flit))) (credits : List (List ℕ)) (room : List Bool) → SameDomain x x' d → SameDomain y y' d → lane u' d ≡ lane u d
    → HasSwitched x y p d wheel stages fronts credits room u → HasSwitched x' y' p d wheel stages fronts credits room u'
switched-same x x' y y' u u' p d wheel stages fronts credits room before after grants is = record {
  asks = λ n t s i shown keeps port there. ap (λ l. slice_index_or l port None) after.asks
      ∙ is.asks n t s i shown (keeps-same x' x p d s (back x x' d before) keeps) port there;
  granted = λ n t s i shown keeps port there. ap (λ l. slice_get l port) grants ∙ is.granted n t s i shown (keeps-same x' x p d s (back x x' d before) keeps) port there;
  pointers = λ n t s i shown keeps. keeps-same y y' p d _ after (is.pointers n t s i shown (keeps-same x' x p d s (back x x' d before) keeps));
}

-- the switch x has become y and the grants u have become w, where the domains below m have been switched
pub record AreStepping (x y : Switch) (u w : List (List (Option Grant))) (p : Plan) (m : ℕ) (wheel : Wheel) (stages : List (List Stage))
    (fronts : List (List (Option Flit))) (credits : List (List ℕ)) (room : List Bool) : Type 0 where
  pub switched : (d : ℕ) → d < m → HasSwitched x y p d wheel stages fronts credits room w
  pub behind : (d : ℕ) → m ≤ d → SameDomain x y d
  pub made : IsFor y p
  pub grants : (d : ℕ) → d < length p.domains → HasPorts p d w

pub step-start : (x : Switch) (u : List (List (Option Grant))) (p : Plan) (wheel : Wheel) (stages : List (List Stage))
    (fronts : List (List (Option Flit))) (credits : List (List ℕ)) (room : List Bool) → IsFor x p → ((d : ℕ) → d < length p.domains → HasPorts p d u)
    → AreStepping x x u u p 0 wheel stages fronts credits room
step-start x u p wheel stages fronts credits room made grants = record {
  switched = λ d less. absurd (omega (arith, less));
  behind = λ d all. same-self x d;
  made = made;
  grants = grants;
}

pub step-next : (x y z : Switch) (u v w : List (List (Option Grant))) (p : Plan) (m : ℕ) (wheel : Wheel)
    (stages : List (List Stage))
    (fronts : List (List (Option Flit))) (credits : List (List ℕ)) (room : List Bool) → AreStepping x y u v p m wheel stages fronts credits room
    → HasSwitched y z p m wheel stages fronts credits room w → IsFor z p → OnlyDomain y z m → OnlyLane v w m
    → AreStepping x z u w p (m + 1) wheel stages fronts credits room
step-next x y z u v w p m wheel stages fronts credits room are now made only only_grants = record {
  switched = λ d less. ⊎_elim
      (λ (e : d ≡ m).
      subst (λ k. HasSwitched x z p k wheel stages fronts credits room w) (sym e)
      (switched-same y x z z w w p m wheel stages fronts credits room (back x y m (are.behind m (let n : m ≤ m = omega arith in n))) (same-self z m) refl now))
      (λ (apart : d ≢ m).
      switched-same x x y z v w p d wheel stages fronts credits room (same-self x d) (same-other y z m d only apart) (only_grants.others d apart)
      (are.switched d (omega (arith, less, apart))))
      (cases_eq d m);
  behind = λ d all. same-then x y z d (are.behind d (omega (arith, all))) (same-other y z m d only (let n : d ≢ m = omega (arith, all) in n));
  made = made;
  grants = λ d there.
      let old = are.grants d there in
      let domains = only_grants.domains in
      ⊎_elim
      (λ (e : d ≡ m). (omega (arith, domains, old.0), ap (λ k. length (lane w k)) e ∙ only_grants.places ∙ ap (λ k. length (lane v k)) (sym e) ∙ old.1))
      (λ (apart : d ≢ m). (omega (arith, domains, old.0), ap length (only_grants.others d apart) ∙ old.1))
      (cases_eq d m);
}
