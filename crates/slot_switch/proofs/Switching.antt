-- What the switch grants is what the definition grants.
use Rattle.std.proofs.Common.{◌≡◌, ◌≢◌, ℕ, ◌+◌, ◌<◌, ◌≤◌, Bool, true, List, length, refl, sym, ◌∙◌, ap, subst, arith, ⊎_elim, ℤ}
use Rattle.std.specs.Prelude.{Option, Some, None, pos, nat_lt, if◌then◌else◌, option_and_then}
use Rattle.std.proofs.lemmas.Bool.{cases_eq}
use Rattle.std.proofs.lemmas.Bool.Decides.{nat_tests}
use Rattle.noc_model.specs.declared.Flit.{Flit}
use Rattle.noc_model.specs.declared.Grant.{Grant}
use Rattle.noc_model.specs.declared.Stage.{Stage}
use Rattle.noc_model.specs.Plan.{Plan, ports}
use Rattle.noc_model.specs.Tile.{Tile, TileIn}
use Rattle.noc_model.specs.Step.{asked, chosen, granted_to as to_port, grant, after, after_grant, tile_step}
use Rattle.noc_model.specs.SoundState.{HasOutput}
use Rattle.noc_model.proofs.Switch.{asked-ready}
use Rattle.noc_model.proofs.Switched.{output-below}
use Rattle.wave_sched.specs.declared.wheels.Wheel.{Wheel}
use Rattle.slot_switch.specs.Switch.{Switch, ask_at, turn_at, switch_at, chosen_in}
use Rattle.slot_switch.specs.Asked.{AsksAs}
use Rattle.slot_switch.specs.Grants.{OnlyLane, OnlyAsks, OnlyDomain, granted_below, HaveGranted}
use Rattle.slot_switch.specs.Shown.{AreChannels, IsShown, IsFor, Keeps, HasSwitched}
use Rattle.slot_switch.proofs.Asking.{only-start, only-then, only-turn}
use Rattle.slot_switch.proofs.Granting.{switch-done}
use Rattle.slot_switch.proofs.Defined.{chosen-is}

-- ---- the input ports ask

-- the switch x has become y for domain d, where the input ports below m have asked
pub record AreAsking (x y : Switch) (p : Plan) (d m : ℕ) (wheel : Wheel) (stages : List (List Stage)) (fronts : List (List (Option Flit)))
    (credits : List (List ℕ)) (room : List Bool) : Type 0 where
  pub only : OnlyAsks x d y
  pub made : IsFor y p
  pub asking : (n t : ℕ) (s : Tile) (i : TileIn) → IsShown p d n t s i wheel stages fronts credits room → Keeps x p d s
      → (k : ℕ) → k < m → ask_at y d k ≡ asked p d n (pos t) s i k

still-for : (x y : Switch) (p : Plan) (d : ℕ) → OnlyAsks x d y → IsFor x p → IsFor y p
still-for x y p d only made =
    record { domains = only.asks.domains ∙ made.domains; port_count = ap (λ (v : Switch). v.ports) only.rest ∙ made.port_count }

pub are-start : (x : Switch) (p : Plan) (d : ℕ) (wheel : Wheel) (stages : List (List Stage))
    (fronts : List (List (Option Flit)))
    (credits : List (List ℕ)) (room : List Bool) → IsFor x p → AreAsking x x p d 0 wheel stages fronts credits room
are-start x p d wheel stages fronts credits room made = record {
  only = only-start x d;
  made = made;
  asking = λ n t s i shown keeps k less. absurd (omega (arith, less));
}

pub are-next : (x y z : Switch) (p : Plan) (d m : ℕ) (wheel : Wheel) (stages : List (List Stage))
    (fronts : List (List (Option Flit)))
    (credits : List (List ℕ)) (room : List Bool) → m < ports p
    → ((n t : ℕ) (s : Tile) (i : TileIn) → IsShown p d n t s i wheel stages fronts credits room → turn_at y d m ≡ s.turn m → ask_at z d m ≡ asked p d n (pos t) s i m)
    → OnlyAsks y d z → ((k : ℕ) → k ≢ m → ask_at z d k ≡ ask_at y d k)
    → AreAsking x y p d m wheel stages fronts credits room → AreAsking x z p d (m + 1) wheel stages fronts credits room
are-next x y z p d m wheel stages fronts credits room inside here only others are = record {
  only = only-then x y z d are.only only;
  made = still-for y z p d only are.made;
  asking = λ n t s i shown keeps k less. ⊎_elim
      (λ (e : k ≡ m). ap (ask_at z d) e ∙ here n t s i shown (only-turn x y d d m are.only ∙ keeps.turn m inside) ∙ ap (asked p d n (pos t) s i) (sym e))
      (λ (apart : k ≢ m). others k apart ∙ are.asking n t s i shown keeps k (omega (arith, less, apart)))
      (cases_eq k m);
}

-- ---- the outputs grant

same-then : (f g : Grant → Option Grant) (o : Option Grant) → ((x : Grant) → o ≡ Some x → f x ≡ g x)
    → option_and_then f o ≡ option_and_then g o
same-then f g None same = refl
same-then f g (Some x) same = same x refl

granted-is : (y : Switch) (p : Plan) (d n : ℕ) (t : ℤ) (s : Tile) (i : TileIn) (stages : List (List Stage))
    (fronts : List (List (Option Flit))) (k : ℕ)
    → AsksAs y p d n t s i → AreChannels p d n s stages fronts → k < ports p
    → granted_below y.ports y d k ≡ grant p d n t s i k
unfolding grant
granted-is y p d n t s i stages fronts k asks shown there =
    ap (option_and_then (λ g. if nat_lt g.out y.ports then to_port (chosen_in y d g.out) k g else None)) (asks.asks k there)
    ∙ same-then (λ g. if nat_lt g.out y.ports then to_port (chosen_in y d g.out) k g else None) (λ g. to_port (chosen p d n t s i g.out) k g) (asked p d n t s i k)
    (λ g e.
    let ready = asked-ready p d n t s i k g e in
    let output = subst (HasOutput p d n) ready.active (shown.output k g.channel there ready.in_range) in
    let below : g.out < ports p = output-below p n g.out output.0 in
    let yes : nat_lt g.out y.ports ≡ true = let e = asks.port_count in grind (arith, nat_tests) in
    ap (λ b. if b then to_port (chosen_in y d g.out) k g else None) yes
    ∙ ap (λ o. to_port o k g) (chosen-is y p d n t s i asks g.out below))

-- the pointers of the tile after its step
step-keeps : (z : Switch) (p : Plan) (d n : ℕ) (t : ℤ) (s : Tile) (i : TileIn)
    → ((k : ℕ) → k < ports p → turn_at z d k ≡ after_grant (grant p d n t s i k) (s.turn k))
    → ((o : ℕ) → o < ports p → switch_at z d o ≡ after (chosen p d n t s i o) (s.switch o))
    → Keeps z p d (tile_step p d n t s i)
unfolding tile_step
step-keeps z p d n t s i turns switches = record { turn = turns; switch = switches }

module _ (x y z : Switch) (u w : List (List (Option Grant))) (p : Plan) (d m : ℕ) (wheel : Wheel) (stages : List (List Stage))
    (fronts : List (List (Option Flit))) (credits : List (List ℕ)) (room : List Bool) (made : IsFor x p) (all : ports p ≤ m)
    (are : AreAsking x y p d m wheel stages fronts credits room) (have : HaveGranted y z u w d y.ports) where
  asks-as : (n t : ℕ) (s : Tile) (i : TileIn) → IsShown p d n t s i wheel stages fronts credits room → Keeps x p d s
      → AsksAs y p d n (pos t) s i
  asks-as n t s i shown keeps = record {
    port_count = are.made.port_count;
    asks = λ k there. are.asking n t s i shown keeps k (omega (arith, all, there));
    switches = λ o there. ap (λ (v : Switch). switch_at v d o) are.only.rest ∙ keeps.switch o there;
  }

  grants-are : (n t : ℕ) (s : Tile) (i : TileIn) → IsShown p d n t s i wheel stages fronts credits room → Keeps x p d s
      → (k : ℕ) → k < ports p
      → granted_below y.ports y d k ≡ grant p d n (pos t) s i k
  grants-are n t s i shown keeps k there =
      granted-is y p d n (pos t) s i stages fronts k (asks-as n t s i shown keeps) shown.channels there

  within : (k : ℕ) → k < ports p → k < y.ports
  within k there = let e = are.made.port_count in omega (arith, e, there)

  pub switched : HasSwitched x z p d wheel stages fronts credits room w
  switched = record {
    asks = λ n t s i shown keeps k there. ap (λ (v : Switch). ask_at v d k) have.rest ∙ are.asking n t s i shown keeps k (omega (arith, all, there));
    granted = λ n t s i shown keeps k there. have.given k (within k there) ∙ ap Some (grants-are n t s i shown keeps k there);
    pointers = λ n t s i shown keeps. step-keeps z p d n (pos t) s i
        (λ k there.
        have.moved k (within k there) ∙ ap (λ g. after_grant g (turn_at y d k)) (grants-are n t s i shown keeps k there)
        ∙ ap (after_grant (grant p d n (pos t) s i k)) (only-turn x y d d k are.only ∙ keeps.turn k there))
        (λ o there.
        have.picked o (within o there) ∙ switch-done y d o y.ports (within o there)
        ∙ ap (λ c. after c (switch_at y d o)) (chosen-is y p d n (pos t) s i (asks-as n t s i shown keeps) o there)
        ∙ ap (after (chosen p d n (pos t) s i o)) ((asks-as n t s i shown keeps).switches o there));
  }

  pub made-after : IsFor z p
  made-after = record {
    domains = ap (λ (v : Switch). length v.asks) have.rest ∙ are.made.domains;
    port_count = ap (λ (v : Switch). v.ports) have.rest ∙ are.made.port_count;
  }

  pub only-domain : OnlyDomain x z d
  only-domain = record {
    port_count = ap (λ (v : Switch). v.ports) have.rest ∙ ap (λ (v : Switch). v.ports) are.only.rest;
    asks = let P : List (List (Option Grant)) → Type 0 = λ v. OnlyLane x.asks v d in subst P (sym (ap (λ (v : Switch). v.asks) have.rest)) are.only.asks;
    turns = let P : List (List ℕ) → Type 0 = λ v. OnlyLane v z.turns d in subst P (ap (λ (v : Switch). v.turns) are.only.rest) have.turns;
    switches = let P : List (List ℕ) → Type 0 = λ v. OnlyLane v z.switches d in subst P (ap (λ (v : Switch). v.switches) are.only.rest) have.switches;
  }
