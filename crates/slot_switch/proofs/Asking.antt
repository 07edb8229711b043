-- What an input port asks for, from one channel after the other.
use Rattle.std.proofs.Common.{◌≡◌, ◌≢◌, ℕ, ◌+◌, ◌<◌, ◌≤◌, ◌&&◌, nat_lt, Bool, true, false, List, [], ◌∷◌, length, refl, sym, ◌∙◌, ap, subst, ℤ, length-set, get_or-set_same}
use Rattle.std.specs.Prelude.{Option, Some, None, pos, option_and_then, if◌then◌else◌, slice_set}
use Rattle.noc_model.specs.declared.Flit.{Flit}
use Rattle.noc_model.specs.declared.Grant.{Grant}
use Rattle.noc_model.specs.declared.Stage.{Stage}
use Rattle.noc_model.specs.declared.Stage.TheVariants.{Idle, Routed, Active}
use Rattle.noc_model.specs.Plan.{Plan, in_channels}
use Rattle.noc_model.specs.Pick.{pick}
use Rattle.noc_model.specs.Tile.{Tile, TileIn}
use Rattle.noc_model.specs.Step.{is_ready, is_ready_at, grant_at, asked}
use Rattle.noc_model.proofs.Least.{pick-member}
use Rattle.vc_partition.specs.Lanes.{lane}
use Rattle.vc_partition.specs.Picks.{better, comes_first}
use Rattle.vc_partition.proofs.Cuts.{lane-written, lane-other, lanes-other}
use Rattle.wave_sched.specs.declared.wheels.Wheel.{Wheel}
use Rattle.slot_switch.specs.Switch.{Switch, ask_at, turn_at, better_ask, with_ask}
use Rattle.slot_switch.specs.Grants.{OnlyLane, OnlyAsks}
use Rattle.slot_switch.specs.Shown.{IsShown, asking}
use Rattle.slot_switch.proofs.Choice.{below, pick-next, pick-start, pick-end}

-- ---- only asks change

pub lane-start : {T : Type 0} (u : List (List T)) (d : ℕ) → OnlyLane u u d
lane-start u d = record { others = λ e apart. refl; places = refl; domains = refl }

pub lane-then : {T : Type 0} (u v w : List (List T)) (d : ℕ) → OnlyLane u v d → OnlyLane v w d → OnlyLane u w d
lane-then u v w d a b =
    record { others = λ e apart. b.others e apart ∙ a.others e apart; places = b.places ∙ a.places; domains = b.domains ∙ a.domains }

pub lane-set : {T : Type 0} (u : List (List T)) (d k : ℕ) (x : T) → d < length u
    → OnlyLane u (slice_set u d (slice_set (lane u d) k x)) d
lane-set u d k x there = record {
  others = λ e apart. lanes-other u d e k x apart;
  places = ap length (get_or-set_same u d (slice_set (lane u d) k x) [] there) ∙ length-set (lane u d) k x;
  domains = length-set u d (slice_set (lane u d) k x);
}

pub only-start : (x : Switch) (d : ℕ) → OnlyAsks x d x
only-start x d = record { asks = lane-start x.asks d; rest = refl }

pub only-then : (x y z : Switch) (d : ℕ) → OnlyAsks x d y → OnlyAsks y d z → OnlyAsks x d z
only-then x y z d a b = record {
  asks = lane-then x.asks y.asks z.asks d a.asks b.asks;
  rest = b.rest ∙ ap (λ (w : Switch). let v : Switch = record w { asks = z.asks } in v) a.rest;
}

pub only-asked : (x : Switch) (d port : ℕ) (g : Option Grant) → d < length x.asks → OnlyAsks x d (with_ask x d port g)
only-asked x d port g there = record { asks = lane-set x.asks d port g there; rest = refl }

pub only-turn : (x y : Switch) (d e k : ℕ) → OnlyAsks x d y → turn_at y e k ≡ turn_at x e k
only-turn x y d e k only = ap (λ (w : Switch). turn_at w e k) only.rest

-- ---- the best ask is the choice

-- a channel that is ready asks
ready-asks : (p : Plan) (d n : ℕ) (t : ℤ) (s : Tile) (i : TileIn) (c : ℕ) (fs : List Flit) (st : Stage)
    → is_ready_at p d n t s i fs st ≡ true
    → (g : Grant) × (grant_at c st ≡ Some g) × (g.channel ≡ c)
ready-asks p d n t s i c fs Idle e = absurd (cc e)
ready-asks p d n t s i c fs (Routed o) e = absurd (cc e)
ready-asks p d n t s i c [] (Active o w) e = absurd (cc e)
ready-asks p d n t s i c (f ∷ fs) (Active o w) e = (record { channel = c; out = o; to = w }, refl, refl)

-- with one ask more, the better ask is that of the better channel
asked-better : (f : ℕ → Option Grant) (pointer : ℕ) (o : Option ℕ) (m : ℕ) (g : Grant) → f m ≡ Some g → g.channel ≡ m
    → ((k : ℕ) → o ≡ Some k → (h : Grant) × (f k ≡ Some h) × (h.channel ≡ k))
    → Some (better_ask pointer (option_and_then f o) g) ≡ option_and_then f (better pointer o m)
asked-better f pointer None m g asks channel all = sym asks
asked-better f pointer (Some k) m g asks channel all =
    let old = all k refl in
    let h : Grant = old.0 in
    ap (λ x. Some (better_ask pointer x g)) old.1
    ∙ ap (λ c. Some (if comes_first pointer c h.channel then g else h)) channel
    ∙ ap (λ c. Some (if comes_first pointer m c then g else h)) old.2
    ∙ which (comes_first pointer m k)
  where
    which : (b : Bool) → (let old = all k refl in Some (if b then g else old.0)) ≡ f (if b then m else k)
    which true = sym asks
    which false = let old = all k refl in sym old.1

-- the switch x has become y, where the channels of the input port below m have asked
pub record IsAsking (x y : Switch) (p : Plan) (d port m : ℕ) (wheel : Wheel) (stages : List (List Stage)) (fronts : List (List (Option Flit)))
    (credits : List (List ℕ)) (room : List Bool) : Type 0 where
  pub only : OnlyAsks x d y
  pub others : (k : ℕ) → k ≢ port → ask_at y d k ≡ ask_at x d k
  pub best : (n t : ℕ) (s : Tile) (i : TileIn) → IsShown p d n t s i wheel stages fronts credits room
      → turn_at x d port ≡ s.turn port
      → ask_at y d port ≡ option_and_then (λ c. grant_at c (s.stage port c)) (pick (in_channels p d port) (below m (is_ready p d n (pos t) s i port)) (s.turn port))

pub asking-start : (x : Switch) (p : Plan) (d port : ℕ) (wheel : Wheel) (stages : List (List Stage))
    (fronts : List (List (Option Flit)))
    (credits : List (List ℕ)) (room : List Bool) → ask_at x d port ≡ None → IsAsking x x p d port 0 wheel stages fronts credits room
asking-start x p d port wheel stages fronts credits room quiet = record {
  only = only-start x d;
  others = λ k apart. refl;
  best = λ n t s i shown turn. quiet
      ∙ sym (ap (option_and_then (λ c. grant_at c (s.stage port c))) (pick-start (in_channels p d port) (is_ready p d n (pos t) s i port) (s.turn port)));
}

-- a port that was cleared asks for nothing
pub cleared-none : (x y : Switch) (d port : ℕ) → y ≡ with_ask x d port None → d < length x.asks
    → port < length (lane x.asks d) → ask_at y d port ≡ None
cleared-none x y d port made there inside =
    ap (λ u. ask_at u d port) made ∙ lane-written x.asks d port None None there inside

pub cleared-only : (x y : Switch) (d port : ℕ) → y ≡ with_ask x d port None → d < length x.asks → OnlyAsks x d y
cleared-only x y d port made there = subst (OnlyAsks x d) (sym made) (only-asked x d port None there)

pub cleared-others : (x y : Switch) (d port k : ℕ) → y ≡ with_ask x d port None → d < length x.asks → k ≢ port
    → ask_at y d k ≡ ask_at x d k
cleared-others x y d port k made there apart =
    ap (λ u. ask_at u d k) made ∙ lane-other x.asks d port k None None there apart

-- whether the channel is ready, by what it asks for
none-ready : (p : Plan) (d n : ℕ) (t : ℤ) (s : Tile) (i : TileIn) (port c : ℕ) → None ≡ asking p d n t s i port c
    → is_ready p d n t s i port c ≡ false
none-ready p d n t s i port c e = go (is_ready p d n t s i port c) refl
  where
    go : (b : Bool) → is_ready p d n t s i port c ≡ b → is_ready p d n t s i port c ≡ false
    go false is = is
    go true is =
        let asks = ready-asks p d n t s i c (s.queue port c) (s.stage port c) is in
        let some : None ≡ Some asks.0 = e ∙ ap (λ b. if b then grant_at c (s.stage port c) else None) is ∙ asks.1 in
        absurd (cc some)

some-ready : (p : Plan) (d n : ℕ) (t : ℤ) (s : Tile) (i : TileIn) (port c : ℕ) (g : Grant)
    → Some g ≡ asking p d n t s i port c
    → (is_ready p d n t s i port c ≡ true) × (grant_at c (s.stage port c) ≡ Some g)
some-ready p d n t s i port c g e = go (is_ready p d n t s i port c) refl
  where
    go : (b : Bool) → is_ready p d n t s i port c ≡ b
        → (is_ready p d n t s i port c ≡ true) × (grant_at c (s.stage port c) ≡ Some g)
    go true is = (is, sym (e ∙ ap (λ b. if b then grant_at c (s.stage port c) else None) is))
    go false is =
        absurd (let none : Some g ≡ None = e ∙ ap (λ b. if b then grant_at c (s.stage port c) else None) is in cc none)

pub asking-skip : (x y : Switch) (p : Plan) (d port m : ℕ) (wheel : Wheel) (stages : List (List Stage))
    (fronts : List (List (Option Flit)))
    (credits : List (List ℕ)) (room : List Bool) → m < in_channels p d port
    → ((n t : ℕ) (s : Tile) (i : TileIn) → IsShown p d n t s i wheel stages fronts credits room → None ≡ asking p d n (pos t) s i port m)
    → IsAsking x y p d port m wheel stages fronts credits room
    → IsAsking x y p d port (m + 1) wheel stages fronts credits room
asking-skip x y p d port m wheel stages fronts credits room inside none is = record {
  only = is.only;
  others = is.others;
  best = λ n t s i shown turn. is.best n t s i shown turn
      ∙ ap (option_and_then (λ c. grant_at c (s.stage port c)))
      (sym (pick-next (in_channels p d port) (is_ready p d n (pos t) s i port) (s.turn port) m inside false (none-ready p d n (pos t) s i port m (none n t s i shown))));
}

and-last : (a b : Bool) → (a && b) ≡ true → b ≡ true
and-last true b e = e
and-last false b e = absurd (cc e)

pub asking-more : (x y z : Switch) (p : Plan) (d port m : ℕ) (g : Grant) (wheel : Wheel) (stages : List (List Stage))
    (fronts : List (List (Option Flit)))
    (credits : List (List ℕ)) (room : List Bool) → m < in_channels p d port → d < length y.asks → port < length (lane y.asks d) → g.channel ≡ m
    → z ≡ with_ask y d port (Some (better_ask (turn_at y d port) (ask_at y d port) g))
    → ((n t : ℕ) (s : Tile) (i : TileIn) → IsShown p d n t s i wheel stages fronts credits room → Some g ≡ asking p d n (pos t) s i port m)
    → IsAsking x y p d port m wheel stages fronts credits room
    → IsAsking x z p d port (m + 1) wheel stages fronts credits room
asking-more x y z p d port m g wheel stages fronts credits room inside there port_in channel made some is =
    let new : Option Grant = Some (better_ask (turn_at y d port) (ask_at y d port) g) in
    let made_only : OnlyAsks y d z = subst (OnlyAsks y d) (sym made) (only-asked y d port new there) in
    record {
      only = only-then x y z d is.only made_only;
      others = λ k apart. ap (λ u. ask_at u d k) made ∙ lane-other y.asks d port k new None there apart ∙ is.others k apart;
      best = λ n t s i shown turn.
          let f : ℕ → Option Grant = λ c. grant_at c (s.stage port c) in
          let set : ℕ → Bool = is_ready p d n (pos t) s i port in
          let old : Option ℕ = pick (in_channels p d port) (below m set) (s.turn port) in
          let ready = some-ready p d n (pos t) s i port m g (some n t s i shown) in
          let members : (k : ℕ) → old ≡ Some k → (h : Grant) × (f k ≡ Some h) × (h.channel ≡ k) =
          λ k e. ready-asks p d n (pos t) s i k (s.queue port k) (s.stage port k) (and-last (nat_lt k m) (set k) (pick-member (in_channels p d port) (below m set) (s.turn port) k e).1) in
          ap (λ u. ask_at u d port) made ∙ lane-written y.asks d port new None there port_in
          ∙ ap (λ k. Some (better_ask k (ask_at y d port) g)) (only-turn x y d d port is.only ∙ turn)
          ∙ ap (λ o. Some (better_ask (s.turn port) o g)) (is.best n t s i shown turn)
          ∙ asked-better f (s.turn port) old m g ready.1 channel members
          ∙ ap (option_and_then f) (sym (pick-next (in_channels p d port) set (s.turn port) m inside true ready.0));
    }

pub asking-end : (x y : Switch) (p : Plan) (d port m : ℕ) (wheel : Wheel) (stages : List (List Stage))
    (fronts : List (List (Option Flit)))
    (credits : List (List ℕ)) (room : List Bool) → in_channels p d port ≤ m → IsAsking x y p d port m wheel stages fronts credits room
    → (n t : ℕ) (s : Tile) (i : TileIn) → IsShown p d n t s i wheel stages fronts credits room
    → turn_at x d port ≡ s.turn port
    → ask_at y d port ≡ asked p d n (pos t) s i port
unfolding asked
asking-end x y p d port m wheel stages fronts credits room all is n t s i shown turn =
    is.best n t s i shown turn
    ∙ ap (option_and_then (λ c. grant_at c (s.stage port c))) (pick-end (in_channels p d port) (is_ready p d n (pos t) s i port) (s.turn port) m all)
