-- Two runs of a domain, from states that are the same at each place that there is.
use Rattle.std.proofs.Common.{◌≡◌, ◌≢◌, ℕ, zero, suc, ◌-◌, ◌<◌, Bool, true, false, Option, List, [], ◌++◌, drop, refl, ap, ◌∙◌, arith, subst, ◌==◌, ◌&&◌, ℤ}
use Rattle.std.specs.Prelude.{Some, None, is_some, if◌then◌else◌, slice_get}
use Rattle.std.proofs.lemmas.Bool.Decides.{nat_tests}
use Rattle.noc_model.specs.declared.Flit.{Flit}
use Rattle.noc_model.specs.declared.Host.{Host}
use Rattle.noc_model.specs.declared.Stage.TheVariants.{Idle}
use Rattle.noc_model.specs.Plan.{Plan, tiles, hosts, link_channels, in_channels, attach_of}
use Rattle.noc_model.specs.Sound.{IsSound}
use Rattle.noc_model.specs.Place.{neighbour, opposite}
use Rattle.noc_model.specs.Tile.{Tile, TileIn}
use Rattle.noc_model.specs.Step.{is_open, next_stage, routed, comes_in, leaves, one_if, tile_step}
use Rattle.noc_model.specs.Run.{State, Input, last_place, arrival, return_of, fed, step}
use Rattle.noc_model.specs.Events.{ejected_of, offer_events, drop_events, got_events, tile_events, tabulate, cycle_events}
use Rattle.noc_model.specs.Driver.{Driver, offer_at, hears_at, driven, after_taken, after_got, next_state, next_states}
use Rattle.noc_model.specs.Same.{IsSameTile, IsSameState, IsSameIn, IsBareTile, IsPlacedTile, IsPlacedState, IsBareState}
use Rattle.noc_model.proofs.Coords.{positive}
use Rattle.noc_model.proofs.Links.{link-from}
use Rattle.noc_model.proofs.HostTiles.{host-within, host-hosted, hosts-inside}
use Rattle.noc_model.proofs.StateKept.{neighbour-inside, arrival-none}
use Rattle.noc_model.proofs.OwnAttachments.{AreSame, flat_map-same}
use Rattle.noc_model.proofs.SamePlaces.{AreTwins, twins-step, open-same, then-same}

-- ---- what comes in

last-same : (p : Plan) (d n port m : ℕ) (a b : State) → IsSound p → n < tiles p → IsSameState p d a b
    → neighbour p n port ≡ Some m
    → last_place p (a m) (opposite port) ≡ last_place p (b m) (opposite port)
last-same p d n port m a b sound inside same e =
    let link = link-from p n port m (positive p.dims sound.sides) inside e in
    let some = sound.stages.0 in
    (same m (neighbour-inside p n port m (positive p.dims sound.sides) e)).row (opposite port) n (p.stages - 1) link.back (omega (arith, some))

arrival-same : (p : Plan) (d n port : ℕ) (a b : State) → IsSound p → n < tiles p → IsSameState p d a b
    → arrival p a n port ≡ arrival p b n port
unfolding arrival
arrival-same p d n port a b sound inside same =
    then-same (λ m. last_place p (a m) (opposite port)) (λ m. last_place p (b m) (opposite port)) (neighbour p n port) (neighbour p n port) refl
    (λ m e. last-same p d n port m a b sound inside same e)

return-same : (p : Plan) (d n o m w : ℕ) (a b : State) → IsSound p → n < tiles p → IsSameState p d a b
    → neighbour p n o ≡ Some m → w < link_channels p d
    → return_of p a n o w ≡ return_of p b n o w
unfolding return_of
return-same p d n o m w a b sound inside same e below =
    let link = link-from p n o m (positive p.dims sound.sides) inside e in
    rw e ((same m (neighbour-inside p n o m (positive p.dims sound.sides) e)).pulse (opposite o) n w link.back below)

fed-same : (p : Plan) (d n : ℕ) (a b : State) (x y : Input) → IsSound p → n < tiles p → IsSameState p d a b
    → AreSame p d x y
    → IsSameIn p d n (fed p d a x n) (fed p d b y n)
fed-same p d n a b x y sound inside same fit = record {
  arrives = λ port m e. arrival-same p d n port a b sound inside same;
  returns = λ o m w e below. return-same p d n o m w a b sound inside same e below;
  offer = λ here. ap (λ o. if hosts p n d then o else None) (fit.offer n here);
  hears = λ here. ap (λ h. hosts p n d && h) (fit.hears n here);
}

-- a tile that doesn't host the domain is offered nothing
pub fed-nothing : (p : Plan) (d n : ℕ) (s : State) (x : Input) → hosts p n d ≡ false → (fed p d s x n).offer ≡ None
fed-nothing p d n s x away = ap (λ b. if b then x.offer n else None) away

-- ---- the step

twins-at : (p : Plan) (d n : ℕ) (a b : State) (x y : Input) → IsSound p → n < tiles p → IsSameState p d a b
    → AreSame p d x y → IsPlacedState p d a → IsBareState p d b
    → AreTwins p d n (a n) (b n) (fed p d a x n) (fed p d b y n)
twins-at p d n a b x y sound inside same fit placed bare = record {
  same = same n inside;
  fed = fed-same p d n a b x y sound inside same fit;
  placed = placed n inside;
  bare = bare n inside;
  none = λ away. (fed-nothing p d n a x away, fed-nothing p d n b y away);
}

-- steps from the same places, with the same inputs at the tiles that host the domain, come to the same places
pub same-step : (p : Plan) (d : ℕ) (t : ℤ) (a b : State) (x y : Input) → IsSound p → IsSameState p d a b
    → AreSame p d x y → IsPlacedState p d a → IsBareState p d b
    → IsSameState p d (step p d t a x) (step p d t b y)
unfolding step
same-step p d t a b x y sound same fit placed bare n inside =
    twins-step p d n t (a n) (b n) (fed p d a x n) (fed p d b y n) (twins-at p d n a b x y sound inside same fit placed bare)

abbrev no_flits : List Flit
no_flits = []

drop-nothing : (b : Bool) → drop (one_if b) no_flits ++ no_flits ≡ no_flits
drop-nothing true = refl
drop-nothing false = refl

bare-tile : (p : Plan) (d n : ℕ) (t : ℤ) (s : Tile) (i : TileIn)
    → ((port : ℕ) → neighbour p n port ≡ None → i.arrives port ≡ None) → IsBareTile p d n s
    → IsBareTile p d n (tile_step p d n t s i)
unfolding tile_step
bare-tile p d n t s i none bare = record {
  empty = λ port c link away below. empty port c link away below;
  idle = λ port c link away below. ap (next_stage p d n t s i port c) (bare.idle port c link away below) ∙ ap (λ fs. routed p n fs Idle) (bare.empty port c link away below);
}
  where
    empty : (port c : ℕ) → port ≢ 0 → neighbour p n port ≡ None → c < in_channels p d port
        → drop (one_if (leaves p d n t s i port c)) (s.queue port c) ++ comes_in p d s i port c ≡ []
    empty zero c link away below = absurd (link refl)
    empty (suc port) c link away below =
        rw (bare.empty (suc port) c link away below, none (suc port) away) (drop-nothing (leaves p d n t s i (suc port) c))

-- ports without a link stay empty
pub bare-step : (p : Plan) (d : ℕ) (t : ℤ) (s : State) (x : Input) → IsBareState p d s
    → IsBareState p d (step p d t s x)
unfolding step
bare-step p d t s x bare n inside =
    bare-tile p d n t (s n) (fed p d s x n) (λ port none. arrival-none p s n port none) (bare n inside)

-- ---- the events

tile_events-same : (p : Plan) (d t n : ℕ) (a b : State) (x y : Input) → IsSameTile p d n (a n) (b n) → AreSame p d x y
    → IsPlacedTile p d n (a n) → hosts p n d ≡ true
    → tile_events p d t a x n ≡ tile_events p d t b y n
tile_events-same p d t n a b x y same fit placed here =
    ap (λ r. offer_events t n d r (x.offer n) ++ drop_events t n d (a n).dropped ++ got_events t n d (x.hears n) (ejected_of (a n).ejected)) (open-same p d n (a n) (b n) same here placed.current)
    ∙ ap (λ o. offer_events t n d (is_open p (b n)) o ++ drop_events t n d (a n).dropped ++ got_events t n d (x.hears n) (ejected_of (a n).ejected)) (fit.offer n here)
    ∙ ap (λ r. offer_events t n d (is_open p (b n)) (y.offer n) ++ drop_events t n d r ++ got_events t n d (x.hears n) (ejected_of (a n).ejected)) (same.dropped here)
    ∙ ap (λ h. offer_events t n d (is_open p (b n)) (y.offer n) ++ drop_events t n d (b n).dropped ++ got_events t n d h (ejected_of (a n).ejected)) (fit.hears n here)
    ∙ ap (λ f. offer_events t n d (is_open p (b n)) (y.offer n) ++ drop_events t n d (b n).dropped ++ got_events t n d (y.hears n) (ejected_of f)) (same.ejected here)

pub events-same : (p : Plan) (d t : ℕ) (a b : State) (x y : Input) → IsSound p → IsSameState p d a b → AreSame p d x y
    → IsPlacedState p d a
    → cycle_events p d t a x ≡ cycle_events p d t b y
events-same p d t a b x y sound same fit placed =
    flat_map-same (λ n. hosts p n d) (tile_events p d t a x) (tile_events p d t b y) (tabulate (tiles p) (λ n. n))
    (λ n here. (let inside = hosts-inside p n d sound here in tile_events-same p d t n a b x y (same n inside) fit (placed n inside) here))

-- ---- the driver

next_state-same : (p : Plan) (d : ℕ) (v : Driver) (t : ℕ) (a b : State) (j : ℕ) (state : List ℕ) (o : Option Host)
    → IsSound p → IsSameState p d a b → IsPlacedState p d a
    → slice_get p.hosts j ≡ o → next_state p d v t a j state o ≡ next_state p d v t b j state o
next_state-same p d v t a b j state None sound same placed at = refl
next_state-same p d v t a b j state (Some h) sound same placed at = go (h.domain == d) refl
  where
    inside : h.tile < tiles p
    inside = (host-within p j h sound at).0

    moved : State → List ℕ
    moved s =
        after_got v j (after_taken v j state t (is_open p (s h.tile) && is_some (v.offer j state t))) t (v.hears j state t) (ejected_of (s h.tile).ejected)

    go : (own : Bool) → (h.domain == d) ≡ own → (if own then moved a else state) ≡ (if own then moved b else state)
    go false other = refl
    go true own =
        let is : h.domain ≡ d = grind (arith, nat_tests, own) in
        let here : hosts p h.tile d ≡ true = subst (λ e. hosts p h.tile e ≡ true) is (host-hosted p j h at) in
        ap (λ r. after_got v j (after_taken v j state t (r && is_some (v.offer j state t))) t (v.hears j state t) (ejected_of (a h.tile).ejected))
        (open-same p d h.tile (a h.tile) (b h.tile) (same h.tile inside) here (placed h.tile inside).current)
        ∙ ap (λ f. after_got v j (after_taken v j state t (is_open p (b h.tile) && is_some (v.offer j state t))) t (v.hears j state t) (ejected_of f)) ((same h.tile inside).ejected here)

-- the attachments' states after a cycle
pub next_states-same : (p : Plan) (d : ℕ) (v : Driver) (states others : ℕ → List ℕ) (t : ℕ) (a b : State) → IsSound p
    → IsSameState p d a b → IsPlacedState p d a
    → ((j : ℕ) → states j ≡ others j) → (j : ℕ) → next_states p d v states t a j ≡ next_states p d v others t b j
next_states-same p d v states others t a b sound same placed alike j =
    ap (λ state. next_state p d v t a j state (slice_get p.hosts j)) (alike j)
    ∙ next_state-same p d v t a b j (others j) (slice_get p.hosts j) sound same placed refl

-- a driver does the same from the same states
pub driven-alike : (p : Plan) (d : ℕ) (v : Driver) (states others : ℕ → List ℕ) (t : ℕ)
    → ((j : ℕ) → states j ≡ others j) → AreSame p d (driven p d v states t) (driven p d v others t)
driven-alike p d v states others t alike = record {
  offer = λ n here. offer (attach_of p n d);
  hears = λ n here. hears (attach_of p n d);
}
  where
    offer : (o : Option ℕ) → offer_at v states t o ≡ offer_at v others t o
    offer None = refl
    offer (Some j) = ap (λ state. v.offer j state t) (alike j)

    hears : (o : Option ℕ) → hears_at v states t o ≡ hears_at v others t o
    hears None = refl
    hears (Some j) = ap (λ state. v.hears j state t) (alike j)
