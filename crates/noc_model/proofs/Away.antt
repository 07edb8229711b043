-- Where a domain isn't hosted, all packets go on, and the attachment has nothing.
use Rattle.std.proofs.Common.{◌≡◌, ◌≢◌, ℕ, suc, ◌+◌, ◌*◌, ◌<◌, Bool, true, false, Option, List, [], ◌∷◌, ◌++◌, drop, refl, sym, ap, ◌∙◌, arith, subst, ◌==◌, ◌&&◌, ℤ}
use Rattle.std.specs.Prelude.{Some, None, All, if◌then◌else◌, option_to_list}
use Rattle.std.proofs.lemmas.Bool.Decides.{nat_tests}
use Rattle.std.proofs.lemmas.List.Elements.{All-head}
use Rattle.noc_model.specs.declared.Flit.{Flit}
use Rattle.noc_model.specs.declared.LinkFlit.{LinkFlit}
use Rattle.noc_model.specs.declared.Offer.{Offer}
use Rattle.noc_model.specs.declared.Stage.{Stage}
use Rattle.noc_model.specs.declared.Stage.TheVariants.{Idle, Routed, Active}
use Rattle.noc_model.specs.Plan.{Plan, tiles, hosts, link_channels}
use Rattle.noc_model.specs.Sound.{IsSound}
use Rattle.noc_model.specs.declared.ways.Way.{Way}
use Rattle.noc_model.specs.declared.ways.Way.TheVariants.{Local, Plus, Minus}
use Rattle.noc_model.specs.Place.{coords_in, way_of, goes_plus, way_from, route}
use Rattle.noc_model.specs.Tile.{Tile, TileIn}
use Rattle.noc_model.specs.Step.{routed, is_place, winner, taken_channel, activated, leaves, is_tail, front, sent, next_stage, is_open, word_in, next_packet, entry, is_dropped, next_current, comes_in, next_ejected, one_if, tile_step}
use Rattle.noc_model.specs.SoundState.{GoesHome}
use Rattle.noc_model.specs.Same.{GoesOn, IsUnattached}
use Rattle.noc_model.proofs.Coords.{AllPositive, positive, Within, within-coords_in, tile_in-coords_in}
use Rattle.noc_model.specs.Place.{tile_in}
use Rattle.noc_model.proofs.Wave.{way_of-port_of}
use Rattle.noc_model.proofs.HostTiles.{hosts-inside}
use Rattle.noc_model.proofs.Switch.{sent-by, grant-ready}

-- ---- routes

-- no way leads on only where all coordinates are the same
no_way : (torus : Bool) (i : ℕ) (ks xs ys : List ℕ) → Within ks xs → Within ks ys → way_from torus i ks xs ys ≡ Local
    → xs ≡ ys
no_way torus i [] [] [] hx hy e = refl
no_way torus i [] [] (y ∷ ys) hx hy e = absurd hy
no_way torus i [] (x ∷ xs) ys hx hy e = absurd hx
no_way torus i (k ∷ ks) [] ys hx hy e = absurd hx
no_way torus i (k ∷ ks) (x ∷ xs) [] hx hy e = absurd hy
no_way torus i (k ∷ ks) (x ∷ xs) (y ∷ ys) hx hy e = go (x == y) refl e (no_way torus (suc i) ks xs ys hx.1 hy.1)
  where
    turn : (b : Bool) → (if b then Plus i else Minus i) ≡ Local → ⊥
    turn true h = cc h
    turn false h = cc h

    go : (b : Bool) → (x == y) ≡ b
        → (if b then way_from torus (suc i) ks xs ys else (if goes_plus torus k x y then Plus i else Minus i)) ≡ Local
        → (way_from torus (suc i) ks xs ys ≡ Local → xs ≡ ys) → x ∷ xs ≡ y ∷ ys
    go true is h rest =
        let same : x ≡ y = grind (arith, nat_tests, is) in
        ap (λ z. z ∷ xs) same ∙ ap (λ zs. y ∷ zs) (rest h)
    go false is h rest = absurd (turn (goes_plus torus k x y) h)

-- a flit leaves the network only at the tile that it names
pub route-home : (p : Plan) (n dest : ℕ) → AllPositive p.dims → n < tiles p → dest < tiles p → route p n dest ≡ 0
    → n ≡ dest
unfolding route
route-home p n dest positive inside there e =
    let way : Way = way_from p.torus 0 p.dims (coords_in p.dims n) (coords_in p.dims dest) in
    let local : way ≡ Local = sym (way_of-port_of way) ∙ ap way_of e in
    let same =
    no_way p.torus 0 p.dims (coords_in p.dims n) (coords_in p.dims dest) (within-coords_in p.dims n positive) (within-coords_in p.dims dest positive) local in
    sym (tile_in-coords_in p.dims n positive inside) ∙ ap (tile_in p.dims) same
    ∙ tile_in-coords_in p.dims dest positive there

-- ---- packets go on

goes-on : (p : Plan) (d n : ℕ) (fs : List Flit) → IsSound p → n < tiles p → hosts p n d ≡ false → All (GoesHome p d) fs
    → GoesOn (routed p n fs Idle)
goes-on p d n [] sound inside away home = tt
goes-on p d n (f ∷ fs) sound inside away home =
    let first : GoesHome p d f = All-head (GoesHome p d) f fs home in
    λ e. (let same = route-home p n f.dest (positive p.dims sound.sides) inside (hosts-inside p f.dest d sound first) e in
    let here : hosts p n d ≡ true = subst (λ m. hosts p m d ≡ true) (sym same) first in
    cc (here, away))

pub away-step : (p : Plan) (d n : ℕ) (t : ℤ) (s : Tile) (i : TileIn) (port c : ℕ) → IsSound p → n < tiles p
    → hosts p n d ≡ false
    → All (GoesHome p d) (s.queue port c) → GoesOn (s.stage port c) → GoesOn ((tile_step p d n t s i).stage port c)
unfolding tile_step
away-step p d n t s i port c sound inside away home on = go (s.stage port c) on
  where
    go : (st : Stage) → GoesOn st → GoesOn (next_stage p d n t s i port c st)
    go Idle h = goes-on p d n (s.queue port c) sound inside away home
    go (Routed o) h = won (is_place (winner p d n s o) (port * link_channels p d + c)) (taken_channel p d n s o)
      where
        won : (b : Bool) (w : Option ℕ) → GoesOn (activated b o w)
        won false w = h
        won true None = h
        won true (Some w) = h
    go (Active o w) h = left (leaves p d n t s i port c && is_tail (front (s.queue port c)))
      where
        left : (b : Bool) → GoesOn (if b then Idle else Active o w)
        left true = tt
        left false = h

-- ---- the attachment has nothing

pub nothing-ejected : (p : Plan) (d n : ℕ) (t : ℤ) (s : Tile) (i : TileIn) → ((port c : ℕ) → GoesOn (s.stage port c))
    → sent p d n t s i 0 ≡ None
nothing-ejected p d n t s i on = go (sent p d n t s i 0) refl
  where
    onward : (st : Stage) (o w : ℕ) → GoesOn st → st ≡ Active o w → o ≢ 0
    onward st o w h e = subst GoesOn e h

    go : (x : Option LinkFlit) → sent p d n t s i 0 ≡ x → x ≡ None
    go None e = refl
    go (Some x) e =
        let by = sent-by p d n t s i 0 x e in
        let ready = grant-ready p d n t s i by.port by.by by.granted in
        absurd (onward (s.stage by.port by.by.channel) by.by.out by.by.to (on by.port by.by.channel) ready.active by.out)

pub unattached-step : (p : Plan) (d n : ℕ) (t : ℤ) (s : Tile) (i : TileIn) → i.offer ≡ None
    → ((port c : ℕ) → GoesOn (s.stage port c)) → IsUnattached s
    → IsUnattached (tile_step p d n t s i)
unfolding tile_step word_in
unattached-step p d n t s i none on bare =
    let out = nothing-ejected p d n t s i on in
    let word : word_in p s i ≡ None = ap (λ x. if is_open p s then x else None) none ∙ same (is_open p s) in
    record {
      packet = ap (next_packet p d s.packet) word ∙ bare.packet;
      current = ap (λ x. next_current p d s.current (entry p d s.packet x)) word ∙ bare.current;
      dropped = ap (is_dropped p d s.packet) word;
      ejected = ap (λ x. next_ejected x i.hears s.ejected) out ∙ ap (next_ejected None i.hears) bare.ejected ∙ kept i.hears;
      local = λ c. ap (λ fs. drop (one_if (leaves p d n t s i 0 c)) fs ++ comes_in p d s i 0 c) (bare.local c)
          ∙ ap (λ x. drop (one_if (leaves p d n t s i 0 c)) [] ++ (if s.current == c then option_to_list (entry p d s.packet x) else [])) word
          ∙ empty (leaves p d n t s i 0 c) (s.current == c);
    }
  where
    nothing : Option Offer
    nothing = None

    same : (b : Bool) → (if b then nothing else nothing) ≡ nothing
    same true = refl
    same false = refl

    kept : (b : Bool) → next_ejected None b None ≡ None
    kept true = refl
    kept false = refl

    no_flits : List Flit
    no_flits = []

    empty : (b own : Bool) → drop (one_if b) no_flits ++ (if own then no_flits else no_flits) ≡ no_flits
    empty true true = refl
    empty true false = refl
    empty false true = refl
    empty false false = refl
