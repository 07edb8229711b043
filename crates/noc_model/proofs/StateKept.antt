-- What holds in every state of every run.
use Rattle.std.proofs.Common.{◌≡◌, ◌≢◌, ℕ, zero, suc, ◌+◌, ◌-◌, ◌<◌, ◌≤◌, true, Option, List, [], ◌∷◌, length, refl, arith, ℤ}
use Rattle.std.specs.Prelude.{Some, None, slice_set, pos, ◌+ℤ◌}
use Rattle.std.proofs.lemmas.Int.{ints}
use Rattle.std.proofs.lemmas.List.Elements.{All-nil}
use Rattle.std.proofs.lemmas.Option.{slice_get-get_or}
use Rattle.noc_model.specs.declared.plan.DomainPart.{DomainPart}
use Rattle.noc_model.specs.declared.LinkFlit.{LinkFlit}
use Rattle.noc_model.specs.Plan.{Plan, tiles, channels}
use Rattle.noc_model.specs.Sound.{IsSound}
use Rattle.noc_model.specs.declared.ways.Way.{Way}
use Rattle.noc_model.specs.declared.ways.Way.TheVariants.{Local, Plus, Minus}
use Rattle.noc_model.specs.Place.{coords_in, tile_in, way_of, side, coord, has_link, tile_that_way, neighbour, opposite, next_in, last_in}
use Rattle.noc_model.specs.Run.{State, Input, start, step, state_from, run, arrival, last_place, fed}
use Rattle.noc_model.specs.SoundState.{GoesHome, IsSoundTile, IsSoundState}
use Rattle.noc_model.proofs.Coords.{AllPositive, positive, within-set, within-coords_in, next-below, last-below}
use Rattle.noc_model.proofs.Plans.{tile_in-below}
use Rattle.noc_model.proofs.Wave.{neighbour-is, plus-some, minus-some, coord-below}
use Rattle.noc_model.proofs.Links.{link-from}
use Rattle.noc_model.proofs.Switch.{then-is}
use Rattle.noc_model.proofs.Kept.{channel_sum-law}
use Rattle.noc_model.proofs.TileKept.{IsSoundIn, tile_step-sound}

-- ---- tiles

arrival-home : (p : Plan) (d n port : ℕ) (t : ℤ) (s : State) (x : LinkFlit) → ((m : ℕ) → IsSoundTile p d m t (s m))
    → arrival p s n port ≡ Some x → GoesHome p d x.flit
unfolding arrival
arrival-home p d n port t s x sound e =
    let from = then-is (λ m. last_place p (s m) (opposite port)) (neighbour p n port) x e in
    (sound from.0).on_link (opposite port) (p.stages - 1) x from.2

pub arrival-none : (p : Plan) (s : State) (n port : ℕ) → neighbour p n port ≡ None → arrival p s n port ≡ None
unfolding arrival
arrival-none p s n port none = rw none refl

pub fed-sound : (p : Plan) (d n : ℕ) (t : ℤ) (s : State) (x : Input) → ((m : ℕ) → IsSoundTile p d m t (s m))
    → IsSoundIn p d n (fed p d s x n)
fed-sound p d n t s x sound = record {
  arrives = λ port y e. arrival-home p d n port t s y sound e;
  unlinked = λ port none. arrival-none p s n port none;
}

pub tiles-step : (p : Plan) (d : ℕ) (t : ℤ) (s : State) (x : Input) → AllPositive p.dims
    → ((m : ℕ) → IsSoundTile p d m t (s m))
    → (n : ℕ) → IsSoundTile p d n (t +ℤ pos 1) (step p d t s x n)
unfolding step
tiles-step p d t s x positive sound n =
    tile_step-sound p d n t (s n) (fed p d s x n) positive (sound n) (fed-sound p d n t s x sound)

pub tiles-from : (p : Plan) (d : ℕ) → AllPositive p.dims → (t : ℕ) (s : State) (xs : List Input)
    → ((m : ℕ) → IsSoundTile p d m (pos t) (s m))
    → (n : ℕ) → IsSoundTile p d n (pos (t + length xs)) (state_from p d t s xs n)
tiles-from p d positive t s [] sound n = let e : t + 0 ≡ t = omega arith in rw e (sound n)
tiles-from p d positive t s (x ∷ xs) sound n =
    let e : t + suc (length xs) ≡ suc t + length xs = omega arith in
    let next : pos t +ℤ pos 1 ≡ pos (suc t) = omega (arith, ints) in
    let stepped : (m : ℕ) → IsSoundTile p d m (pos (suc t)) (step p d (pos t) s x m) =
    λ m. (let here = tiles-step p d (pos t) s x positive sound m in rw next at here) in
    rw e (tiles-from p d positive (suc t) (step p d (pos t) s x) xs stepped n)

pub start-sound : (p : Plan) (d n : ℕ) (t : ℤ) → 0 < channels p d → IsSoundTile p d n t (start p n)
start-sound p d n t some = record {
  queued = λ port c. All-nil (GoesHome p d);
  on_link = λ o i x e. absurd (cc e);
  waiting = λ f e. absurd (cc e);
  packet = tt;
  stages = λ port c. tt;
  channel = λ o i x link e. absurd (cc e);
  owned = λ o i x link e. absurd (cc e);
  current = some;
  local = λ c. omega arith;
  unlinked = λ port c link none. refl;
}

-- each domain has a channel
pub some-channels : (p : Plan) (d : ℕ) → IsSound p → d < length p.domains → 0 < channels p d
some-channels p d sound there =
    let x : DomainPart = record { name = []; channels = 0 } in
    rw (slice_get-get_or p.domains d x there) (sound.channels d x there).0

-- ---- links

moved-inside : (p : Plan) (n i y : ℕ) → AllPositive p.dims → y < side p i
    → tile_in p.dims (slice_set (coords_in p.dims n) i y) < tiles p
unfolding side
moved-inside p n i y positive below =
    tile_in-below p.dims (slice_set (coords_in p.dims n) i y) (within-set p.dims (coords_in p.dims n) i y (within-coords_in p.dims n positive) below)

way-inside : (p : Plan) (n : ℕ) (w : Way) → AllPositive p.dims → has_link p n w ≡ true → tile_that_way p n w < tiles p
way-inside p n Local positive h = absurd (cc h)
way-inside p n (Plus i) positive h =
    moved-inside p n i (next_in (side p i) (coord p n i)) positive (next-below (side p i) (coord p n i) (coord-below p n i positive (plus-some p n i h).0))
way-inside p n (Minus i) positive h =
    moved-inside p n i (last_in (side p i) (coord p n i)) positive (last-below (side p i) (coord p n i) (coord-below p n i positive (minus-some p n i h).0))

pub neighbour-inside : (p : Plan) (n port m : ℕ) → AllPositive p.dims → neighbour p n port ≡ Some m → m < tiles p
neighbour-inside p n port m positive e =
    let is = neighbour-is p n port m e in
    rw (← is.1) (way-inside p n (way_of port) positive is.0)

-- ---- states

list-fits : (p : Plan) (d : ℕ) (xs : List Input) (n port c : ℕ) → IsSound p → n < tiles p
    → ((m : ℕ) → IsSoundTile p d m (pos (length xs)) (run p d xs m))
    → length ((run p d xs n).queue port c) ≤ p.buffer
list-fits p d xs n zero c sound inside tile = (tile n).local c
list-fits p d xs n (suc port) c sound inside tile = go (neighbour p n (suc port)) refl
  where
    link : suc port ≢ 0
    link e = omega arith

    go : (o : Option ℕ) → neighbour p n (suc port) ≡ o → length ((run p d xs n).queue (suc port) c) ≤ p.buffer
    go None e = let empty = (tile n).unlinked (suc port) c link e in rw empty (omega arith)
    go (Some m) e =
        let ends = link-from p n (suc port) m (positive p.dims sound.sides) inside e in
        let sum =
        channel_sum-law p d m (opposite (suc port)) n c xs sound (neighbour-inside p n (suc port) m (positive p.dims sound.sides) e) ends.back in
        let sum' = rw ends.is_opposite at sum in
        omega (arith, sum')

-- every state of every run of a domain is sound
pub run-sound : (p : Plan) (d : ℕ) (xs : List Input) → IsSound p → d < length p.domains
    → IsSoundState p d (pos (length xs)) (run p d xs)
run-sound p d xs sound there = record {
  tile = tile;
  lists = λ n port c inside. list-fits p d xs n port c sound inside tile;
  credits = λ n o m w inside e. (let sum = channel_sum-law p d n o m w xs sound inside e in omega (arith, sum));
}
  where
    tile : (n : ℕ) → IsSoundTile p d n (pos (length xs)) (run p d xs n)
    tile n =
        let from =
        tiles-from p d (positive p.dims sound.sides) 0 (start p) xs (λ m. start-sound p d m (pos 0) (some-channels p d sound there)) n in
        let e : 0 + length xs ≡ length xs = omega arith in
        rw e at from
