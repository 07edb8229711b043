-- A tile's run keeps what a run of all tiles keeps, as long as only that comes in which may; and all tiles of a network are such runs.
use Rattle.std.proofs.Common.{◌≡◌, ℕ, zero, suc, ◌+◌, ◌-◌, ◌<◌, ◌≤◌, Bool, true, false, Option, List, [], ◌∷◌, ◌++◌, length, drop, refl, sym, ap, ◌∙◌, subst, arith, ◌==◌, ◌&&◌, ℤ, length-append, length-drop}
use Rattle.std.specs.Prelude.{Some, None, if◌then◌else◌, pos, ◌+ℤ◌, ◌-ℤ◌}
use Rattle.std.proofs.lemmas.Int.{ints}
use Rattle.std.proofs.lemmas.Bool.Decides.{nat_tests}
use Rattle.noc_model.specs.declared.Flit.{Flit}
use Rattle.noc_model.specs.declared.LinkFlit.{LinkFlit}
use Rattle.noc_model.specs.Plan.{Plan, tiles}
use Rattle.noc_model.specs.Sound.{IsSound}
use Rattle.noc_model.specs.Place.{neighbour, opposite, owner}
use Rattle.noc_model.specs.Tile.{Tile, TileIn}
use Rattle.noc_model.specs.Step.{one_if, flit_on, leaves, sent, is_on, comes_in, tile_step}
use Rattle.noc_model.specs.Run.{State, Input, last_place, arrival, pulse_from, return_of, fed, start, step, state_from, run, state_after}
use Rattle.noc_model.specs.Events.{tabulate}
use Rattle.noc_model.specs.Laws.{channel_sum}
use Rattle.noc_model.specs.SoundState.{IsSoundTile}
use Rattle.noc_model.specs.Holder.{IsHeldTile}
use Rattle.noc_model.specs.Reached.{IsReached}
use Rattle.noc_model.specs.TileRun.{tile_after, MayArrive, IsTileIn, AreTileIns, IsWithin}
use Rattle.noc_model.proofs.Coords.{positive}
use Rattle.noc_model.proofs.Switch.{then-is}
use Rattle.noc_model.proofs.Links.{link-from}
use Rattle.noc_model.proofs.Room.{arrival-room, credit-room}
use Rattle.noc_model.proofs.TileKept.{IsSoundIn, tile_step-sound}
use Rattle.noc_model.proofs.StateKept.{start-sound, neighbour-inside, some-channels}
use Rattle.noc_model.proofs.Holders.{held-step}
use Rattle.noc_model.proofs.Kept.{channel_sum-law}
use Rattle.noc_model.proofs.Reached.{start-held, reached-start, reached-next}

-- ---- what a network feeds a tile may come in

fed-arrives : (p : Plan) (d n : ℕ) (t : ℤ) (s : State) (port : ℕ) (x : LinkFlit) → IsSound p → n < tiles p
    → ((m : ℕ) → IsSoundTile p d m t (s m))
    → ((m o k w : ℕ) → m < tiles p → neighbour p m o ≡ Some k → channel_sum p s m o k w ≡ p.buffer)
    → arrival p s n port ≡ Some x → MayArrive p d n t (s n) port x
unfolding arrival
fed-arrives p d n t s port x sound inside tile sum e =
    let come = then-is (λ m. last_place p (s m) (opposite port)) (neighbour p n port) x e in
    let m : ℕ = come.0 in
    let link = link-from p n port m (positive p.dims sound.sides) inside come.1 in
    let some = sound.stages.0 in
    let last : p.stages - 1 + 1 ≡ p.stages = omega (arith, some) in
    let room =
    arrival-room p s m (opposite port) n (p.stages - 1) x (sum m (opposite port) n x.channel (neighbour-inside p n port m (positive p.dims sound.sides) come.1) link.back) (omega (arith, some)) come.2 in
    record {
      from = m;
      linked = come.1;
      owned = subst (λ k. owner p m (opposite port) (t -ℤ pos k) ≡ d) last ((tile m).owned (opposite port) (p.stages - 1) x link.arrives_port come.2);
      channel = (tile m).channel (opposite port) (p.stages - 1) x link.arrives_port come.2;
      room = subst (λ o. length ((s n).queue o x.channel) < p.buffer) link.is_opposite room;
      home = (tile m).on_link (opposite port) (p.stages - 1) x come.2;
    }

fed-returns : (p : Plan) (d n : ℕ) (s : State) (o m w : ℕ)
    → ((n o m w : ℕ) → n < tiles p → neighbour p n o ≡ Some m → channel_sum p s n o m w ≡ p.buffer)
    → n < tiles p → neighbour p n o ≡ Some m → return_of p s n o w ≡ true → (s n).credits o w < p.buffer
unfolding return_of
fed-returns p d n s o m w sum inside link e =
    credit-room p s n o m w (sum n o m w inside link) (sym (ap (λ k. pulse_from s k (opposite o) w) link) ∙ e)

pub fed-may : (p : Plan) (d n : ℕ) (t : ℤ) (s : State) (x : Input) → IsSound p → n < tiles p
    → ((m : ℕ) → IsSoundTile p d m t (s m))
    → ((m o k w : ℕ) → m < tiles p → neighbour p m o ≡ Some k → channel_sum p s m o k w ≡ p.buffer)
    → IsTileIn p d n t (s n) (fed p d s x n)
fed-may p d n t s x sound inside tile sum = record {
  arrives = λ port y e. fed-arrives p d n t s port y sound inside tile sum e;
  returns = λ o m w link below e. fed-returns p d n s o m w sum inside link e;
  offer = λ away. ap (λ b. if b then x.offer n else None) away;
  hears = λ away. ap (λ b. b && x.hears n) away;
}

-- ---- runs, cycle by cycle

-- the state in a cycle is that of a run of the inputs before it
after-from : (p : Plan) (d : ℕ) (xs : ℕ → Input) (u t : ℕ)
    → state_from p d u (state_after p d xs u) (tabulate t (λ k. xs (u + k))) ≡ state_after p d xs (u + t)
after-from p d xs u zero = let e : u ≡ u + 0 = omega arith in ap (state_after p d xs) e
after-from p d xs u (suc t) =
    let first : u + 0 ≡ u = omega arith in
    let later : (k : ℕ) → u + suc k ≡ suc u + k = λ k. omega arith in
    let whole : suc u + t ≡ u + suc t = omega arith in
    ap (λ k. state_from p d (suc u) (step p d (pos u) (state_after p d xs u) (xs k)) (tabulate t (λ k. xs (u + suc k)))) first
    ∙ (λ i. state_from p d (suc u) (state_after p d xs (suc u)) (tabulate t (λ k. xs (later k i))))
    ∙ after-from p d xs (suc u) t ∙ ap (state_after p d xs) whole

pub after-run : (p : Plan) (d : ℕ) (xs : ℕ → Input) (t : ℕ) → state_after p d xs t ≡ run p d (tabulate t xs)
after-run p d xs t =
    let all : (k : ℕ) → 0 + k ≡ k = λ k. omega arith in
    sym ((λ i. state_from p d 0 (start p) (tabulate t (λ k. xs (sym (all k) i)))) ∙ after-from p d xs 0 t ∙ ap (state_after p d xs) (all t))

pub after-reached : (p : Plan) (d : ℕ) (xs : ℕ → Input) (t : ℕ) → IsSound p → d < length p.domains
    → IsReached p d (pos t) (state_after p d xs t)
after-reached p d xs zero sound there = reached-start p d (pos 0) (some-channels p d sound there)
after-reached p d xs (suc t) sound there =
    reached-next p d t (state_after p d xs t) (xs t) sound (after-reached p d xs t sound there)

pub after-sum : (p : Plan) (d : ℕ) (xs : ℕ → Input) (t n o m w : ℕ) → IsSound p → n < tiles p → neighbour p n o ≡ Some m
    → channel_sum p (state_after p d xs t) n o m w ≡ p.buffer
after-sum p d xs t n o m w sound inside e =
    ap (λ s. channel_sum p s n o m w) (after-run p d xs t) ∙ channel_sum-law p d n o m w (tabulate t xs) sound inside e

-- ---- each tile of a network is such a run

-- what a network feeds a tile, cycle by cycle
abbrev pub fed_in : Plan → ℕ → (ℕ → Input) → ℕ → ℕ → TileIn
fed_in p d xs n t = fed p d (state_after p d xs t) (xs t) n

pub after-tile : (p : Plan) (d : ℕ) (xs : ℕ → Input) (n t : ℕ)
    → state_after p d xs t n ≡ tile_after p d n (fed_in p d xs n) t
unfolding step
after-tile p d xs n zero = refl
after-tile p d xs n (suc t) = ap (λ s. tile_step p d n (pos t) s (fed_in p d xs n t)) (after-tile p d xs n t)

pub fed-all : (p : Plan) (d : ℕ) (xs : ℕ → Input) (n : ℕ) → IsSound p → d < length p.domains → n < tiles p
    → AreTileIns p d n (fed_in p d xs n)
fed-all p d xs n sound there inside t =
    subst (λ s. IsTileIn p d n (pos t) s (fed_in p d xs n t)) (after-tile p d xs n t)
    (fed-may p d n (pos t) (state_after p d xs t) (xs t) sound inside (after-reached p d xs t sound there).sound (λ m o k w m_inside e. after-sum p d xs t m o k w sound m_inside e))

-- ---- what a tile's run keeps

may-sound : (p : Plan) (d n : ℕ) (t : ℤ) (s : Tile) (i : TileIn) → IsTileIn p d n t s i → IsSoundIn p d n i
may-sound p d n t s i may = record {
  arrives = λ port x e. (may.arrives port x e).home;
  unlinked = λ port none. go port none (i.arrives port) refl;
}
  where
    go : (port : ℕ) → neighbour p n port ≡ None → (x : Option LinkFlit) → i.arrives port ≡ x → x ≡ None
    go port none None e = refl
    go port none (Some x) e = absurd (let link = (may.arrives port x e).linked in cc (link, none))

-- a flit that arrives finds room
list-within : (buffer k c : ℕ) (fs : List Flit) (x : Option LinkFlit) → length fs ≤ buffer
    → ((y : LinkFlit) → x ≡ Some y → y.channel ≡ c → length fs < buffer)
    → length (drop k fs ++ flit_on x c) ≤ buffer
list-within buffer k c fs None fits room = rw (length-append, length-drop) (omega arith)
list-within buffer k c fs (Some y) fits room = go (y.channel == c) refl
  where
    go : (b : Bool) → (y.channel == c) ≡ b → length (drop k fs ++ (if b then y.flit ∷ [] else [])) ≤ buffer
    go false e = rw (length-append, length-drop) (omega arith)
    go true e =
        let same : y.channel ≡ c = grind (arith, nat_tests, e) in
        let some = room y refl same in
        rw (length-append, length-drop) (omega arith)

credit-within : (buffer credits : ℕ) (comes goes : Bool) → credits ≤ buffer → (comes ≡ true → credits < buffer)
    → credits + one_if comes - one_if goes ≤ buffer
credit-within buffer credits false goes fits room = omega arith
credit-within buffer credits true goes fits room = let some = room refl in omega arith

pub within-step : (p : Plan) (d n : ℕ) (t : ℤ) (s : Tile) (i : TileIn) → IsTileIn p d n t s i
    → IsSoundTile p d n (t +ℤ pos 1) (tile_step p d n t s i) → IsWithin p d n s
    → IsWithin p d n (tile_step p d n t s i)
unfolding tile_step
within-step p d n t s i may next within = record {
  lists = λ port c. lists port c;
  credits = λ o m w link below. credit-within p.buffer (s.credits o w) (i.returns o w) (is_on (sent p d n t s i o) w) (within.credits o m w link below) (may.returns o m w link below);
}
  where
    lists : (port c : ℕ)
        → length (drop (one_if (leaves p d n t s i port c)) (s.queue port c) ++ comes_in p d s i port c) ≤ p.buffer
    lists zero c = next.local c
    lists (suc port) c =
        list-within p.buffer (one_if (leaves p d n t s i (suc port) c)) c (s.queue (suc port) c) (i.arrives (suc port)) (within.lists (suc port) c)
        (λ y e same. subst (λ k. length (s.queue (suc port) k) < p.buffer) same (may.arrives (suc port) y e).room)

-- what holds of a tile in cycle t of its run
pub record IsReachedTile (p : Plan) (d n : ℕ) (t : ℤ) (s : Tile) : Type 0 where
  pub sound : IsSoundTile p d n t s
  pub held : IsHeldTile p d n s
  pub within : IsWithin p d n s

pub reached-tile : (p : Plan) (d n : ℕ) (t : ℤ) (s : Tile) (i : TileIn) → IsSound p → IsTileIn p d n t s i
    → IsReachedTile p d n t s → IsReachedTile p d n (t +ℤ pos 1) (tile_step p d n t s i)
reached-tile p d n t s i sound may reached =
    let next = tile_step-sound p d n t s i (positive p.dims sound.sides) reached.sound (may-sound p d n t s i may) in
    record {
      sound = next;
      held = held-step p d n t s i reached.held reached.sound.unlinked;
      within = within-step p d n t s i may next reached.within;
    }

pub run-tile : (p : Plan) (d n : ℕ) (is : ℕ → TileIn) → IsSound p → d < length p.domains → AreTileIns p d n is → (t : ℕ)
    → IsReachedTile p d n (pos t) (tile_after p d n is t)
run-tile p d n is sound there may zero = record {
  sound = start-sound p d n (pos 0) (some-channels p d sound there);
  held = start-held p d n;
  within = record { lists = λ port c. omega arith; credits = λ o m w link below. omega arith };
}
run-tile p d n is sound there may (suc t) =
    let next : pos t +ℤ pos 1 ≡ pos (suc t) = omega (arith, ints) in
    subst (λ z. IsReachedTile p d n z (tile_after p d n is (suc t))) next
    (reached-tile p d n (pos t) (tile_after p d n is t) (is t) sound (may t) (run-tile p d n is sound there may t))
