-- A tile's step keeps what holds of the tile.
use Rattle.std.proofs.Common.{◌≡◌, ◌≢◌, ℕ, zero, suc, ◌+◌, ◌*◌, ◌%◌, ◌<◌, ◌≤◌, Bool, true, false, Option, List, [], ◌∷◌, ◌++◌, length, drop, refl, ap, arith, ◌==◌, ◌&&◌, ℤ, length-append, length-drop}
use Rattle.std.specs.Prelude.{Some, None, if◌then◌else◌, nat_lt, option_to_list, All, pos, ◌+ℤ◌, ◌-ℤ◌}
use Rattle.std.proofs.Math.Nat.{mod-lt}
use Rattle.std.proofs.lemmas.Bool.Decides.{nat_tests}
use Rattle.std.proofs.lemmas.List.Elements.{All-nil, All-cons, All-head, All-append, All-drop}
use Rattle.noc_model.specs.declared.Flit.{Flit}
use Rattle.noc_model.specs.declared.LinkFlit.{LinkFlit}
use Rattle.noc_model.specs.declared.Offer.{Offer}
use Rattle.noc_model.specs.declared.Range.{Range}
use Rattle.noc_model.specs.declared.Stage.{Stage}
use Rattle.noc_model.specs.declared.Stage.TheVariants.{Idle, Routed, Active}
use Rattle.noc_model.specs.declared.Packet.{Packet}
use Rattle.noc_model.specs.declared.Packet.TheVariants.{Between, Passing, Dropping}
use Rattle.noc_model.specs.Plan.{Plan, channels, link_channels, out_channels, hosts, hosted_tile, range_of}
use Rattle.noc_model.specs.Place.{neighbour, owner}
use Rattle.noc_model.specs.Tile.{Tile, TileIn}
use Rattle.noc_model.specs.Step.{routed, is_place, winner, taken_channel, activated, leaves, is_tail, front, sent, next_stage, shifted, is_ready_packet, is_open, word_in, goes_to, packet_for, next_packet, entry, entry_of, is_first, next_current, comes_in, flit_on, next_ejected, one_if, tile_step}
use Rattle.noc_model.specs.SoundState.{GoesHome, HasOutput, IsSoundPacket, IsSoundTile}
use Rattle.noc_model.proofs.Coords.{AllPositive}
use Rattle.noc_model.proofs.Outputs.{route-output, taken-channel_few}
use Rattle.noc_model.proofs.Switch.{grant-ready, sent-by}
use Rattle.noc_model.proofs.SharedRows.{sent-owner, filled-next, filled-now}

-- what arrives goes to tiles that host the domain, and only by links
pub record IsSoundIn (p : Plan) (d n : ℕ) (i : TileIn) : Type 0 where
  pub arrives : (port : ℕ) (x : LinkFlit) → i.arrives port ≡ Some x → GoesHome p d x.flit
  pub unlinked : (port : ℕ) → neighbour p n port ≡ None → i.arrives port ≡ None

-- ---- what enters

hosted_tile-home : (p : Plan) (d dest : ℕ) (o : Option Range) → hosted_tile p d o ≡ Some dest → hosts p dest d ≡ true
hosted_tile-home p d dest None e = absurd (cc e)
hosted_tile-home p d dest (Some r) e = go (hosts p r.tile d) refl e
  where
    go : (b : Bool) → hosts p r.tile d ≡ b → (if b then Some r.tile else None) ≡ Some dest → hosts p dest d ≡ true
    go true is e = let same : r.tile ≡ dest = cc in rw (← same) is
    go false is e = absurd (cc e)

goes_to-home : (p : Plan) (d dest : ℕ) (k : Packet) (x : Offer) → IsSoundPacket p d k → goes_to p d k x ≡ Some dest
    → hosts p dest d ≡ true
goes_to-home p d dest Between x sound e = hosted_tile-home p d dest (range_of p x.address) e
goes_to-home p d dest (Passing to) x sound e = let same : to ≡ dest = cc in rw (← same) sound
goes_to-home p d dest Dropping x sound e = absurd (cc e)

entry-home : (p : Plan) (d : ℕ) (k : Packet) (word : Option Offer) (f : Flit) → IsSoundPacket p d k
    → entry p d k word ≡ Some f → GoesHome p d f
entry-home p d k None f sound e = absurd (cc e)
entry-home p d k (Some x) f sound e = go (goes_to p d k x) refl e
  where
    go : (o : Option ℕ) → goes_to p d k x ≡ o → entry_of k x o ≡ Some f → GoesHome p d f
    go None is e = absurd (cc e)
    go (Some dest) is e =
        let made : record { head = is_first k; tail = x.last; dest = dest; payload = x.payload } ≡ f = cc in
        let same : dest ≡ f.dest = ap (λ (g : Flit). g.dest) made in
        rw (← same) (goes_to-home p d dest k x sound is)

one-home : (p : Plan) (d : ℕ) (f : Flit) → GoesHome p d f → All (GoesHome p d) (f ∷ [])
one-home p d f h = All-cons (GoesHome p d) f [] h (All-nil (GoesHome p d))

option-home : (p : Plan) (d : ℕ) (o : Option Flit) → ((f : Flit) → o ≡ Some f → GoesHome p d f)
    → All (GoesHome p d) (option_to_list o)
option-home p d None h = All-nil (GoesHome p d)
option-home p d (Some f) h = one-home p d f (h f refl)

flit_on-home : (p : Plan) (d c : ℕ) (o : Option LinkFlit) → ((x : LinkFlit) → o ≡ Some x → GoesHome p d x.flit)
    → All (GoesHome p d) (flit_on o c)
flit_on-home p d c None h = All-nil (GoesHome p d)
flit_on-home p d c (Some x) h = go (x.channel == c)
  where
    go : (b : Bool) → All (GoesHome p d) (if b then x.flit ∷ [] else [])
    go true = one-home p d x.flit (h x refl)
    go false = All-nil (GoesHome p d)

comes_in-home : (p : Plan) (d : ℕ) (s : Tile) (i : TileIn) (port c : ℕ) → IsSoundPacket p d s.packet
    → ((port : ℕ) (x : LinkFlit) → i.arrives port ≡ Some x → GoesHome p d x.flit)
    → All (GoesHome p d) (comes_in p d s i port c)
comes_in-home p d s i zero c packet arrives = go (s.current == c)
  where
    go : (b : Bool) → All (GoesHome p d) (if b then option_to_list (entry p d s.packet (word_in p s i)) else [])
    go true =
        option-home p d (entry p d s.packet (word_in p s i)) (λ f e. entry-home p d s.packet (word_in p s i) f packet e)
    go false = All-nil (GoesHome p d)
comes_in-home p d s i (suc port) c packet arrives = flit_on-home p d c (i.arrives (suc port)) (arrives (suc port))

-- ---- what is sent

front-home : (p : Plan) (d : ℕ) (fs : List Flit) (f : Flit) → All (GoesHome p d) fs → front fs ≡ Some f → GoesHome p d f
front-home p d [] f all e = absurd (cc e)
front-home p d (g ∷ fs) f all e = let same : g ≡ f = cc in rw (← same) (All-head (GoesHome p d) g fs all)

sent-home : (p : Plan) (d n : ℕ) (t : ℤ) (s : Tile) (i : TileIn) (o : ℕ) (x : LinkFlit)
    → ((port c : ℕ) → All (GoesHome p d) (s.queue port c))
    → sent p d n t s i o ≡ Some x → GoesHome p d x.flit
sent-home p d n t s i o x queued e =
    let by = sent-by p d n t s i o x e in
    front-home p d (s.queue by.port by.by.channel) x.flit (queued by.port by.by.channel) by.is_front

active-few : (p : Plan) (d n : ℕ) (st : Stage) (o w : ℕ) → HasOutput p d n st → st ≡ Active o w → w < out_channels p d o
active-few p d n Idle o w h e = absurd (cc e)
active-few p d n (Routed to) o w h e = absurd (cc e)
active-few p d n (Active to v) o w h e = let out : to ≡ o = cc in let at : v ≡ w = cc in rw (← out, ← at) h.1

link-channel_few : (p : Plan) (d o w : ℕ) → o ≢ 0 → w < out_channels p d o → w < link_channels p d
link-channel_few p d zero w link h = absurd (link refl)
link-channel_few p d (suc o) w link h = h

few-there : (p : Plan) (d o o' w w' : ℕ) → o' ≡ o → w' ≡ w → w' < out_channels p d o' → w < out_channels p d o
few-there p d o o' w w' out to few = rw (← out, ← to) few

sent-channel : (p : Plan) (d n : ℕ) (t : ℤ) (s : Tile) (i : TileIn) (o : ℕ) (x : LinkFlit)
    → ((port c : ℕ) → HasOutput p d n (s.stage port c))
    → o ≢ 0 → sent p d n t s i o ≡ Some x → x.channel < link_channels p d
sent-channel p d n t s i o x stages link e =
    let by = sent-by p d n t s i o x e in
    let ready = grant-ready p d n t s i by.port by.by by.granted in
    let few =
    active-few p d n (s.stage by.port by.by.channel) by.by.out by.by.to (stages by.port by.by.channel) ready.active in
    link-channel_few p d o x.channel link (few-there p d o by.by.out x.channel by.by.to by.out by.to few)

-- ---- the parts of a step

next_stage-sound : (p : Plan) (d n : ℕ) (t : ℤ) (s : Tile) (i : TileIn) (port c : ℕ) (st : Stage) → AllPositive p.dims
    → HasOutput p d n st → HasOutput p d n (next_stage p d n t s i port c st)
next_stage-sound p d n t s i port c Idle positive h = go (s.queue port c)
  where
    go : (fs : List Flit) → HasOutput p d n (routed p n fs Idle)
    go [] = tt
    go (f ∷ fs) = route-output p n f.dest positive
next_stage-sound p d n t s i port c (Routed o) positive h = go (is_place (winner p d n s o) (port * link_channels p d + c)) (taken_channel p d n s o) refl
  where
    go : (b : Bool) (w : Option ℕ) → taken_channel p d n s o ≡ w → HasOutput p d n (activated b o w)
    go false w e = h
    go true None e = h
    go true (Some w) e = (h, taken-channel_few p d n s o w e)
next_stage-sound p d n t s i port c (Active o w) positive h = go (leaves p d n t s i port c && is_tail (front (s.queue port c)))
  where
    go : (b : Bool) → HasOutput p d n (if b then Idle else Active o w)
    go true = tt
    go false = h

next_packet-sound : (p : Plan) (d : ℕ) (k : Packet) (word : Option Offer) → IsSoundPacket p d k
    → IsSoundPacket p d (next_packet p d k word)
next_packet-sound p d k None h = h
next_packet-sound p d k (Some x) h = go x.last (goes_to p d k x) refl
  where
    go : (b : Bool) (o : Option ℕ) → goes_to p d k x ≡ o → IsSoundPacket p d (if b then Between else packet_for o)
    go true o e = tt
    go false None e = tt
    go false (Some dest) e = goes_to-home p d dest k x h e

next_current-few : (p : Plan) (d current : ℕ) (f : Option Flit) → current < channels p d
    → next_current p d current f < channels p d
next_current-few p d current None h = h
next_current-few p d current (Some f) h = go f.tail
  where
    go : (b : Bool) → (if b then (current + 1) % channels p d else current) < channels p d
    go true = let some : 0 < channels p d = omega arith in mod-lt (current + 1) some
    go false = h

next_ejected-home : (p : Plan) (d : ℕ) (o : Option LinkFlit) (hears : Bool) (old : Option Flit) (f : Flit)
    → ((x : LinkFlit) → o ≡ Some x → GoesHome p d x.flit)
    → ((g : Flit) → old ≡ Some g → GoesHome p d g) → next_ejected o hears old ≡ Some f → GoesHome p d f
next_ejected-home p d (Some x) hears old f new kept e = let same : x.flit ≡ f = cc in rw (← same) (new x refl)
next_ejected-home p d None true old f new kept e = absurd (cc e)
next_ejected-home p d None false old f new kept e = kept f e

-- a flit that enters finds room
entry-room : (p : Plan) (d : ℕ) (s : Tile) (i : TileIn) (f : Flit) → entry p d s.packet (word_in p s i) ≡ Some f
    → length (s.queue 0 s.current) < p.buffer
unfolding word_in is_open
entry-room p d s i f e = go s.packet i.offer e
  where
    taken : (b : Bool) (k : Packet) (x : Option Offer) → entry p d k (if b then x else None) ≡ Some f → b ≡ true
    taken true k x e = refl
    taken false k x e = absurd (cc e)

    none : (b : Bool) (x : Option Offer) → entry p d Dropping (if b then x else None) ≡ Some f → ⊥
    none true None e = cc e
    none true (Some x) e = cc e
    none false x e = cc e

    below : (a b : ℕ) → nat_lt a b ≡ true → a < b
    below a b e = grind (arith, nat_tests)

    go : (k : Packet) (x : Option Offer)
        → entry p d k (if is_ready_packet k (length (s.queue 0 s.current)) p.buffer then x else None) ≡ Some f
        → length (s.queue 0 s.current) < p.buffer
    go Between x e =
        below (length (s.queue 0 s.current)) p.buffer (taken (nat_lt (length (s.queue 0 s.current)) p.buffer) Between x e)
    go (Passing dest) x e =
        below (length (s.queue 0 s.current)) p.buffer (taken (nat_lt (length (s.queue 0 s.current)) p.buffer) (Passing dest) x e)
    go Dropping x e = absurd (none true x e)

local-fits : (p : Plan) (d : ℕ) (s : Tile) (i : TileIn) (k c : ℕ) → length (s.queue 0 c) ≤ p.buffer
    → length (drop k (s.queue 0 c) ++ comes_in p d s i 0 c) ≤ p.buffer
local-fits p d s i k c h = go (s.current == c) refl (entry p d s.packet (word_in p s i)) refl
  where
    go : (b : Bool) → (s.current == c) ≡ b → (o : Option Flit) → entry p d s.packet (word_in p s i) ≡ o
        → length (drop k (s.queue 0 c) ++ (if s.current == c then option_to_list (entry p d s.packet (word_in p s i)) else [])) ≤ p.buffer
    go false e o is = rw (e, length-append, length-drop) (omega arith)
    go true e None is = rw (e, is, length-append, length-drop) (omega arith)
    go true e (Some f) is =
        let room = entry-room p d s i f is in
        let at : s.current ≡ c = grind (arith, nat_tests, e) in
        let here : length (s.queue 0 c) < p.buffer = rw (← at) room in
        rw (e, is, length-append, length-drop) (omega arith)

drop-empty : (k : ℕ) (fs : List Flit) → fs ≡ [] → drop k fs ++ [] ≡ []
drop-empty zero fs e = rw e refl
drop-empty (suc k) fs e = rw e refl

unlinked-empty : (p : Plan) (d : ℕ) (s : Tile) (i : TileIn) (k port c : ℕ) → port ≢ 0 → s.queue port c ≡ []
    → i.arrives port ≡ None
    → drop k (s.queue port c) ++ comes_in p d s i port c ≡ []
unlinked-empty p d s i k zero c link empty none = absurd (link refl)
unlinked-empty p d s i k (suc port) c link empty none = rw (empty, none) (drop-empty k [] refl)

shifted-all : (P : ℕ → LinkFlit → Type 0) (x : Option LinkFlit) (row : ℕ → Option LinkFlit)
    → ((y : LinkFlit) → x ≡ Some y → P 0 y)
    → ((i : ℕ) (y : LinkFlit) → row i ≡ Some y → P (suc i) y) → (i : ℕ) (y : LinkFlit) → shifted x row i ≡ Some y
    → P i y
shifted-all P x row first rest zero y e = first y e
shifted-all P x row first rest (suc i) y e = rest i y e

-- ---- the step

pub tile_step-sound : (p : Plan) (d n : ℕ) (t : ℤ) (s : Tile) (i : TileIn) → AllPositive p.dims → IsSoundTile p d n t s
    → IsSoundIn p d n i
    → IsSoundTile p d n (t +ℤ pos 1) (tile_step p d n t s i)
unfolding tile_step
tile_step-sound p d n t s i positive sound come = record {
  queued = λ port c. All-append (GoesHome p d) (drop (one_if (leaves p d n t s i port c)) (s.queue port c)) (comes_in p d s i port c)
      (All-drop (GoesHome p d) (one_if (leaves p d n t s i port c)) (s.queue port c) (sound.queued port c))
      (comes_in-home p d s i port c sound.packet come.arrives);
  on_link = λ o. shifted-all (λ k y. GoesHome p d y.flit) (sent p d n t s i o) (s.row o) (λ y e. sent-home p d n t s i o y sound.queued e) (sound.on_link o);
  waiting = λ f e. next_ejected-home p d (sent p d n t s i 0) i.hears s.ejected f (λ x is. sent-home p d n t s i 0 x sound.queued is) sound.waiting e;
  packet = next_packet-sound p d s.packet (word_in p s i) sound.packet;
  stages = λ port c. next_stage-sound p d n t s i port c (s.stage port c) positive (sound.stages port c);
  channel = λ o k x link e. shifted-all (λ k y. y.channel < link_channels p d) (sent p d n t s i o) (s.row o) (λ y is. sent-channel p d n t s i o y sound.stages link is)
      (λ j y is. sound.channel o j y link is) k x e;
  owned = λ o k x link e. shifted-all (λ j y. owner p n o ((t +ℤ pos 1) -ℤ pos (j + 1)) ≡ d) (sent p d n t s i o) (s.row o)
      (λ y is. rw (filled-now t) (sent-owner p d n t s i o y link is))
      (λ j y is. rw (filled-next t j) (sound.owned o j y link is)) k x e;
  current = next_current-few p d s.current (entry p d s.packet (word_in p s i)) sound.current;
  local = λ c. local-fits p d s i (one_if (leaves p d n t s i 0 c)) c (sound.local c);
  unlinked = λ port c link none. unlinked-empty p d s i (one_if (leaves p d n t s i port c)) port c link (sound.unlinked port c link none) (come.unlinked port none);
}
