-- A domain's network reads nothing of a plan but the domain's own part.
use Rattle.std.proofs.Common.{◌≡◌, ℕ, zero, suc, ◌+◌, ◌*◌, ◌-◌, ◌/◌, ◌%◌, ◌<◌, ◌≤◌, ◌⊎◌, inl, inr, false, List, [], ◌∷◌, ◌++◌, length, drop, refl, sym, ap, ◌∙◌, arith, ◌==◌, ◌&&◌, ◌||◌, if◌then◌else◌, Option, ℤ}
use Rattle.std.specs.Prelude.{Some, None, slice_index, filter, pos, flat_map, nat_lt, not, is_none, is_some, option_map, option_and_then, option_to_list, ◌-ℤ◌, ◌+ℤ◌}
use Rattle.std.proofs.lemmas.List.{get_or_past}
use Rattle.noc_model.specs.declared.plan.DomainPart.{DomainPart}
use Rattle.noc_model.specs.declared.Host.{Host}
use Rattle.noc_model.specs.declared.Range.{Range}
use Rattle.noc_model.specs.declared.Offer.{Offer}
use Rattle.noc_model.specs.declared.Flit.{Flit}
use Rattle.noc_model.specs.declared.Stage.{Stage}
use Rattle.noc_model.specs.declared.Stage.TheVariants.{Idle, Routed, Active}
use Rattle.noc_model.specs.declared.Packet.{Packet}
use Rattle.noc_model.specs.declared.Packet.TheVariants.{Between, Passing, Dropping}
use Rattle.noc_model.specs.Plan.{Plan, product, channels, classes, ports, hosts, hosted_tile, range_of, at_local, hop}
use Rattle.noc_model.specs.declared.ways.Way.{Way}
use Rattle.noc_model.specs.declared.ways.Way.TheVariants.{Local, Plus, Minus}
use Rattle.noc_model.specs.Place.{modulo, neighbour, owner, slot_of, way_of, wave, side, coord, route, class_after, is_wrap}
use Rattle.noc_model.specs.Pick.{pick, least}
use Rattle.noc_model.specs.Tile.{Tile, TileIn, start_tile}
use Rattle.noc_model.specs.Step.{waits_for, free_for, winner, is_place, taken_channel, activated, takes, is_ready_at, grant_at, asked, asks_for, chosen, granted_to, grant, is_channel, leaves, front, with_channel, sent, is_on, is_tail_on, is_tail, one_if, next_stage, shifted, is_ready_packet, is_open, word_in, goes_to, packet_for, next_packet, entry_of, entry, is_dropped, next_current, comes_in, after, after_grant, next_ejected, tile_step}
use Rattle.noc_model.specs.Run.{State, Input, arrival, return_of, fed, step, start, state_from, run, state_after}
use Rattle.noc_model.specs.Events.{ejected_of, offer_events, drop_events, got_events, tabulate, hosts_of, cycle_events, events_from}
use Rattle.noc_model.specs.Outs.{attach_out, outs}
use Rattle.noc_model.specs.OwnPart.{HaveOwnPart}

-- the plan with other lists where other domains stand too
abbrev with_lists : Plan → List DomainPart → List Host → List ℕ → Plan
with_lists q xs hs ss = record q { domains = xs; hosts = hs; slots = ss }

-- what is equal field by field is equal
same-plan : (p q : Plan) (d : ℕ) → HaveOwnPart p q d → p ≡ with_lists q p.domains p.hosts p.slots
same-plan p q d e = λ i. record {
  torus = e.torus i;
  dims = e.dims i;
  stages = e.stages i;
  buffer = e.buffer i;
  domains = p.domains;
  hosts = p.hosts;
  ranges = e.ranges i;
  slots = p.slots;
}

-- the lists have one own part
pub record HaveOwnLists (q : Plan) (d : ℕ) (xs : List DomainPart) (hs : List Host) (ss : List ℕ) : Type 0 where
  pub slot_count : length ss ≡ length q.slots
  pub own_slots : (i : ℕ) → (slice_index ss i == d) ≡ (slice_index q.slots i == d)
  pub channel_count : channels (with_lists q xs hs ss) d ≡ channels q d
  pub host_tiles : (n : ℕ) → hosts (with_lists q xs hs ss) n d ≡ hosts q n d

-- past the slots there is none
own-slot : (d : ℕ) (xs ys : List ℕ) → length xs ≡ length ys
    → ((i : ℕ) → i < length xs → (slice_index xs i == d) ≡ (slice_index ys i == d))
    → (i : ℕ) → (slice_index xs i == d) ≡ (slice_index ys i == d)
own-slot d xs ys count own i = go order
  where
    order : (i < length xs) ⊎ (length xs ≤ i)
    order = grind arith

    go : (i < length xs) ⊎ (length xs ≤ i) → (slice_index xs i == d) ≡ (slice_index ys i == d)
    go (inl there) = own i there
    go (inr past) = ap (λ k. k == d) (get_or_past xs i 0 past ∙ sym (get_or_past ys i 0 (omega arith)))

own-lists : (p q : Plan) (d : ℕ) → HaveOwnPart p q d → HaveOwnLists q d p.domains p.hosts p.slots
own-lists p q d e = record {
  slot_count = e.slot_count;
  own_slots = own-slot d p.slots q.slots e.slot_count e.own_slots;
  channel_count = e.channel_count;
  host_tiles = e.host_tiles;
}

-- ---- what a step reads

owner-own : (q : Plan) (d : ℕ) (xs : List DomainPart) (hs : List Host) (ss : List ℕ) (n o : ℕ) (t : ℤ)
    → HaveOwnLists q d xs hs ss → (owner (with_lists q xs hs ss) n o t == d) ≡ (owner q n o t == d)
unfolding owner wave
owner-own q d xs hs ss n o t e = go (way_of o)
  where
    go : (w : Way)
        → (slice_index ss (slot_of (with_lists q xs hs ss) n t w) == d) ≡ (slice_index q.slots (slot_of q n t w) == d)
    go Local = e.own_slots 0
    go (Plus i) =
        e.own_slots (slot_of (with_lists q xs hs ss) n t (Plus i))
        ∙ ap (λ k. slice_index q.slots (modulo (t -ℤ pos (hop q * wave q n)) k) == d) e.slot_count
    go (Minus i) =
        e.own_slots (slot_of (with_lists q xs hs ss) n t (Minus i))
        ∙ ap (λ k. slice_index q.slots (modulo (t +ℤ pos (hop q * wave q n)) k) == d) e.slot_count

takes-own : (q : Plan) (d : ℕ) (xs : List DomainPart) (hs : List Host) (ss : List ℕ) (n : ℕ) (t : ℤ) (s : Tile)
    (i : TileIn) (o w : ℕ) → HaveOwnLists q d xs hs ss
    → takes (with_lists q xs hs ss) d n t s i o w ≡ takes q d n t s i o w
unfolding takes
takes-own q d xs hs ss n t s i o w e =
    ap (λ b. at_local o (is_none s.ejected || i.hears) (b && nat_lt 0 (s.credits o w))) (owner-own q d xs hs ss n o t e)

class-own : (q : Plan) (d : ℕ) (xs : List DomainPart) (hs : List Host) (ss : List ℕ) (n a b c : ℕ)
    → class_after (with_lists q xs hs ss) n a b c ≡ class_after q n a b c
unfolding class_after is_wrap side coord
class-own q d xs hs ss n a b c = refl

free-own : (q : Plan) (d : ℕ) (xs : List DomainPart) (hs : List Host) (ss : List ℕ) (n : ℕ) (s : Tile) (o port c : ℕ)
    → HaveOwnLists q d xs hs ss → free_for (with_lists q xs hs ss) d n s o port c ≡ free_for q d n s o port c
free-own q d xs hs ss n s o port c e =
    ap (λ k. option_map (λ j. class_after (with_lists q xs hs ss) n port (c / k) o * k + j) (least (at_local o 1 k) (λ j. not (s.held o (class_after (with_lists q xs hs ss) n port (c / k) o * k + j))))) e.channel_count
    ∙ ap (λ k. option_map (λ j. k * channels q d + j) (least (at_local o 1 (channels q d)) (λ j. not (s.held o (k * channels q d + j))))) (class-own q d xs hs ss n port (c / channels q d) o)

winner-own : (q : Plan) (d : ℕ) (xs : List DomainPart) (hs : List Host) (ss : List ℕ) (n : ℕ) (s : Tile) (o : ℕ)
    → HaveOwnLists q d xs hs ss → winner (with_lists q xs hs ss) d n s o ≡ winner q d n s o
unfolding winner
winner-own q d xs hs ss n s o e = λ i. pick (ports q * (classes q * e.channel_count i)) (λ k.
    nat_lt (k % (classes q * e.channel_count i)) (at_local (k / (classes q * e.channel_count i)) (e.channel_count i) (classes q * e.channel_count i))
    && (waits_for (s.stage (k / (classes q * e.channel_count i)) (k % (classes q * e.channel_count i))) o
    && is_some (free-own q d xs hs ss n s o (k / (classes q * e.channel_count i)) (k % (classes q * e.channel_count i)) e i))) (s.allocation o)

taken-own : (q : Plan) (d : ℕ) (xs : List DomainPart) (hs : List Host) (ss : List ℕ) (n : ℕ) (s : Tile) (o : ℕ)
    → HaveOwnLists q d xs hs ss → taken_channel (with_lists q xs hs ss) d n s o ≡ taken_channel q d n s o
unfolding taken_channel
taken-own q d xs hs ss n s o e =
    λ i. option_and_then (λ k. free-own q d xs hs ss n s o (k / (classes q * e.channel_count i)) (k % (classes q * e.channel_count i)) e i) (winner-own q d xs hs ss n s o e i)

ready-own : (q : Plan) (d : ℕ) (xs : List DomainPart) (hs : List Host) (ss : List ℕ) (n : ℕ) (t : ℤ) (s : Tile)
    (i : TileIn) (fs : List Flit) (st : Stage) → HaveOwnLists q d xs hs ss
    → is_ready_at (with_lists q xs hs ss) d n t s i fs st ≡ is_ready_at q d n t s i fs st
ready-own q d xs hs ss n t s i fs Idle e = refl
ready-own q d xs hs ss n t s i fs (Routed o) e = refl
ready-own q d xs hs ss n t s i [] (Active o w) e = refl
ready-own q d xs hs ss n t s i (f ∷ fs) (Active o w) e = takes-own q d xs hs ss n t s i o w e

asked-own : (q : Plan) (d : ℕ) (xs : List DomainPart) (hs : List Host) (ss : List ℕ) (n : ℕ) (t : ℤ) (s : Tile)
    (i : TileIn) (port : ℕ) → HaveOwnLists q d xs hs ss
    → asked (with_lists q xs hs ss) d n t s i port ≡ asked q d n t s i port
unfolding asked
asked-own q d xs hs ss n t s i port e = λ j. option_and_then (λ c. grant_at c (s.stage port c))
    (pick (at_local port (e.channel_count j) (classes q * e.channel_count j)) (λ c. ready-own q d xs hs ss n t s i (s.queue port c) (s.stage port c) e j) (s.turn port))

chosen-own : (q : Plan) (d : ℕ) (xs : List DomainPart) (hs : List Host) (ss : List ℕ) (n : ℕ) (t : ℤ) (s : Tile)
    (i : TileIn) (o : ℕ) → HaveOwnLists q d xs hs ss → chosen (with_lists q xs hs ss) d n t s i o ≡ chosen q d n t s i o
unfolding chosen
chosen-own q d xs hs ss n t s i o e =
    λ j. pick (ports q) (λ port. asks_for (asked-own q d xs hs ss n t s i port e j) o) (s.switch o)

grant-own : (q : Plan) (d : ℕ) (xs : List DomainPart) (hs : List Host) (ss : List ℕ) (n : ℕ) (t : ℤ) (s : Tile)
    (i : TileIn) (port : ℕ) → HaveOwnLists q d xs hs ss
    → grant (with_lists q xs hs ss) d n t s i port ≡ grant q d n t s i port
unfolding grant
grant-own q d xs hs ss n t s i port e =
    λ j. option_and_then (λ g. granted_to (chosen-own q d xs hs ss n t s i g.out e j) port g) (asked-own q d xs hs ss n t s i port e j)

leaves-own : (q : Plan) (d : ℕ) (xs : List DomainPart) (hs : List Host) (ss : List ℕ) (n : ℕ) (t : ℤ) (s : Tile)
    (i : TileIn) (port c : ℕ) → HaveOwnLists q d xs hs ss
    → leaves (with_lists q xs hs ss) d n t s i port c ≡ leaves q d n t s i port c
unfolding leaves
leaves-own q d xs hs ss n t s i port c e = λ j. is_channel (grant-own q d xs hs ss n t s i port e j) c

sent-own : (q : Plan) (d : ℕ) (xs : List DomainPart) (hs : List Host) (ss : List ℕ) (n : ℕ) (t : ℤ) (s : Tile)
    (i : TileIn) (o : ℕ) → HaveOwnLists q d xs hs ss → sent (with_lists q xs hs ss) d n t s i o ≡ sent q d n t s i o
unfolding sent
sent-own q d xs hs ss n t s i o e =
    λ j. option_and_then (λ port. option_and_then (λ g. with_channel g.to (front (s.queue port g.channel))) (grant-own q d xs hs ss n t s i port e j)) (chosen-own q d xs hs ss n t s i o e j)

stage-own : (q : Plan) (d : ℕ) (xs : List DomainPart) (hs : List Host) (ss : List ℕ) (n : ℕ) (t : ℤ) (s : Tile)
    (i : TileIn) (port c : ℕ) (st : Stage) → HaveOwnLists q d xs hs ss
    → next_stage (with_lists q xs hs ss) d n t s i port c st ≡ next_stage q d n t s i port c st
unfolding route
stage-own q d xs hs ss n t s i port c Idle e = refl
stage-own q d xs hs ss n t s i port c (Routed o) e =
    λ j. activated (is_place (winner-own q d xs hs ss n s o e j) (port * (classes q * e.channel_count j) + c)) o (taken-own q d xs hs ss n s o e j)
stage-own q d xs hs ss n t s i port c (Active o w) e =
    λ j. if leaves-own q d xs hs ss n t s i port c e j && is_tail (front (s.queue port c)) then Idle else Active o w

-- ---- the attachment

tile-own : (q : Plan) (d : ℕ) (xs : List DomainPart) (hs : List Host) (ss : List ℕ) (o : Option Range)
    → HaveOwnLists q d xs hs ss → hosted_tile (with_lists q xs hs ss) d o ≡ hosted_tile q d o
tile-own q d xs hs ss None e = refl
tile-own q d xs hs ss (Some x) e = λ j. if e.host_tiles x.tile j then Some x.tile else None

goes-own : (q : Plan) (d : ℕ) (xs : List DomainPart) (hs : List Host) (ss : List ℕ) (k : Packet) (x : Offer)
    → HaveOwnLists q d xs hs ss → goes_to (with_lists q xs hs ss) d k x ≡ goes_to q d k x
goes-own q d xs hs ss Between x e = tile-own q d xs hs ss (range_of q x.address) e
goes-own q d xs hs ss (Passing dest) x e = refl
goes-own q d xs hs ss Dropping x e = refl

entry-own : (q : Plan) (d : ℕ) (xs : List DomainPart) (hs : List Host) (ss : List ℕ) (k : Packet) (word : Option Offer)
    → HaveOwnLists q d xs hs ss → entry (with_lists q xs hs ss) d k word ≡ entry q d k word
entry-own q d xs hs ss k None e = refl
entry-own q d xs hs ss k (Some x) e = λ j. entry_of k x (goes-own q d xs hs ss k x e j)

packet-own : (q : Plan) (d : ℕ) (xs : List DomainPart) (hs : List Host) (ss : List ℕ) (k : Packet) (word : Option Offer)
    → HaveOwnLists q d xs hs ss → next_packet (with_lists q xs hs ss) d k word ≡ next_packet q d k word
packet-own q d xs hs ss k None e = refl
packet-own q d xs hs ss k (Some x) e = λ j. if x.last then Between else packet_for (goes-own q d xs hs ss k x e j)

dropped-own : (q : Plan) (d : ℕ) (xs : List DomainPart) (hs : List Host) (ss : List ℕ) (k : Packet)
    (word : Option Offer) → HaveOwnLists q d xs hs ss
    → is_dropped (with_lists q xs hs ss) d k word ≡ is_dropped q d k word
dropped-own q d xs hs ss k None e = refl
dropped-own q d xs hs ss k (Some x) e = λ j. is_none (goes-own q d xs hs ss k x e j)

current-own : (q : Plan) (d : ℕ) (xs : List DomainPart) (hs : List Host) (ss : List ℕ) (current : ℕ) (f : Option Flit)
    → HaveOwnLists q d xs hs ss → next_current (with_lists q xs hs ss) d current f ≡ next_current q d current f
current-own q d xs hs ss current None e = refl
current-own q d xs hs ss current (Some f) e = λ j. if f.tail then (current + 1) % e.channel_count j else current

word-own : (q : Plan) (d : ℕ) (xs : List DomainPart) (hs : List Host) (ss : List ℕ) (s : Tile) (i : TileIn)
    → word_in (with_lists q xs hs ss) s i ≡ word_in q s i
unfolding word_in is_open
word-own q d xs hs ss s i = refl

comes-own : (q : Plan) (d : ℕ) (xs : List DomainPart) (hs : List Host) (ss : List ℕ) (s : Tile) (i : TileIn)
    (port c : ℕ) → HaveOwnLists q d xs hs ss → comes_in (with_lists q xs hs ss) d s i port c ≡ comes_in q d s i port c
comes-own q d xs hs ss s i zero c e =
    λ j. if s.current == c then option_to_list ((ap (entry (with_lists q xs hs ss) d s.packet) (word-own q d xs hs ss s i) ∙ entry-own q d xs hs ss s.packet (word_in q s i) e) j) else []
comes-own q d xs hs ss s i (suc port) c e = refl

-- ---- the step of a tile

step-lists : (q : Plan) (d : ℕ) (xs : List DomainPart) (hs : List Host) (ss : List ℕ) (n : ℕ) (t : ℤ) (s : Tile)
    (i : TileIn) → HaveOwnLists q d xs hs ss → tile_step (with_lists q xs hs ss) d n t s i ≡ tile_step q d n t s i
unfolding tile_step
step-lists q d xs hs ss n t s i e = λ j. record {
  queue = λ port c. drop (one_if (leaves-own q d xs hs ss n t s i port c e j)) (s.queue port c) ++ comes-own q d xs hs ss s i port c e j;
  stage = λ port c. stage-own q d xs hs ss n t s i port c (s.stage port c) e j;
  pulse = λ port c. at_local port false (leaves-own q d xs hs ss n t s i port c e j);
  held = λ o w. (s.held o w && not (is_tail_on (sent-own q d xs hs ss n t s i o e j) w)) || is_place (taken-own q d xs hs ss n s o e j) w;
  credits = λ o w. s.credits o w + one_if (i.returns o w) - one_if (is_on (sent-own q d xs hs ss n t s i o e j) w);
  row = λ o. shifted (sent-own q d xs hs ss n t s i o e j) (s.row o);
  allocation = λ o. after (winner-own q d xs hs ss n s o e j) (s.allocation o);
  switch = λ o. after (chosen-own q d xs hs ss n t s i o e j) (s.switch o);
  turn = λ port. after_grant (grant-own q d xs hs ss n t s i port e j) (s.turn port);
  packet = (ap (next_packet (with_lists q xs hs ss) d s.packet) (word-own q d xs hs ss s i) ∙ packet-own q d xs hs ss s.packet (word_in q s i) e) j;
  current = (ap (λ word. next_current (with_lists q xs hs ss) d s.current (entry (with_lists q xs hs ss) d s.packet word)) (word-own q d xs hs ss s i)
      ∙ ap (next_current (with_lists q xs hs ss) d s.current) (entry-own q d xs hs ss s.packet (word_in q s i) e) ∙ current-own q d xs hs ss s.current (entry q d s.packet (word_in q s i)) e) j;
  dropped = (ap (is_dropped (with_lists q xs hs ss) d s.packet) (word-own q d xs hs ss s i) ∙ dropped-own q d xs hs ss s.packet (word_in q s i) e) j;
  ejected = next_ejected (sent-own q d xs hs ss n t s i 0 e j) i.hears s.ejected;
}

-- a tile's step reads the own part alone
pub tile_step-own : (p q : Plan) (d n : ℕ) (t : ℤ) (s : Tile) (i : TileIn) → HaveOwnPart p q d
    → tile_step p d n t s i ≡ tile_step q d n t s i
tile_step-own p q d n t s i e =
    ap (λ r. tile_step r d n t s i) (same-plan p q d e)
    ∙ step-lists q d p.domains p.hosts p.slots n t s i (own-lists p q d e)

-- ---- runs

arrival-lists : (q : Plan) (d : ℕ) (xs : List DomainPart) (hs : List Host) (ss : List ℕ) (s : State) (n port : ℕ)
    → arrival (with_lists q xs hs ss) s n port ≡ arrival q s n port
unfolding arrival neighbour side coord
arrival-lists q d xs hs ss s n port = refl

return-lists : (q : Plan) (d : ℕ) (xs : List DomainPart) (hs : List Host) (ss : List ℕ) (s : State) (n port c : ℕ)
    → return_of (with_lists q xs hs ss) s n port c ≡ return_of q s n port c
unfolding return_of neighbour side coord
return-lists q d xs hs ss s n port c = refl

fed-own : (p q : Plan) (d : ℕ) (s : State) (x : Input) (n : ℕ) → HaveOwnPart p q d → fed p d s x n ≡ fed q d s x n
fed-own p q d s x n e = λ j. record {
  arrives = λ port. (ap (λ r. arrival r s n port) (same-plan p q d e) ∙ arrival-lists q d p.domains p.hosts p.slots s n port) j;
  returns = λ port c. (ap (λ r. return_of r s n port c) (same-plan p q d e) ∙ return-lists q d p.domains p.hosts p.slots s n port c) j;
  offer = if e.host_tiles n j then x.offer n else None;
  hears = e.host_tiles n j && x.hears n;
}

pub step-own : (p q : Plan) (d : ℕ) (t : ℤ) (s : State) (x : Input) → HaveOwnPart p q d
    → step p d t s x ≡ step q d t s x
unfolding step
step-own p q d t s x e =
    λ j n. (ap (tile_step p d n t (s n)) (fed-own p q d s x n e) ∙ tile_step-own p q d n t (s n) (fed q d s x n) e) j

start-own : (p q : Plan) (d : ℕ) → HaveOwnPart p q d → start p ≡ start q
start-own p q d e = λ j n. start_tile (same-plan p q d e j)

from-own : (p q : Plan) (d t : ℕ) (s : State) (xs : List Input) → HaveOwnPart p q d
    → state_from p d t s xs ≡ state_from q d t s xs
from-own p q d t s [] e = refl
from-own p q d t s (x ∷ xs) e =
    from-own p q d (suc t) (step p d (pos t) s x) xs e
    ∙ ap (λ next. state_from q d (suc t) next xs) (step-own p q d (pos t) s x e)

pub run-own : (p q : Plan) (d : ℕ) (xs : List Input) → HaveOwnPart p q d → run p d xs ≡ run q d xs
run-own p q d xs e = from-own p q d 0 (start p) xs e ∙ ap (λ s. state_from q d 0 s xs) (start-own p q d e)

pub after-own : (p q : Plan) (d : ℕ) (xs : ℕ → Input) (t : ℕ) → HaveOwnPart p q d
    → state_after p d xs t ≡ state_after q d xs t
after-own p q d xs zero e = start-own p q d e
after-own p q d xs (suc t) e =
    step-own p q d (pos t) (state_after p d xs t) (xs t) e
    ∙ ap (λ s. step q d (pos t) s (xs t)) (after-own p q d xs t e)

-- ---- what is seen of them

open-own : (p q : Plan) (d : ℕ) (s : Tile) → HaveOwnPart p q d → is_open p s ≡ is_open q s
unfolding is_open
open-own p q d s e = ap (is_ready_packet s.packet (length (s.queue 0 s.current))) e.buffer

pub outs-own : (p q : Plan) (d : ℕ) (xs : ℕ → Input) → HaveOwnPart p q d → outs p d xs ≡ outs q d xs
outs-own p q d xs e =
    λ j t n. (ap (λ (s : State). attach_out p (s n)) (after-own p q d xs t e)
    ∙ ap (λ b. record { ready = b; dropped = (state_after q d xs t n).dropped; ejected = ejected_of (state_after q d xs t n).ejected }) (open-own p q d (state_after q d xs t n) e)) j

hosts-own : (p q : Plan) (d : ℕ) → HaveOwnPart p q d → hosts_of p d ≡ hosts_of q d
hosts-own p q d e = λ j. filter (λ n. e.host_tiles n j) (tabulate (product (e.dims j)) (λ n. n))

cycle-own : (p q : Plan) (d t : ℕ) (s : State) (x : Input) → HaveOwnPart p q d
    → cycle_events p d t s x ≡ cycle_events q d t s x
cycle-own p q d t s x e = λ j. flat_map (λ n. offer_events t n d (open-own p q d (s n) e j) (x.offer n)
    ++ drop_events t n d (s n).dropped ++ got_events t n d (x.hears n) (ejected_of (s n).ejected)) (hosts-own p q d e j)

from-events : (p q : Plan) (d t : ℕ) (s : State) (xs : List Input) → HaveOwnPart p q d
    → events_from p d t s xs ≡ events_from q d t s xs
from-events p q d t s [] e = refl
from-events p q d t s (x ∷ xs) e =
    ap (λ es. es ++ events_from p d (suc t) (step p d (pos t) s x) xs) (cycle-own p q d t s x e)
    ∙ ap (λ es. cycle_events q d t s x ++ es)
    (from-events p q d (suc t) (step p d (pos t) s x) xs e ∙ ap (λ next. events_from q d (suc t) next xs) (step-own p q d (pos t) s x e))

pub events-own : (p q : Plan) (d : ℕ) (xs : List Input) → HaveOwnPart p q d
    → events_from p d 0 (start p) xs ≡ events_from q d 0 (start q) xs
events-own p q d xs e = from-events p q d 0 (start p) xs e ∙ ap (λ s. events_from q d 0 s xs) (start-own p q d e)
