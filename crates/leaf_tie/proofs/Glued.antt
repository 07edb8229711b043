-- One edge keeps the tie of a domain: each group's conditions come from the other groups' nets and from the tie.
use Rattle.std.proofs.Common.{◌≡◌, ◌≢◌, ℕ, zero, suc, ◌+◌, ◌-◌, ◌*◌, ◌/◌, ◌%◌, ◌<◌, ◌≤◌, ◌^◌, ◌⊎◌, inl, inr, Bool, true, false, List, [], ◌∷◌, length, Option, refl, sym, ◌∙◌, ap, arith, subst, ◌==◌, ◌&&◌, ℤ}
use Rattle.std.specs.Prelude.{nat_le, option_to_list, option_map, All, bit_and, map, Some, None, is_some, is_none, nat_lt, if◌then◌else◌, pos, ◌+ℤ◌, ◌-ℤ◌}
use Rattle.std.proofs.lemmas.Bool.Decides.{nat_tests}
use Rattle.std.proofs.lemmas.Int.{ints}
use Rattle.std.proofs.lemmas.Option.{slice_get-get_or}
use Rattle.std.proofs.lemmas.Nat.{mul-le}
use Rattle.std.proofs.lemmas.List.Elements.{All-head}
use Rattle.vl_tree.specs.Values.{net, bit, part, not, cat, no_parts, parts}
use Rattle.vl_model.specs.Meaning.{Widths, Values, value_of, width_of, one_if, chosen as picked}
use Rattle.noc_model.specs.declared.Flit.{Flit}
use Rattle.noc_model.specs.declared.LinkFlit.{LinkFlit}
use Rattle.noc_model.specs.declared.Stage.{Stage}
use Rattle.noc_model.specs.declared.Stage.TheVariants.{Idle, Routed, Active}
use Rattle.noc_model.specs.Plan.{Plan, channels, link_channels, in_channels, ports, tiles, hosts, out_channels, at_local}
use Rattle.noc_model.specs.Place.{neighbour, opposite, owner, route}
use Rattle.noc_model.specs.Sound.{IsSound}
use Rattle.noc_model.specs.SoundState.{HasOutput, IsOutput, IsSoundTile, GoesHome}
use Rattle.noc_model.specs.Tile.{Tile, TileIn}
use Rattle.noc_model.specs.Step.{chosen as picked_port, is_place, takes, is_ready, is_ready_at, leaves, front, is_tail, comes_in, entry, word_in, flit_on, next_ejected, sent, is_on, is_tail_on, waits_for, tile_step}
use Rattle.noc_model.proofs.Coords.{positive}
use Rattle.noc_model.specs.declared.Grant.{Grant}
use Rattle.noc_model.proofs.Switch.{chosen-inside}
use Rattle.noc_model.proofs.Ports.{link-dim, linked-port}
use Rattle.noc_model.proofs.StateKept.{some-channels}
use Rattle.noc_model.proofs.TileKept.{tile_step-sound}
use Rattle.gen_kit.specs.Groups.{Group, HoldsIn}
use Rattle.gen_kit.specs.Masks.{mask}
use Rattle.gen_kit.specs.Rotate.{PointsTo}
use Rattle.gen_kit.specs.Families.{in_bits, or_upto, defined}
use Rattle.gen_kit.specs.Mux.{gated_words}
use Rattle.gen_kit.proofs.Muxed.{mux-shown}
use Rattle.leaf_tie.specs.Places.{stage_at, queue_at, is_active, is_idle, is_led, leaves_at, ends_at}
use Rattle.leaf_tie.specs.Alloc.{AllocIn, AllocTie, out_count}
use Rattle.leaf_tie.specs.Switch.{goes_by, ready_for, ReadyIn, SwitchIn, LoneIn, switch_group, lone_switch_group, place_count}
use Rattle.leaf_tie.specs.Buffers.{BufferSize, BufferTie, is_filled, link_code}
use Rattle.leaf_tie.specs.Tie.{LeafNames, PortNames, HasLink, HasPort, HasPlace, alloc_size, DomainTie, LeafIn, PortIn, word_code, flit_code, ejected_code, IsWord, PacketTie, is_lone}
use Rattle.leaf_tie.specs.Attach.{AttachIn, enter_at}
use Rattle.leaf_tie.proofs.Attached.{pushes, word-is, packet-kept, current-kept, dropped-kept}
use Rattle.noc_model.specs.declared.plan.DomainPart.{DomainPart}
use Rattle.leaf_tie.specs.Glue.{attach_names, attach_size, current_high, NetNames, switch_names, switch_size, high, out_high, arrival_group, route_bits, has_port, has_place, front_bits, port_flit, out_flit, out_channel, able, some_active, DomainRuns, SlotsShown, GlueFits, link_push, pop_of, leaves_place, Moves}
use Rattle.gen_kit.proofs.Sets.{mask-same, mask-and, mask-none, mask-bit}
use Rattle.gen_kit.proofs.Families.{rows-shown, bit-or, or-bits}
use Rattle.leaf_tie.proofs.Allocated.{alloc-kept}
use Rattle.leaf_tie.proofs.Switched.{ready-shown}
use Rattle.leaf_tie.proofs.Granted.{port-shown, choice-shown, leaves-grant, leaves-shown, turns-kept, choices-kept}
use Rattle.leaf_tie.proofs.Lone.{lone-shown, lone-leaves, lone-kept}
use Rattle.leaf_tie.proofs.Sent.{on-shown, freed-shown, left, sent-from, chosen-sends, none-sent}
use Rattle.leaf_tie.proofs.Counted.{idle-kept, credit-kept}
use Rattle.leaf_tie.proofs.Buffered.{buffer-kept, arrival-pushes, bit-and, length-map}
use Rattle.leaf_tie.proofs.Sized.{high-is, place_count-is, in_few, out-link, fits-output, some-link-channels, port-has}
use Rattle.leaf_tie.proofs.Homes.{away-home, host-tile}
use Rattle.gen_buffer.specs.Fifo.{fifo_items, WordsAre}
use Rattle.vl_model.specs.Parts.{AllHold}
use Rattle.leaf_tie.proofs.Placed.{one-bit, row-of, channel-of, place-there, place-not, place-bits-shown, bit-is, bit-one, tail-bit, route-bit, flit-small, flit-part, eject-word, cat-two, cat-three, link-word, routed-to, or-wide, any-on, on-place, on_front, front-tail, front-leads}
use Rattle.leaf_tie.proofs.Steps.{MayCome, comes-room, absent-kept, within-kept, short-kept, words-kept, away-kept}

-- ---- ports

pub link-there : (p : Plan) (n port m : ℕ) → neighbour p n port ≡ Some m → HasLink p n port
link-there p n port m e =
    let some : is_some (neighbour p n port) ≡ true = ap is_some e in
    let dim = link-dim p n port some in
    (omega (arith, dim), some)

-- a port with a link is not the local one
pub port-link : (p : Plan) (n o : ℕ) → HasLink p n o → o ≢ 0
port-link p n o link e = go (neighbour p n o) refl link.1
  where
    go : (m : Option ℕ) → neighbour p n o ≡ m → is_some m ≡ true → ⊥
    go None is f = cc f
    go (Some m) is f = linked-port p n o m is e

-- a link is a port of each domain
link-port : (p : Plan) (n d o : ℕ) → HasLink p n o → HasPort p n d o
link-port p n d zero link = absurd (port-link p n 0 link refl)
link-port p n d (suc o) link = link

port-there : (p : Plan) (n d o : ℕ) → o < ports p → HasPort p n d o ⊎ (HasPort p n d o → ⊥)
port-there p n d zero below = go (hosts p n d) refl
  where
    go : (b : Bool) → hosts p n d ≡ b → (hosts p n d ≡ true) ⊎ (hosts p n d ≡ true → ⊥)
    go true e = inl e
    go false e = inr (λ f. cc (sym e ∙ f))
port-there p n d (suc o) below = go (is_some (neighbour p n (suc o))) refl
  where
    go : (b : Bool) → is_some (neighbour p n (suc o)) ≡ b → HasLink p n (suc o) ⊎ (HasLink p n (suc o) → ⊥)
    go true e = inl (below, e)
    go false e = inr (λ f. cc (sym e ∙ f.1))

output-there : (p : Plan) (n o : ℕ) → IsOutput p n o → o < ports p
output-there p n o (inl e) = omega (arith, e)
output-there p n o (inr some) = let dim = link-dim p n o some in omega (arith, dim)

stage-output : (p : Plan) (d n : ℕ) (st : Stage) (o : ℕ) → HasOutput p d n st → goes_by st o ≡ true → IsOutput p n o
stage-output p d n Idle o h e = absurd (cc e)
stage-output p d n (Routed to) o h e = absurd (cc e)
stage-output p d n (Active to w) o h e = let same : to ≡ o = grind (arith, nat_tests, e) in subst (IsOutput p n) same h.0

active-out : (p : Plan) (d n : ℕ) (st : Stage) (o w : ℕ) → HasOutput p d n st → st ≡ Active o w → IsOutput p n o
active-out p d n st o w h e = (subst (HasOutput p d n) e h).0

active-few : (p : Plan) (d n : ℕ) (st : Stage) (o w : ℕ) → HasOutput p d n st → is_active st o w ≡ true → w < out_channels p d o
active-few p d n Idle o w h e = absurd (cc e)
active-few p d n (Routed to) o w h e = absurd (cc e)
active-few p d n (Active to x) o w h e =
    let same_o : to ≡ o = grind (arith, nat_tests, e) in
    let same_w : x ≡ w = grind (arith, nat_tests, e) in
    subst (λ k. k < out_channels p d o) same_w (subst (λ k. x < out_channels p d k) same_o h.1)

false-by : (b : Bool) → (b ≡ true → ⊥) → b ≡ false
false-by true never = absurd (never refl)
false-by false never = refl

not-zero : (c : ℕ) → 2 ^ 1 - 1 - one_if (c == 0) ≡ one_if (nat_lt 0 c)
not-zero c = go (nat_lt 0 c) refl
  where
    go : (b : Bool) → nat_lt 0 c ≡ b → 2 ^ 1 - 1 - one_if (c == 0) ≡ one_if b
    go true e = let differ : (c == 0) ≡ false = grind (arith, nat_tests, e) in rw differ refl
    go false e = let same : (c == 0) ≡ true = grind (arith, nat_tests, e) in rw same refl

empty-code : (x : Option Flit) → one_if (ejected_code x == 0) ≡ one_if (is_none x)
empty-code None = refl
empty-code (Some f) =
    let large : 0 < ejected_code (Some f) = omega arith in
    let differ : (ejected_code (Some f) == 0) ≡ false = grind (arith, nat_tests, large) in
    rw differ refl

out-few : (p : Plan) (d o : ℕ) → 0 < channels p d → out_channels p d o ≡ out_count (alloc_size p d o)
out-few p d zero some = refl
out-few p d (suc o) some = sym (out-link p d (suc o) some (λ e. omega arith))

some-out : (p : Plan) (d o : ℕ) → 0 < channels p d → out_high p d o + 1 ≡ out_count (alloc_size p d o)
some-out p d zero some = refl
some-out p d (suc o) some =
    let e = out-link p d (suc o) some (λ e. omega arith) in
    let l = some-link-channels p d some in
    omega (arith, e, l)

filled-length : (code : Flit → ℕ) (fs : List Flit) → 2 ^ 1 - 1 - one_if (length (map code fs) == 0) ≡ one_if (is_filled fs)
filled-length code [] = refl
filled-length code (f ∷ fs) = let differ : (length (map code (f ∷ fs)) == 0) ≡ false = grind (arith, nat_tests) in rw differ refl

-- the code of the flit that is sent, and 0 where none is
abbrev sent_code : ℕ → Option LinkFlit → ℕ
sent_code dest_bits None = 0
sent_code dest_bits (Some x) = flit_code dest_bits x.flit

pub has-port : (p : Plan) (n d port : ℕ) → port < ports p → has_port p n d port ≡ true → HasPort p n d port
has-port p n d zero below h = h
has-port p n d (suc port) below h = (below, h)

-- one channel of a port is left at most
leaves-one : (p : Plan) (d n : ℕ) (t : ℤ) (s : Tile) (i : TileIn) (port c k : ℕ) → leaves p d n t s i port c ≡ true → leaves p d n t s i port k ≡ is_place (Some c) k
leaves-one p d n t s i port c k gone =
    let by = left p d n t s i port c gone in
    leaves-grant p d n t s i port k ∙ ap (λ g. is_place (option_map (λ (h : Grant). h.channel) g) k) by.granted ∙ ap (λ m. m == k) by.channel

module _ (p : Plan) (n d : ℕ) (names : LeafNames) (nets : NetNames) (q : PortNames) (base : ℕ → ℕ) (size : BufferSize) (slot_high dest_bits link_flit link_channel : ℕ)
    (w : Widths) (v u : Values) (t : ℕ) (s : ℕ → Tile) (i : ℕ → TileIn)
    (sound : IsSound p) (there : d < length p.domains) (fits : GlueFits p size slot_high dest_bits link_flit link_channel)
    (here : n < tiles p)
    (runs : DomainRuns p n d names nets q base size dest_bits link_flit link_channel w v u)
    (arrivals : (port : ℕ) → HasLink p n port → HoldsIn (arrival_group p n nets q size dest_bits port) w v)
    (slots : SlotsShown p n d names v (pos t))
    (input : LeafIn p n q base dest_bits link_flit link_channel v t s i)
    (tie : DomainTie p n d names size dest_bits v (pos t) (s d)) where
  some : 0 < channels p d
  some = some-channels p d sound there

  -- ---- the inputs

  arrives-by : (port : ℕ) (x : LinkFlit) → (i d).arrives port ≡ Some x → (m : ℕ) × (neighbour p n port ≡ Some m)
  arrives-by port x e = go (neighbour p n port) refl
    where
      go : (o : Option ℕ) → neighbour p n port ≡ o → (m : ℕ) × (neighbour p n port ≡ Some m)
      go None is = absurd (cc (sym (input.unlinked d port is) ∙ e))
      go (Some m) is = (m, is)

  arrives-word : (port m : ℕ) (e : neighbour p n port ≡ Some m) (x : LinkFlit) → (i d).arrives port ≡ Some x → IsWord x.flit
  arrives-word port m e x is = go (owner p m (opposite port) (pos t -ℤ pos p.stages) == d) (sym (link.its_own d) ∙ is)
    where
      link : PortIn p n port m q dest_bits link_flit link_channel v t s i (input.links port m e).0
      link = (input.links port m e).1

      go : (b : Bool) → (if b then (input.links port m e).0 else None) ≡ Some x → IsWord x.flit
      go true f = link.payload x f
      go false f = absurd (cc f)

  may : MayCome p n d (s d) (i d)
  may = record {
    home = record {
      arrives = λ port x e. (let by = arrives-by port x e in ((input.links port by.0 by.1).1.channel d x e).2);
      unlinked = λ port e. input.unlinked d port e;
    };
    linked = λ port x e. (let by = arrives-by port x e in let c = (input.links port by.0 by.1).1.channel d x e in (link-there p n port by.0 by.1, c.0, c.1));
    nothing = λ e. (input.unhosted d e).0;
    room = λ o x link e. input.room d o x link e;
  }

  -- what the port shows is a word of a flit
  link-fits : (port m : ℕ) (e : neighbour p n port ≡ Some m) (x : LinkFlit) → (input.links port m e).0 ≡ Some x → (x.channel < 2 ^ link_channel) × (flit_code dest_bits x.flit < 2 ^ link_flit)
  link-fits port m e x is =
      let k : ℕ = owner p m (opposite port) (pos t -ℤ pos p.stages) in
      let self : (k == k) ≡ true = grind (arith, nat_tests) in
      let link = (input.links port m e).1 in
      let its = link.its_own k ∙ ap (λ b. if b then (input.links port m e).0 else None) self ∙ is in
      let c = link.channel k x its in
      let few = fits.channels k in
      let inside = host-tile p x.flit.dest k sound c.2 in
      let most = fits.dests in (
        (let below = c.0 in omega (arith, below, few)),
        subst (λ b. flit_code dest_bits x.flit < 2 ^ b) (sym fits.flits) (flit-small dest_bits x.flit (omega (arith, inside, most)) (link.payload x is)),
      )

  -- ---- the places that have a flit

  list-held : (port c : ℕ) → HasPlace p n d port c → AllHold w v (fifo_items (names.buffer d port c) size.bh size.lh size.wh)
  list-held zero c place = (runs.entered c place.0 place.1).now.heads.1.1
  list-held (suc port) c place = go (neighbour p n (suc port)) refl place.0.1
    where
      go : (o : Option ℕ) → neighbour p n (suc port) ≡ o → is_some o ≡ true → AllHold w v (fifo_items (names.buffer d (suc port) c) size.bh size.lh size.wh)
      go None e f = absurd (cc f)
      go (Some m) e f = (runs.linked (suc port) m c e place.1).now.heads.1.1

  empty-net : (port c : ℕ) → HasPlace p n d port c → (w.net (names.buffer d port c).empty ≡ 1) × (v.net (names.buffer d port c).empty ≡ one_if (v.net (names.buffer d port c).count == 0))
  empty-net port c place = let h = list-held port c place in (h.1.1.1.1.1.1.0.0, h.1.1.1.1.1.1.1.0)

  front-net : (port c : ℕ) → HasPlace p n d port c → v.net (names.buffer d port c).front ≡ v.word (names.buffer d port c).memory (v.net (names.buffer d port c).read)
  front-net port c place = let h = list-held port c place in h.1.1.1.1.1.0

  there-is : (b : Bool) (port c : ℕ) → has_place p n d port c ≡ b → (s d).queue port c ≢ [] → b ≡ true
  there-is true port c e some_flit = refl
  there-is false port c e some_flit = absurd (some_flit (tie.absent port c (place-not p n d port c e)).0)

  filled-is : v.net (nets.filled d) ≡ mask (high p d + 1) (λ place. is_filled (queue_at p d (s d) place))
  filled-is =
      runs.filled.nets.1.0
      ∙ place-bits-shown p n d w v some (λ port c. not (net (names.buffer d port c).empty)) (λ port c. is_filled ((s d).queue port c)) each
      ∙ mask-same (high p d + 1) _ _ (λ place below. same (place / link_channels p d) (place % link_channels p d))
    where
      each : (port c : ℕ) → HasPlace p n d port c → (width_of w (not (net (names.buffer d port c).empty)) ≡ 1) × (value_of w v (not (net (names.buffer d port c).empty)) ≡ one_if (is_filled ((s d).queue port c)))
      each port c place =
          let at = empty-net port c place in (
            at.0,
            rw (at.0, at.1, (tie.buffers port c place).1.count) (filled-length (word_code p n dest_bits) ((s d).queue port c)),
          )

      same : (port c : ℕ) → (has_place p n d port c && is_filled ((s d).queue port c)) ≡ is_filled ((s d).queue port c)
      same port c = go (has_place p n d port c) refl
        where
          go : (b : Bool) → has_place p n d port c ≡ b → (b && is_filled ((s d).queue port c)) ≡ is_filled ((s d).queue port c)
          go true e = refl
          go false e = sym (ap is_filled (tie.absent port c (place-not p n d port c e)).0)

  -- ---- the flits in front

  small : (port c : ℕ) (f : Flit) (fs : List Flit) → (s d).queue port c ≡ f ∷ fs → (f.dest < 2 ^ dest_bits) × (f.payload < 2 ^ 32)
  small port c f fs e = (
    (let inside = host-tile p f.dest d sound (All-head (GoesHome p d) f fs (subst (All (GoesHome p d)) e (tie.sound.queued port c))) in let most = fits.dests in omega (arith, inside, most)),
    All-head IsWord f fs (subst (All IsWord) e (tie.words port c)),
  )

  front-is : (port c : ℕ) (f : Flit) (fs : List Flit) → HasPlace p n d port c → (s d).queue port c ≡ f ∷ fs → v.net (names.buffer d port c).front ≡ word_code p n dest_bits f
  front-is port c f fs place e = at (tie.buffers port c place)
    where
      at : BufferTie (word_code p n dest_bits) (names.buffer d port c) size v ((s d).queue port c) → v.net (names.buffer d port c).front ≡ word_code p n dest_bits f
      at list =
          front-net port c place ∙ ap (v.word (names.buffer d port c).memory) list.1.read
          ∙ (subst (λ q. WordsAre (v.word (names.buffer d port c).memory) (2 ^ (size.bh + 1)) list.0 (map (word_code p n dest_bits) q)) e list.1.words).0

  -- a bit of the fronts, of the places that have a flit
  fronts-are : (k : ℕ) (h : Flit → Bool) → ((f : Flit) → f.dest < 2 ^ dest_bits → f.payload < 2 ^ 32 → word_code p n dest_bits f / 2 ^ k % 2 ≡ one_if (h f))
      → bit_and (v.net (nets.filled d)) (value_of w v (front_bits p n names d k)) ≡ mask (high p d + 1) (λ place. on_front h (queue_at p d (s d) place))
  fronts-are k h code =
      rw (filled-is, place-bits-shown p n d w v some (λ port c. bit (names.buffer d port c).front k) shown (λ port c place. (refl, bit-is (v.net (names.buffer d port c).front / 2 ^ k))))
      (mask-and (high p d + 1) (λ place. is_filled (queue_at p d (s d) place)) (λ place. has_place p n d (place / link_channels p d) (place % link_channels p d) && shown (place / link_channels p d) (place % link_channels p d)))
      ∙ mask-same (high p d + 1) _ _ (λ place below. same (place / link_channels p d) (place % link_channels p d))
    where
      shown : ℕ → ℕ → Bool
      shown port c = v.net (names.buffer d port c).front / 2 ^ k % 2 == 1

      same : (port c : ℕ) → (is_filled ((s d).queue port c) && (has_place p n d port c && shown port c)) ≡ on_front h ((s d).queue port c)
      same port c = go ((s d).queue port c) refl
        where
          go : (q : List Flit) → (s d).queue port c ≡ q → (is_filled q && (has_place p n d port c && shown port c)) ≡ on_front h q
          go [] e = refl
          go (f ∷ fs) e =
              let there_it = there-is (has_place p n d port c) port c refl (λ none. cc (sym e ∙ none)) in
              let at = front-is port c f fs (place-there p n d port c there_it) e in
              let fit = small port c f fs e in
              rw (there_it, at, code f fit.0 fit.1) (bit-one (h f))

  tails-are : v.net (nets.tails d) ≡ mask (high p d + 1) (λ place. is_tail (front (queue_at p d (s d) place)))
  tails-are =
      runs.tails.nets.1.0 ∙ fronts-are (32 + dest_bits) (λ f. f.tail) (tail-bit p n dest_bits)
      ∙ mask-same (high p d + 1) _ _ (λ place below. front-tail (queue_at p d (s d) place))

  idles-are : v.net (names.idle d) ≡ mask (high p d + 1) (λ place. is_idle (stage_at p d (s d) place))
  idles-are = tie.idle ∙ ap (λ m. mask m (λ place. is_idle (stage_at p d (s d) place))) (sym (high-is p d some))

  led-are : (o : ℕ) → HasPort p n d o → v.net (names.alloc d o).led ≡ mask (high p d + 1) (λ place. is_led p n (queue_at p d (s d) place) (stage_at p d (s d) place) o)
  led-are o port =
      (runs.led o port).nets.1.0
      ∙ rw (idles-are, fronts-are (34 + dest_bits + o) (λ f. route p n f.dest == o) (route-bit p n dest_bits o))
      (mask-and (high p d + 1) (λ place. is_idle (stage_at p d (s d) place)) (λ place. on_front (λ (f : Flit). route p n f.dest == o) (queue_at p d (s d) place)))
      ∙ mask-same (high p d + 1) _ _ (λ place below. ap (λ b. is_idle (stage_at p d (s d) place) && b) (front-leads p n o (queue_at p d (s d) place)))

  -- ---- the switch

  next : Tile
  next = tile_step p d n (pos t) (s d) (i d)

  not-there : (o : ℕ) → o < ports p → (HasPort p n d o → ⊥) → (port c : ℕ) → goes_by ((s d).stage port c) o ≡ false
  not-there zero below absent port c = (tie.home (false-by (hosts p n d) absent) port c).0
  not-there (suc o) below absent port c = false-by (goes_by ((s d).stage port c) (suc o)) (λ e. go (stage-output p d n ((s d).stage port c) (suc o) (tie.sound.stages port c) e))
    where
      go : IsOutput p n (suc o) → ⊥
      go (inl e) = omega arith
      go (inr e) = absent (below, e)

  ables : (o : ℕ) → HasPort p n d o → (k : ℕ) → k ≤ out_high p d o → value_of w v (able p n names q size d o k) ≡ one_if (takes p d n (pos t) (s d) (i d) o k)
  unfolding takes
  ables zero port k le =
      rw (tie.ejected port, (input.offers d port).1, empty-code (s d).ejected) (bit-or (is_none (s d).ejected) (i d).hears)
  ables (suc o) port k le =
      let at = some-out p d (suc o) some in
      let is = out-link p d (suc o) some (λ e. omega arith) in
      let few : k < link_channels p d = omega (arith, at, is, le) in
      rw (slots.leaving (suc o) port, tie.credits (suc o) k port few, not-zero ((s d).credits (suc o) k)) (bit-and (owner p n (suc o) (pos t) == d) (nat_lt 0 ((s d).credits (suc o) k)))

  ready-in : (o : ℕ) → HasPort p n d o → ReadyIn p d n o (nets.filled d) (names.alloc d o).active (able p n names q size d o) (high p d) (out_high p d o) w v (pos t) (s d) (i d)
  ready-in o port = record {
    flits = filled-is;
    channels = λ k le. (let at = some-out p d o some in (tie.outputs o port).active k (omega (arith, at, le)));
    ables = ables o port;
    few = λ place k e.
        (let below = active-few p d n (stage_at p d (s d) place) o k (tie.sound.stages (place / link_channels p d) (place % link_channels p d)) e in
        let at = some-out p d o some in let is = out-few p d o some in
        omega (arith, below, at, is));
  }

  ready-is : (o : ℕ) → HasPort p n d o → v.net (nets.ready d o) ≡ mask (high p d + 1) (ready_for p d n (pos t) (s d) (i d) o)
  ready-is o port =
      (runs.ready o port).nets.1.0
      ∙ ready-shown p d n o (nets.filled d) (names.alloc d o).active (able p n names q size d o) (high p d) (out_high p d o) w v (pos t) (s d) (i d) (ready-in o port)

  nothing-beyond : (port c : ℕ) → in_channels p d port ≤ c → is_ready p d n (pos t) (s d) (i d) port c ≡ false
  nothing-beyond port c le = let gone = tie.absent port c (λ h. (let below = h.1 in omega (arith, le, below))) in ap (is_ready_at p d n (pos t) (s d) (i d) ((s d).queue port c)) gone.1

  -- the output that a place is active on is there
  active-there : (port c o x : ℕ) → (s d).stage port c ≡ Active o x → (o < ports p) × HasPort p n d o
  active-there port c o x e = (below, go (port-there p n d o below))
    where
      below : o < ports p
      below = output-there p n o (active-out p d n ((s d).stage port c) o x (tie.sound.stages port c) e)

      self : (o == o) ≡ true
      self = grind (arith, nat_tests)

      go : HasPort p n d o ⊎ (HasPort p n d o → ⊥) → HasPort p n d o
      go (inl port_there) = port_there
      go (inr absent) = absurd (cc (sym (ap (λ st. goes_by st o) e ∙ self) ∙ not-there o below absent port c))

  lone-high : is_lone p d ≡ true → high p d + 1 ≡ ports p
  lone-high is =
      let one : link_channels p d ≡ 1 = grind (arith, nat_tests, is) in
      high-is p d some ∙ ap (λ k. ports p * k) one ∙ omega arith

  lone-in : is_lone p d ≡ true → LoneIn p d n (switch_names names nets d) (has_port p n d) v (pos t) (s d) (i d)
  lone-in is = record {
    one_channel = grind (arith, nat_tests, is);
    readies = λ o below e. ready-is o (has-port p n d o below e) ∙ ap (λ m. mask m (ready_for p d n (pos t) (s d) (i d) o)) (lone-high is);
    choices = λ o below e. tie.switches o below (λ f. has-port p n d o below e);
    outputs = λ port c o x e. (let at = active-there port c o x e in (at.0, port-has p n d o at.1));
  }

  switch-in : is_lone p d ≡ false → SwitchIn p d n (switch_names names nets d) (switch_size p d) v (pos t) (s d) (i d)
  switch-in more = record {
    port_count = omega arith;
    channel_count = let l = some-link-channels p d some in omega arith;
    readies = λ o le. ready o (omega (arith, le)) (port-there p n d o (omega (arith, le)));
    turns = λ port le. tie.turns more port (omega (arith, le));
    choices = λ o le. tie.switches o (omega (arith, le)) (λ is. absurd (cc (sym is ∙ more)));
    outputs = λ port c o x e. (let below = output-there p n o (active-out p d n ((s d).stage port c) o x (tie.sound.stages port c) e) in omega (arith, below));
    beyond = nothing-beyond;
    few = in_few p d;
  }
    where
      wide : place_count (switch_size p d) ≡ high p d + 1
      wide = place_count-is p d some

      ready : (o : ℕ) → o < ports p → HasPort p n d o ⊎ (HasPort p n d o → ⊥) → v.net (nets.ready d o) ≡ mask (place_count (switch_size p d)) (ready_for p d n (pos t) (s d) (i d) o)
      ready o below (inl port) = ready-is o port ∙ ap (λ m. mask m (ready_for p d n (pos t) (s d) (i d) o)) (sym wide)
      ready o below (inr absent) =
          (subst (λ b. AllHold w v (if b then [] else defined (high p d) (nets.ready d o) (in_bits (high p d + 1) 0))) more (runs.unready o below absent).nets).1.0
          ∙ sym (mask-none (place_count (switch_size p d)) (ready_for p d n (pos t) (s d) (i d) o) (λ place b. ap (λ x. x && is_ready p d n (pos t) (s d) (i d) (place / link_channels p d) (place % link_channels p d)) (not-there o below absent (place / link_channels p d) (place % link_channels p d))))

  leaves-is : v.net (nets.leaves d) ≡ mask (high p d + 1) (leaves_at p d n (pos t) (s d) (i d))
  leaves-is = go (is_lone p d) refl runs.switch.now
    where
      go : (b : Bool) → is_lone p d ≡ b → HoldsIn (if b then lone_switch_group (switch_names names nets d) (ports p - 1) (has_port p n d) else switch_group (switch_names names nets d) (switch_size p d)) w v
          → v.net (nets.leaves d) ≡ mask (high p d + 1) (leaves_at p d n (pos t) (s d) (i d))
      go true is h =
          let all : ports p - 1 + 1 ≡ high p d + 1 = (let e = lone-high is in omega (arith, e)) in
          lone-leaves p d n (switch_names names nets d) (has_port p n d) w v (pos t) (s d) (i d) h (lone-in is) ∙ ap (λ m. mask m (leaves_at p d n (pos t) (s d) (i d))) all
      go false is h =
          leaves-shown p d n (switch_names names nets d) (switch_size p d) w v (pos t) (s d) (i d) h (switch-in is)
          ∙ ap (λ m. mask m (leaves_at p d n (pos t) (s d) (i d))) (place_count-is p d some)

  pop-is : (port c : ℕ) → HasPlace p n d port c → v.net (nets.leaves d) / 2 ^ (port * link_channels p d + c) % 2 ≡ one_if (leaves p d n (pos t) (s d) (i d) port c)
  pop-is port c place =
      rw leaves-is (mask-bit (high p d + 1) (port * link_channels p d + c) (leaves_at p d n (pos t) (s d) (i d)) inside)
      ∙ ap one_if (ap (λ k. leaves p d n (pos t) (s d) (i d) k ((port * link_channels p d + c) % link_channels p d)) (row-of (link_channels p d) port c few) ∙ ap (leaves p d n (pos t) (s d) (i d) port) (channel-of (link_channels p d) port c few))
    where
      few : c < link_channels p d
      few = let a = place.1 in let b = in_few p d port in omega (arith, a, b)

      below : (port : ℕ) → HasPort p n d port → port < ports p
      below zero h = omega arith
      below (suc k) h = h.0

      inside : port * link_channels p d + c < high p d + 1
      inside =
          let at = below port place.0 in
          let more : (port + 1) * link_channels p d ≤ ports p * link_channels p d = mul-le (port + 1) (link_channels p d) (ports p) (link_channels p d) (omega (arith, at)) (omega arith) in
          let parts : (port + 1) * link_channels p d ≡ port * link_channels p d + link_channels p d = grind arith in
          let all = high-is p d some in
          omega (arith, few, more, parts, all)

  ends-is : v.net (nets.ends d) ≡ mask (high p d + 1) (ends_at p d n (pos t) (s d) (i d))
  ends-is = runs.ends.nets.1.0 ∙ rw (leaves-is, tails-are) (mask-and (high p d + 1) (leaves_at p d n (pos t) (s d) (i d)) (λ place. is_tail (front (queue_at p d (s d) place))))

  -- ---- allocation

  freed-is : (o : ℕ) → HasPort p n d o → v.net (names.alloc d o).freed ≡ mask (out_count (alloc_size p d o)) (is_tail_on (sent p d n (pos t) (s d) (i d) o))
  freed-is o port =
      (runs.freed o port).nets.1.0
      ∙ rows-shown 1 w v (some_active p names d o (nets.ends d)) (is_tail_on (sent p d n (pos t) (s d) (i d) o)) (out_high p d o) (λ k le. refl)
      (λ k le. bit k le ∙ one-bit (is_tail_on (sent p d n (pos t) (s d) (i d) o)) k)
      ∙ ap (λ m. mask m (is_tail_on (sent p d n (pos t) (s d) (i d) o))) count
    where
      count : (out_high p d o + 1) * 1 ≡ out_count (alloc_size p d o)
      count = let at = some-out p d o some in omega (arith, at)

      bit : (k : ℕ) → k ≤ out_high p d o → value_of w v (some_active p names d o (nets.ends d) k) ≡ one_if (is_tail_on (sent p d n (pos t) (s d) (i d) o) k)
      bit k le =
          let at = some-out p d o some in
          rw ((tie.outputs o port).active k (omega (arith, at, le)), ends-is, mask-and (high p d + 1) (λ place. is_active (stage_at p d (s d) place) o k) (ends_at p d n (pos t) (s d) (i d)), high-is p d some)
          (freed-shown p d n o k (pos t) (s d) (i d) (in_few p d))

  alloc-in : (o : ℕ) → HasPort p n d o → AllocIn p d n o (names.alloc d o) (alloc_size p d o) w v (pos t) (s d) (i d)
  alloc-in o port = record {
    led = led-are o port;
    ends = ap v.net (runs.one_ends o) ∙ ends-is;
    ends_width = ap w.net (runs.one_ends o) ∙ runs.ends.nets.0.0;
    freed = freed-is o port;
    freed_width = (runs.freed o port).nets.0.0 ∙ some-out p d o some;
    beyond = λ place out. ap (λ st. waits_for st o) (tie.absent (place / link_channels p d) (place % link_channels p d) (λ h. (let below = h.1 in grind (arith, nat_tests, below, out)))).1;
  }

  outputs-kept : (o : ℕ) → HasPort p n d o → AllocTie p d o (names.alloc d o) (alloc_size p d o) u next
  unfolding next
  outputs-kept o port =
      alloc-kept p d n o (names.alloc d o) (alloc_size p d o) (fits-output p d n o some) w v u (runs.alloc o port).now (runs.alloc o port).later (runs.alloc o port).steps
      (pos t) (s d) (i d) (alloc-in o port) (tie.outputs o port)

  -- ---- pointers, idle places, credits, pulses

  -- the switch over the edge
  abbrev switch_if : Bool → Group
  switch_if b = if b then lone_switch_group (switch_names names nets d) (ports p - 1) (has_port p n d) else switch_group (switch_names names nets d) (switch_size p d)

  switches-kept : (o : ℕ) → o < ports p → (is_lone p d ≡ true → HasPort p n d o) → PointsTo (names.switch d o) (ports p - 1) u (next.switch o)
  unfolding next
  switches-kept o below port = go (is_lone p d) refl runs.switch
    where
      go : (b : Bool) → is_lone p d ≡ b → Moves (switch_if b) w v u → PointsTo (names.switch d o) (ports p - 1) u ((tile_step p d n (pos t) (s d) (i d)).switch o)
      go true is run = lone-kept p d n (switch_names names nets d) (has_port p n d) w v (pos t) (s d) (i d) run.now (lone-in is) u run.steps o below (port-has p n d o (port is))
      go false is run = choices-kept p d n (switch_names names nets d) (switch_size p d) w v u run.now run.later run.steps (pos t) (s d) (i d) (switch-in is) o (omega arith)

  ports-turns-kept : is_lone p d ≡ false → (port : ℕ) → port < ports p → PointsTo (names.turn d port) (link_channels p d - 1) u (next.turn port)
  unfolding next
  ports-turns-kept more port below =
      let run : Moves (switch_if false) w v u = subst (λ b. Moves (switch_if b) w v u) more runs.switch in
      turns-kept p d n (switch_names names nets d) (switch_size p d) w v u run.now run.later run.steps (pos t) (s d) (i d) (switch-in more) port (omega arith)

  places-idle : u.net (names.idle d) ≡ mask (ports p * link_channels p d) (λ place. is_idle (stage_at p d next place))
  unfolding next
  places-idle =
      idle-kept p d n (names.idle d) (nets.filled d) (nets.ends d) (high p d) w v u runs.idle.now runs.idle.later runs.idle.steps (pos t) (s d) (i d)
      (record {
        idles = idles-are;
        flits = filled-is;
        flits_width = runs.filled.nets.0.0;
        last_flits = ends-is;
      })
      ∙ ap (λ m. mask m (λ place. is_idle (stage_at p d (tile_step p d n (pos t) (s d) (i d)) place))) (high-is p d some)

  on-is : (o x : ℕ) → HasLink p n o → x < link_channels p d → v.net (nets.on d o x) ≡ one_if (is_on (sent p d n (pos t) (s d) (i d) o) x)
  on-is zero x link few = absurd (port-link p n 0 link refl)
  on-is (suc o) x link few =
      (runs.on (suc o) x link few).nets.1.0
      ∙ rw ((tie.outputs (suc o) link).active x (rw (out-link p d (suc o) some (λ e. omega arith)) few), leaves-is, mask-and (high p d + 1) (λ place. is_active (stage_at p d (s d) place) (suc o) x) (leaves_at p d n (pos t) (s d) (i d)), high-is p d some)
      (on-shown p d n (suc o) x (pos t) (s d) (i d) (in_few p d))

  credits-kept : (o x : ℕ) → HasLink p n o → x < link_channels p d → u.net (names.credits d o x) ≡ next.credits o x
  unfolding next
  credits-kept o x link few =
      credit-kept p d n o x (names.credits d o x) _ _ size.lh (port-link p n o link) fits.counts w v u (runs.credits o x link few).now (runs.credits o x link few).later (runs.credits o x link few).steps (pos t) (s d) (i d)
      (record { stands = tie.credits o x link few; pulses = input.returns d o x there link few; goes = on-is o x link few; within = tie.within o x link; room = input.room d o x link })

  pulses-kept : (port : ℕ) → HasLink p n port → u.net (names.pulse d port) ≡ mask (link_channels p d) (next.pulse port)
  unfolding next tile_step
  pulses-kept port link =
      (runs.pulses port link).steps.moves.0
      ∙ port-shown (switch_size p d) w v (nets.leaves d) (leaves p d n (pos t) (s d) (i d)) port (let below = link.0 in omega (arith, below)) shown
      ∙ ap (λ m. mask m (leaves p d n (pos t) (s d) (i d) port)) wide
      ∙ mask-same (link_channels p d) _ _ (λ c below. outside port (port-link p n port link) c)
    where
      wide : link_channels p d - 1 + 1 ≡ link_channels p d
      wide = let l = some-link-channels p d some in omega (arith, l)

      shown : v.net (nets.leaves d) ≡ mask (place_count (switch_size p d)) (λ place. leaves p d n (pos t) (s d) (i d) (place / (link_channels p d - 1 + 1)) (place % (link_channels p d - 1 + 1)))
      shown =
          leaves-is ∙ ap (λ k. mask (high p d + 1) (λ place. leaves p d n (pos t) (s d) (i d) (place / k) (place % k))) (sym wide)
          ∙ ap (λ m. mask m (λ place. leaves p d n (pos t) (s d) (i d) (place / (link_channels p d - 1 + 1)) (place % (link_channels p d - 1 + 1)))) (sym (place_count-is p d some))

      outside : (port : ℕ) → port ≢ 0 → (c : ℕ) → leaves p d n (pos t) (s d) (i d) port c ≡ at_local port false (leaves p d n (pos t) (s d) (i d) port c)
      outside zero link_here c = absurd (link_here refl)
      outside (suc k) link_here c = refl

  -- ---- flits and link words

  list-front : (q : List Flit) (f : Flit) → front q ≡ Some f → (fs : List Flit) × (q ≡ f ∷ fs)
  list-front [] f e = absurd (cc e)
  list-front (g ∷ fs) f e = (fs, let same : g ≡ f = cc e in ap (λ h. h ∷ fs) same)

  leaves-there : (port c : ℕ) (f : Flit) → front ((s d).queue port c) ≡ Some f → HasPlace p n d port c
  leaves-there port c f is =
      let fs = list-front ((s d).queue port c) f is in
      place-there p n d port c (there-is (has_place p n d port c) port c refl (λ none. cc (sym fs.1 ∙ none)))

  flit-is : (port c : ℕ) (f : Flit) → leaves p d n (pos t) (s d) (i d) port c ≡ true → front ((s d).queue port c) ≡ Some f → port < ports p → v.net (nets.flit d port) ≡ flit_code dest_bits f
  flit-is port c f gone is below =
      (runs.flits port place.0).nets.1.0
      ∙ (mux-shown w v (34 + dest_bits) (leaves_place p nets d port) (λ k. part (names.buffer d port k).front (33 + dest_bits) 0) (in_channels p d port - 1) (Some c)
      (λ j e. (let same : c ≡ j = cc e in omega (arith, same, few))) bits).0 c refl
      ∙ ap (λ x. x / 2 ^ 0 % 2 ^ (33 + dest_bits - 0 + 1)) (front-is port c f fs.0 place fs.1)
      ∙ (let fit = small port c f fs.0 fs.1 in flit-part p n dest_bits f fit.0 fit.1)
    where
      fs : (fs : List Flit) × ((s d).queue port c ≡ f ∷ fs)
      fs = list-front ((s d).queue port c) f is

      place : HasPlace p n d port c
      place = leaves-there port c f is

      few : c < in_channels p d port
      few = place.1

      bits : (k : ℕ) → k ≤ in_channels p d port - 1 → v.net (nets.leaves d) / 2 ^ (port * link_channels p d + k) % 2 ≡ one_if (is_place (Some c) k)
      bits k le = pop-is port k (place.0, omega (arith, few, le)) ∙ ap one_if (leaves-one p d n (pos t) (s d) (i d) port c k gone)

  winner-is : (o : ℕ) → o < ports p → HasPort p n d o → v.net (names.switch d o).winner ≡ mask (ports p - 1 + 1) (is_place (picked_port p d n (pos t) (s d) (i d) o))
  winner-is o below port = go (is_lone p d) refl runs.switch.now
    where
      go : (b : Bool) → is_lone p d ≡ b → HoldsIn (switch_if b) w v → v.net (names.switch d o).winner ≡ mask (ports p - 1 + 1) (is_place (picked_port p d n (pos t) (s d) (i d) o))
      go true is h = lone-shown p d n (switch_names names nets d) (has_port p n d) w v (pos t) (s d) (i d) h (lone-in is) o below (port-has p n d o port)
      go false is h = choice-shown p d n (switch_names names nets d) (switch_size p d) w v (pos t) (s d) (i d) h (switch-in is) o (omega (arith, below))

  out-flit-bits : (o : ℕ) → o < ports p → HasPort p n d o → (k : ℕ) → k ≤ ports p - 1 → v.net (names.switch d o).winner / 2 ^ k % 2 ≡ one_if (is_place (picked_port p d n (pos t) (s d) (i d) o) k)
  out-flit-bits o below port k le =
      ap (λ m. m / 2 ^ k % 2) (winner-is o below port)
      ∙ mask-bit (ports p - 1 + 1) k (is_place (picked_port p d n (pos t) (s d) (i d) o)) (omega (arith, le))

  -- the flit that goes by an output
  out-flit-is : (o : ℕ) → o < ports p → HasPort p n d o → value_of w v (out_flit p n names nets dest_bits d o) ≡ sent_code dest_bits (sent p d n (pos t) (s d) (i d) o)
  out-flit-is o below there_port = go (picked_port p d n (pos t) (s d) (i d) o) refl
    where
      inside : (j : ℕ) → picked_port p d n (pos t) (s d) (i d) o ≡ Some j → j ≤ ports p - 1
      inside j e = let few = chosen-inside p d n (pos t) (s d) (i d) o j e in omega (arith, few)

      shown : ((j : ℕ) → picked_port p d n (pos t) (s d) (i d) o ≡ Some j → value_of w v (out_flit p n names nets dest_bits d o) ≡ value_of w v (port_flit p n nets dest_bits d j))
          × (picked_port p d n (pos t) (s d) (i d) o ≡ None → value_of w v (out_flit p n names nets dest_bits d o) ≡ 0)
      shown = mux-shown w v (34 + dest_bits) (λ port. bit (names.switch d o).winner port) (port_flit p n nets dest_bits d) (ports p - 1) (picked_port p d n (pos t) (s d) (i d) o) inside (out-flit-bits o below there_port)

      go : (x : Option ℕ) → picked_port p d n (pos t) (s d) (i d) o ≡ x → value_of w v (out_flit p n names nets dest_bits d o) ≡ sent_code dest_bits (sent p d n (pos t) (s d) (i d) o)
      go None e = shown.1 e ∙ sym (ap (sent_code dest_bits) (none-sent p d n (pos t) (s d) (i d) o e))
      go (Some port) e =
          let r = chosen-sends p d n (pos t) (s d) (i d) o port e in
          let few = chosen-inside p d n (pos t) (s d) (i d) o port e in
          let has : has_port p n d port ≡ true = port-has p n d port (leaves-there port r.c r.flit r.is_front).0 in
          shown.0 port e ∙ ap (λ b. value_of w v (if b then net (nets.flit d port) else in_bits (34 + dest_bits) 0)) has
          ∙ flit-is port r.c r.flit r.gone r.is_front few ∙ sym (ap (sent_code dest_bits) r.sends)

  out-flit-wide : (o : ℕ) → width_of w (out_flit p n names nets dest_bits d o) ≡ 34 + dest_bits
  out-flit-wide o = or-wide w (gated_words (34 + dest_bits) (λ port. bit (names.switch d o).winner port) (port_flit p n nets dest_bits d)) (ports p - 1) ∙ go (hosts p n d) refl
    where
      go : (b : Bool) → hosts p n d ≡ b → width_of w (if b then net (nets.flit d 0) else in_bits (34 + dest_bits) 0) ≡ 34 + dest_bits
      go true e = (runs.flits 0 e).nets.0.0 ∙ omega arith
      go false e = refl

  -- a flit that is sent by a link goes in a channel of the domain
  sent-few : (o : ℕ) → HasLink p n o → (x : LinkFlit) → sent p d n (pos t) (s d) (i d) o ≡ Some x → x.channel < link_channels p d
  sent-few o link x e =
      let from = sent-from p d n (pos t) (s d) (i d) o x e in
      let below : x.channel < out_channels p d o = (subst (HasOutput p d n) from.active (tie.sound.stages from.port from.c)).1 in
      at-link o (port-link p n o link) below
    where
      at-link : (o : ℕ) → o ≢ 0 → x.channel < out_channels p d o → x.channel < link_channels p d
      at-link zero away few = absurd (away refl)
      at-link (suc k) away few = few

  pub sent-payload : (o : ℕ) (x : LinkFlit) → sent p d n (pos t) (s d) (i d) o ≡ Some x → IsWord x.flit
  sent-payload o x e =
      let from = sent-from p d n (pos t) (s d) (i d) o x e in
      let fs = list-front ((s d).queue from.port from.c) x.flit from.flit in
      (small from.port from.c x.flit fs.0 fs.1).1

  pub sent-words : (o : ℕ) → HasLink p n o → v.net (nets.word d o) ≡ link_code (flit_code dest_bits) link_flit link_channel (sent p d n (pos t) (s d) (i d) o)
  sent-words o link =
      (runs.sends o link).nets.1.0
      ∙ cat-three w v (or_upto (link_channels p d - 1) (λ k. net (nets.on d o k))) (out_channel p nets link_channel d o) (out_flit p n names nets dest_bits d o) link_channel link_flit
      (or-wide w (gated_words link_channel (λ k. net (nets.on d o k)) (in_bits link_channel)) (link_channels p d - 1)) (out-flit-wide o ∙ sym fits.flits)
      ∙ ap (λ m. m * 2 ^ (link_channel + link_flit) + (value_of w v (out_channel p nets link_channel d o) * 2 ^ link_flit + value_of w v (out_flit p n names nets dest_bits d o))) any
      ∙ ap (λ m. one_if (is_some (sent p d n (pos t) (s d) (i d) o)) * 2 ^ (link_channel + link_flit) + (value_of w v (out_channel p nets link_channel d o) * 2 ^ link_flit + m)) (out-flit-is o link.0 (link-port p n d o link))
      ∙ go (sent p d n (pos t) (s d) (i d) o) refl
    where
      l : 0 < link_channels p d
      l = some-link-channels p d some

      few : (x : LinkFlit) → sent p d n (pos t) (s d) (i d) o ≡ Some x → x.channel ≤ link_channels p d - 1
      few x e = let below = sent-few o link x e in omega (arith, below)

      ons : (k : ℕ) → k ≤ link_channels p d - 1 → v.net (nets.on d o k) ≡ one_if (is_on (sent p d n (pos t) (s d) (i d) o) k)
      ons k le = on-is o k link (omega (arith, le, l))

      any : value_of w v (or_upto (link_channels p d - 1) (λ k. net (nets.on d o k))) ≡ one_if (is_some (sent p d n (pos t) (s d) (i d) o))
      any =
          or-bits w v (λ k. net (nets.on d o k)) (is_on (sent p d n (pos t) (s d) (i d) o)) (link_channels p d - 1) ons
          ∙ ap one_if (any-on (link_channels p d - 1) (sent p d n (pos t) (s d) (i d) o) few)

      channel : (x : Option LinkFlit) → sent p d n (pos t) (s d) (i d) o ≡ x
          → ((j : ℕ) → option_map (λ (y : LinkFlit). y.channel) x ≡ Some j → value_of w v (out_channel p nets link_channel d o) ≡ j) × (option_map (λ (y : LinkFlit). y.channel) x ≡ None → value_of w v (out_channel p nets link_channel d o) ≡ 0)
      channel x e =
          mux-shown w v link_channel (λ k. net (nets.on d o k)) (in_bits link_channel) (link_channels p d - 1) (option_map (λ (y : LinkFlit). y.channel) x)
          (λ j is. inside x e j is) (λ k le. ons k le ∙ ap (λ y. one_if (is_on y k)) e ∙ ap one_if (on-place x k))
        where
          inside : (x : Option LinkFlit) → sent p d n (pos t) (s d) (i d) o ≡ x → (j : ℕ) → option_map (λ (y : LinkFlit). y.channel) x ≡ Some j → j ≤ link_channels p d - 1
          inside None e j is = absurd (cc is)
          inside (Some y) e j is = let below = few y e in let same : y.channel ≡ j = cc is in omega (arith, below, same)

      go : (x : Option LinkFlit) → sent p d n (pos t) (s d) (i d) o ≡ x
          → one_if (is_some x) * 2 ^ (link_channel + link_flit) + (value_of w v (out_channel p nets link_channel d o) * 2 ^ link_flit + sent_code dest_bits x) ≡ link_code (flit_code dest_bits) link_flit link_channel x
      go None e = ap (λ m. 0 * 2 ^ (link_channel + link_flit) + (m * 2 ^ link_flit + 0)) ((channel None e).1 refl) ∙ omega arith
      go (Some x) e =
          ap (λ m. 1 * 2 ^ (link_channel + link_flit) + (m * 2 ^ link_flit + flit_code dest_bits x.flit)) ((channel (Some x) e).0 x.channel refl)
          ∙ omega arith

  -- ---- the ejection place

  on-local-is : hosts p n d ≡ true → v.net (nets.on d 0 0) ≡ one_if (is_on (sent p d n (pos t) (s d) (i d) 0) 0)
  on-local-is h =
      (runs.on_local h).nets.1.0
      ∙ rw ((tie.outputs 0 h).active 0 (omega arith), leaves-is, mask-and (high p d + 1) (λ place. is_active (stage_at p d (s d) place) 0 0) (leaves_at p d n (pos t) (s d) (i d)), high-is p d some)
      (on-shown p d n 0 0 (pos t) (s d) (i d) (in_few p d))

  ejected-kept : hosts p n d ≡ true → u.net (names.ejected d) ≡ ejected_code next.ejected
  unfolding next tile_step
  ejected-kept h = (runs.eject h).steps.moves.0 ∙ go (sent p d n (pos t) (s d) (i d) 0) refl
    where
      word : ℕ
      word = 1 * 2 ^ (2 + 32) + (v.net (nets.eject d) / 2 ^ (32 + dest_bits) % 2 ^ (33 + dest_bits - (32 + dest_bits) + 1) * 2 ^ 32 + v.net (nets.eject d) / 2 ^ 0 % 2 ^ (31 - 0 + 1))

      moved : ℕ
      moved = picked (v.net (nets.on d 0 0)) (value_of w v (cat (parts (in_bits 1 1) (parts (part (nets.eject d) (33 + dest_bits) (32 + dest_bits)) (parts (part (nets.eject d) 31 0) no_parts))))) (picked (v.net (q.hears d)) 0 (v.net (names.ejected d)))

      shown : value_of w v (cat (parts (in_bits 1 1) (parts (part (nets.eject d) (33 + dest_bits) (32 + dest_bits)) (parts (part (nets.eject d) 31 0) no_parts)))) ≡ word
      shown =
          let wide : 33 + dest_bits - (32 + dest_bits) + 1 ≡ 2 = omega arith in
          cat-three w v (in_bits 1 1) (part (nets.eject d) (33 + dest_bits) (32 + dest_bits)) (part (nets.eject d) 31 0) 2 32 wide refl

      out : v.net (nets.eject d) ≡ sent_code dest_bits (sent p d n (pos t) (s d) (i d) 0)
      out = (runs.eject h).now.nets.1.0 ∙ out-flit-is 0 (omega arith) h

      on : (x : Option LinkFlit) → sent p d n (pos t) (s d) (i d) 0 ≡ x → v.net (nets.on d 0 0) ≡ one_if (is_on x 0)
      on x e = on-local-is h ∙ ap (λ y. one_if (is_on y 0)) e

      old : (b : Bool) → (i d).hears ≡ b → picked (v.net (q.hears d)) 0 (v.net (names.ejected d)) ≡ ejected_code (next_ejected None b (s d).ejected)
      old true e = ap (λ k. picked k 0 (v.net (names.ejected d))) ((input.offers d h).1 ∙ ap one_if e)
      old false e = ap (λ k. picked k 0 (v.net (names.ejected d))) ((input.offers d h).1 ∙ ap one_if e) ∙ tie.ejected h

      go : (x : Option LinkFlit) → sent p d n (pos t) (s d) (i d) 0 ≡ x → moved ≡ ejected_code (next_ejected x (i d).hears (s d).ejected)
      go None e = ap (λ k. picked k (value_of w v (cat (parts (in_bits 1 1) (parts (part (nets.eject d) (33 + dest_bits) (32 + dest_bits)) (parts (part (nets.eject d) 31 0) no_parts))))) (picked (v.net (q.hears d)) 0 (v.net (names.ejected d)))) (on None e) ∙ old (i d).hears refl
      go (Some x) e =
          let from = sent-from p d n (pos t) (s d) (i d) 0 x e in
          let below : x.channel < 1 = (subst (HasOutput p d n) from.active (tie.sound.stages from.port from.c)).1 in
          let here_channel : (x.channel == 0) ≡ true = grind (arith, nat_tests, below) in
          let fs = list-front ((s d).queue from.port from.c) x.flit from.flit in
          let fit = small from.port from.c x.flit fs.0 fs.1 in
          let code : v.net (nets.eject d) ≡ flit_code dest_bits x.flit = out ∙ ap (sent_code dest_bits) e in
          ap (λ k. picked k (value_of w v (cat (parts (in_bits 1 1) (parts (part (nets.eject d) (33 + dest_bits) (32 + dest_bits)) (parts (part (nets.eject d) 31 0) no_parts))))) (picked (v.net (q.hears d)) 0 (v.net (names.ejected d)))) (on (Some x) e ∙ ap one_if here_channel)
          ∙ shown
          ∙ ap (λ k. 1 * 2 ^ (2 + 32) + (k / 2 ^ (32 + dest_bits) % 2 ^ (33 + dest_bits - (32 + dest_bits) + 1) * 2 ^ 32 + k / 2 ^ 0 % 2 ^ (31 - 0 + 1))) code
          ∙ eject-word dest_bits x.flit fit.0 fit.1

  held-kept : (f : Flit) → next.ejected ≡ Some f → IsWord f
  unfolding next tile_step
  held-kept f e = go (sent p d n (pos t) (s d) (i d) 0) refl (i d).hears e
    where
      go : (x : Option LinkFlit) → sent p d n (pos t) (s d) (i d) 0 ≡ x → (b : Bool) → next_ejected x b (s d).ejected ≡ Some f → IsWord f
      go None is true h = absurd (cc h)
      go None is false h = tie.held f h
      go (Some x) is b h =
          let from = sent-from p d n (pos t) (s d) (i d) 0 x is in
          let fs = list-front ((s d).queue from.port from.c) x.flit from.flit in
          let same : x.flit ≡ f = cc h in
          subst IsWord same (small from.port from.c x.flit fs.0 fs.1).1

  -- ---- buffers

  room : (port c : ℕ) → is_filled (comes_in p d (s d) (i d) port c) ≡ true → length ((s d).queue port c) < p.buffer
  room port c e = comes-room p n d (s d) (i d) port c may e

  -- the word of a flit that comes by a link
  arrived-word : (port m c : ℕ) (f : Flit) → neighbour p n port ≡ Some m → flit_on ((i d).arrives port) c ≡ f ∷ [] → v.net (names.buffer d port c).word ≡ word_code p n dest_bits f
  arrived-word port m c f e comes = go ((i d).arrives port) refl comes
    where
      there_link : HasLink p n port
      there_link = link-there p n port m e

      nets_hold : HoldsIn (arrival_group p n nets q size dest_bits port) w v
      nets_hold = arrivals port there_link

      flit-is-one : (x : LinkFlit) → flit_on (Some x) c ≡ f ∷ [] → x.flit ≡ f
      flit-is-one x h = inner (x.channel == c) h
        where
          inner : (b : Bool) → (if b then x.flit ∷ [] else []) ≡ f ∷ [] → x.flit ≡ f
          inner true k = cc k
          inner false k = absurd (cc k)

      on-port : (x : LinkFlit) → (i d).arrives port ≡ Some x → (input.links port m e).0 ≡ Some x
      on-port x is = inner (owner p m (opposite port) (pos t -ℤ pos p.stages) == d) (sym ((input.links port m e).1.its_own d) ∙ is)
        where
          inner : (b : Bool) → (if b then (input.links port m e).0 else None) ≡ Some x → (input.links port m e).0 ≡ Some x
          inner true k = k
          inner false k = absurd (cc k)

      stored : (x : LinkFlit) → (i d).arrives port ≡ Some x → v.net (names.buffer d port c).word ≡ word_code p n dest_bits x.flit
      stored x is =
          let word = on-port x is in
          let channel = (input.links port m e).1.channel d x is in
          let inside = host-tile p x.flit.dest d sound channel.2 in
          let most = fits.dests in
          let dest_fits : x.flit.dest < 2 ^ dest_bits = omega (arith, inside, most) in
          let shown : v.net (q.link_in port) ≡ 2 ^ (link_channel + (34 + dest_bits)) + (x.channel * 2 ^ (34 + dest_bits) + flit_code dest_bits x.flit) =
          (input.links port m e).1.shown ∙ ap (link_code (flit_code dest_bits) link_flit link_channel) word ∙ ap (λ k. link_code (flit_code dest_bits) k link_channel (Some x)) fits.flits in
          let held = link-word dest_bits link_channel x.channel x.flit fits.some_dest dest_fits ((input.links port m e).1.payload x word) in
          let wide : 33 + dest_bits - 0 + 1 ≡ 34 + dest_bits = omega arith in
          ap v.net (runs.one_word port c there_link) ∙ nets_hold.nets.1.1.0
          ∙ cat-two w v (route_bits p n (nets.goal port) dest_bits) (part (q.link_in port) (33 + dest_bits) 0) (34 + dest_bits) wide
          ∙ ap (λ k. k * 2 ^ (34 + dest_bits) + v.net (q.link_in port) / 2 ^ 0 % 2 ^ (33 + dest_bits - 0 + 1))
          (routed-to p n dest_bits w v (nets.goal port) x.flit.dest (nets_hold.nets.1.0 ∙ ap (λ k. k / 2 ^ 32 % 2 ^ (31 + dest_bits - 32 + 1)) shown ∙ held.dest) dest_fits)
          ∙ ap (λ k. 2 ^ route p n x.flit.dest * 2 ^ (34 + dest_bits) + k) (ap (λ k. k / 2 ^ 0 % 2 ^ (33 + dest_bits - 0 + 1)) shown ∙ held.flit)

      go : (o : Option LinkFlit) → (i d).arrives port ≡ o → flit_on o c ≡ f ∷ [] → v.net (names.buffer d port c).word ≡ word_code p n dest_bits f
      go None is h = absurd (cc h)
      go (Some x) is h = stored x is ∙ ap (word_code p n dest_bits) (flit-is-one x h)

  -- ---- the attachment

  few-channels : channels p d ≤ 2 ^ (current_high (channels p d) + 1)
  few-channels = go (nat_le (channels p d) 2) refl
    where
      most : channels p d ≤ 4
      most = let x : DomainPart = record { name = []; channels = 0 } in rw (slice_get-get_or p.domains d x there) (sound.channels d x there).1

      go : (b : Bool) → nat_le (channels p d) 2 ≡ b → channels p d ≤ 2 ^ ((if b then 0 else 1) + 1)
      go true e = let le : channels p d ≤ 2 = grind (arith, nat_tests, e) in omega (arith, le)
      go false e = omega (arith, most)

  attach-in : hosts p n d ≡ true → AttachIn p n d (attach_names names nets d) q (attach_size p size dest_bits d) w v (s d) (i d)
  attach-in h = record {
    packet = tie.packet h;
    current = tie.current h;
    few = tie.sound.current;
    counts = λ c below. (tie.buffers 0 c (h, below)).1.count ∙ length-map (word_code p n dest_bits) ((s d).queue 0 c);
    offer = (input.offers d h).0;
    last_width = runs.last_width h;
    payload_width = runs.payload_width h;
    channels_fit = few-channels;
    some_dest = fits.some_dest;
  }

  dest-inside : (to : ℕ) → hosts p to d ≡ true → to < 2 ^ dest_bits
  dest-inside to h = let inside = host-tile p to d sound h in let most = fits.dests in omega (arith, inside, most)

  enters-at : hosts p n d ≡ true → (c : ℕ) → value_of w v (enter_at (attach_names names nets d) (attach_size p size dest_bits d) c) ≡ one_if (is_filled (comes_in p d (s d) (i d) 0 c))
  enters-at h c = pushes p n d (attach_names names nets d) q (attach_size p size dest_bits d) w v u (s d) (i d) (runs.attach h).now (runs.attach h).steps (attach-in h) sound.ranges_apart dest-inside tie.sound.packet c

  enters-word : hosts p n d ≡ true → (f : Flit) → entry p d (s d).packet (word_in p (s d) (i d)) ≡ Some f → v.net (nets.local d) ≡ word_code p n dest_bits f
  enters-word h f e = word-is p n d (attach_names names nets d) q (attach_size p size dest_bits d) w v u (s d) (i d) (runs.attach h).now (runs.attach h).steps (attach-in h) sound.ranges_apart dest-inside tie.sound.packet f e

  entered-is : (c : ℕ) (f : Flit) → comes_in p d (s d) (i d) 0 c ≡ f ∷ [] → entry p d (s d).packet (word_in p (s d) (i d)) ≡ Some f
  entered-is c f e = go ((s d).current == c) (entry p d (s d).packet (word_in p (s d) (i d))) e
    where
      go : (b : Bool) (o : Option Flit) → (if b then option_to_list o else []) ≡ f ∷ [] → o ≡ Some f
      go false o h = absurd (cc h)
      go true None h = absurd (cc h)
      go true (Some g) h = let same : g ≡ f = cc h in ap Some same

  packet-next : hosts p n d ≡ true → PacketTie (names.passing d) (names.dropping d) (names.dest d) u next.packet
  unfolding next tile_step
  packet-next h = packet-kept p n d (attach_names names nets d) q (attach_size p size dest_bits d) w v u (s d) (i d) (runs.attach h).now (runs.attach h).steps (attach-in h) sound.ranges_apart dest-inside tie.sound.packet

  current-next : hosts p n d ≡ true → u.net (names.current d) ≡ next.current
  unfolding next tile_step
  current-next h = current-kept p n d (attach_names names nets d) q (attach_size p size dest_bits d) w v u (s d) (i d) (runs.attach h).now (runs.attach h).steps (attach-in h) sound.ranges_apart dest-inside tie.sound.packet

  dropped-next : hosts p n d ≡ true → u.net (names.dropped d) ≡ one_if next.dropped
  unfolding next tile_step
  dropped-next h = dropped-kept p n d (attach_names names nets d) q (attach_size p size dest_bits d) w v u (s d) (i d) (runs.attach h).now (runs.attach h).steps (attach-in h) sound.ranges_apart dest-inside tie.sound.packet

  queue-kept : (port c : ℕ) → HasPlace p n d port c → BufferTie (word_code p n dest_bits) (names.buffer d port c) size u (next.queue port c)
  unfolding next
  queue-kept zero c place =
      let run = runs.entered c place.0 place.1 in
      buffer-kept p d n 0 c (word_code p n dest_bits) (names.buffer d 0 c) size (enter_at (attach_names names nets d) (attach_size p size dest_bits d) c) (pop_of p nets d 0 c) fits.pointers fits.counts w v u run.now run.later run.steps (pos t) (s d) (i d)
      (record {
        push = run.now.nets.0 ∙ enters-at place.0 c;
        word = λ f e. ap v.net (runs.local_word c place.0) ∙ enters-word place.0 f (entered-is c f e);
        pop = run.now.nets.1.0 ∙ pop-is 0 c place;
        short = tie.short 0 c;
        room = room 0 c;
      })
      (tie.buffers 0 c place)
  queue-kept (suc port) c place = go (neighbour p n (suc port)) refl place.0.1
    where
      go : (o : Option ℕ) → neighbour p n (suc port) ≡ o → is_some o ≡ true → BufferTie (word_code p n dest_bits) (names.buffer d (suc port) c) size u ((tile_step p d n (pos t) (s d) (i d)).queue (suc port) c)
      go None e f = absurd (cc f)
      go (Some m) e f =
          let run = runs.linked (suc port) m c e place.1 in
          let link = input.links (suc port) m e in
          buffer-kept p d n (suc port) c (word_code p n dest_bits) (names.buffer d (suc port) c) size (link_push p names q link_flit link_channel d (suc port) m c) (pop_of p nets d (suc port) c) fits.pointers fits.counts w v u run.now run.later run.steps (pos t) (s d) (i d)
          (record {
            push = run.now.nets.0
                ∙ arrival-pushes (flit_code dest_bits) link_flit link_channel _ (q.link_in (suc port)) w v (owner p m (opposite (suc port)) (pos t -ℤ pos p.stages) == d) link.0 ((i d).arrives (suc port)) c fits.some_channel
                (record { owned = slots.arriving (suc port) m e; shown = link.1.shown; its_own = link.1.its_own d; fits = link-fits (suc port) m e });
            word = λ x is. arrived-word (suc port) m c x e is;
            pop = run.now.nets.1.0 ∙ pop-is (suc port) c place;
            short = tie.short (suc port) c;
            room = room (suc port) c;
          })
          (tie.buffers (suc port) c place)

  -- ---- the domain

  pub domain-kept : DomainTie p n d names size dest_bits u (pos (suc t)) (tile_step p d n (pos t) (s d) (i d))
  unfolding next
  domain-kept = record {
    idle = places-idle;
    outputs = outputs-kept;
    switches = switches-kept;
    credits = credits-kept;
    turns = ports-turns-kept;
    pulses = pulses-kept;
    buffers = queue-kept;
    packet = packet-next;
    current = current-next;
    dropped = dropped-next;
    ejected = ejected-kept;
    absent = λ port c none. absent-kept p n d (pos t) (s d) (i d) port c may tie.sound.current none (tie.absent port c none);
    sound = after;
    within = λ o x link. within-kept p n d (pos t) (s d) (i d) o x may link (tie.within o x link);
    held = held-kept;
    words = λ port c. words-kept p n d (pos t) (s d) (i d) port c (λ k x e. (let by = arrives-by k x e in arrives-word k by.0 by.1 x e)) (input.payloads d) (tie.words port c);
    short = λ port c. short-kept p n d (pos t) (pos (suc t)) (s d) (i d) port c may after (tie.short port c);
    home = λ e port c. away-kept p n d (pos t) (s d) (i d) port c (λ f h. away-home p d n f.dest sound here h e) (tie.sound.queued port c) (tie.home e port c);
  }
    where
      after : IsSoundTile p d n (pos (suc t)) (tile_step p d n (pos t) (s d) (i d))
      after =
          let same : pos t +ℤ pos 1 ≡ pos (suc t) = omega (arith, ints) in
          subst (λ k. IsSoundTile p d n k (tile_step p d n (pos t) (s d) (i d))) same (tile_step-sound p d n (pos t) (s d) (i d) (positive p.dims sound.sides) tie.sound may.home)
