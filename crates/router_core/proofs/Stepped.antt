-- Heads are placed, flits sent, and an attachment takes its word and its flit: that is the definition's step of a tile to
-- which nothing arrives and no credit comes back.
use Rattle.std.proofs.Common.{◌≡◌, ℕ, ◌+◌, ◌-◌, ◌≤◌, Bool, true, false, List, [], ◌∷◌, length, drop, refl, sym, ap, ◌∙◌, arith, Option, Some, None, ℤ}
use Rattle.std.specs.Prelude.{◌==◌, ◌&&◌, ◌||◌, not, if◌then◌else◌}
use Rattle.std.proofs.lemmas.Bool.{eqb-true}
use Rattle.std.proofs.lemmas.Bool.Decides.{nat_tests}
use Rattle.noc_model.specs.declared.Flit.{Flit}
use Rattle.noc_model.specs.declared.LinkFlit.{LinkFlit}
use Rattle.noc_model.specs.declared.Grant.{Grant}
use Rattle.noc_model.specs.declared.Packet.{Packet}
use Rattle.noc_model.specs.declared.Packet.TheVariants.{Between, Passing, Dropping}
use Rattle.noc_model.specs.declared.Stage.{Stage}
use Rattle.noc_model.specs.declared.Stage.TheVariants.{Idle, Routed, Active}
use Rattle.noc_model.specs.Plan.{Plan}
use Rattle.noc_model.specs.Tile.{Tile, TileIn}
use Rattle.noc_model.specs.Step.{tile_step, taken_channel, is_place, grant, is_channel, leaves, front, sent, is_on, is_tail_on, is_tail, one_if, next_stage, next_ejected, with_channel, word_in, is_open, is_ready_packet}
use Rattle.noc_model.specs.Holder.{IsHolder}
use Rattle.noc_model.proofs.Switch.{grant-ready, sent-by}
use Rattle.noc_model.proofs.Holders.{taken-free}
use Rattle.router_core.specs.declared.attachments.Told.{Told}
use Rattle.router_core.specs.Attachments.{outside}
use Rattle.router_core.specs.Parts.{Parts}
use Rattle.router_core.specs.Shown.{Shows}
use Rattle.router_core.specs.Heads.{placed_stage}
use Rattle.router_core.specs.Attach.{attached}
use Rattle.router_core.specs.Crossing.{switched, flit_of}

-- a flit leaves only an active channel
leaves-active : (p : Plan) (d n : ℕ) (t : ℤ) (s : Tile) (i : TileIn) (port c : ℕ) → is_channel (grant p d n t s i port) c ≡ true → (o : ℕ) × (w : ℕ) × (s.stage port c ≡ Active o w)
leaves-active p d n t s i port c e = go (grant p d n t s i port) refl e
  where
    go : (g : Option Grant) → grant p d n t s i port ≡ g → is_channel g c ≡ true → (o : ℕ) × (w : ℕ) × (s.stage port c ≡ Active o w)
    go None is e = absurd (cc e)
    go (Some g) is e =
        let ready = grant-ready p d n t s i port g is in
        let same : g.channel ≡ c = eqb-true g.channel c e in
        (g.out, g.to, ap (s.stage port) (sym same) ∙ ready.active)

idle-stays : (p : Plan) (d n : ℕ) (t : ℤ) (s : Tile) (i : TileIn) (port c : ℕ) → s.stage port c ≡ Idle → is_channel (grant p d n t s i port) c ≡ false
idle-stays p d n t s i port c idle = go (is_channel (grant p d n t s i port) c) refl
  where
    go : (b : Bool) → is_channel (grant p d n t s i port) c ≡ b → is_channel (grant p d n t s i port) c ≡ false
    go false e = e
    go true e = let active = leaves-active p d n t s i port c e in absurd (let bad : Idle ≡ Active active.0 active.1 = sym idle ∙ active.2 in cc bad)

routed-stays : (p : Plan) (d n : ℕ) (t : ℤ) (s : Tile) (i : TileIn) (port c o : ℕ) → s.stage port c ≡ Routed o → is_channel (grant p d n t s i port) c ≡ false
routed-stays p d n t s i port c o waits = go (is_channel (grant p d n t s i port) c) refl
  where
    go : (b : Bool) → is_channel (grant p d n t s i port) c ≡ b → is_channel (grant p d n t s i port) c ≡ false
    go false e = e
    go true e = let active = leaves-active p d n t s i port c e in absurd (let bad : Routed o ≡ Active active.0 active.1 = sym waits ∙ active.2 in cc bad)

stage-is : (p : Plan) (d n : ℕ) (t : ℤ) (s : Tile) (i : TileIn) (port c : ℕ) (st : Stage) → s.stage port c ≡ st
    → (if is_channel (grant p d n t s i port) c && is_tail (front (s.queue port c)) then Idle else placed_stage p d n s port c st) ≡ next_stage p d n t s i port c st
unfolding leaves
stage-is p d n t s i port c Idle e =
    ap (λ b. if b && is_tail (front (s.queue port c)) then Idle else placed_stage p d n s port c Idle) (idle-stays p d n t s i port c e)
stage-is p d n t s i port c (Routed o) e =
    ap (λ b. if b && is_tail (front (s.queue port c)) then Idle else placed_stage p d n s port c (Routed o)) (routed-stays p d n t s i port c o e)
stage-is p d n t s i port c (Active o w) e = refl

and-second : (a b : Bool) → (a && b) ≡ true → b ≡ true
and-second true b e = e
and-second false b e = absurd (cc e)

-- the packets of a tile hold the channels that they go out by
abbrev pub AreHeld : Plan → ℕ → Tile → Type 0
AreHeld p d s = (o w port c : ℕ) → IsHolder p d s o w port c → s.held o w ≡ true

-- a tail goes out only on a channel that is held
tail-held : (p : Plan) (d n : ℕ) (t : ℤ) (s : Tile) (i : TileIn) (o w : ℕ) → AreHeld p d s → is_tail_on (sent p d n t s i o) w ≡ true → s.held o w ≡ true
tail-held p d n t s i o w held e = go (sent p d n t s i o) refl e
  where
    go : (x : Option LinkFlit) → sent p d n t s i o ≡ x → is_tail_on x w ≡ true → s.held o w ≡ true
    go None is e = absurd (cc e)
    go (Some x) is e =
        let by = sent-by p d n t s i o x is in
        let ready = grant-ready p d n t s i by.port by.by by.granted in
        let on : x.channel ≡ w = eqb-true x.channel w (and-second x.flit.tail (x.channel == w) e) in
        let active = ready.active ∙ ap (λ k. Active k by.by.to) by.out ∙ ap (Active o) (by.to ∙ on) in
        held o w by.port by.by.channel (record { inside = by.inside; below = ready.in_range; active = active })

-- a channel that is given out isn't freed at once
held-is : (p : Plan) (d n : ℕ) (t : ℤ) (s : Tile) (i : TileIn) (o w : ℕ) → AreHeld p d s
    → ((s.held o w || is_place (taken_channel p d n s o) w) && not (is_tail_on (sent p d n t s i o) w))
    ≡ ((s.held o w && not (is_tail_on (sent p d n t s i o) w)) || is_place (taken_channel p d n s o) w)
held-is p d n t s i o w held = go (taken_channel p d n s o) refl
  where
    abbreviate : (h b : Bool) → ((h || false) && not b) ≡ ((h && not b) || false)
    abbreviate true true = refl
    abbreviate true false = refl
    abbreviate false b = refl

    given : (h b : Bool) → b ≡ false → ((h || true) && not b) ≡ ((h && not b) || true)
    given true true e = absurd (cc e)
    given true false e = refl
    given false true e = absurd (cc e)
    given false false e = refl

    no-tail : (b : Bool) → is_tail_on (sent p d n t s i o) w ≡ b → s.held o w ≡ false → is_tail_on (sent p d n t s i o) w ≡ false
    no-tail false e free = e
    no-tail true e free = absurd (let bad : true ≡ false = sym (tail-held p d n t s i o w held e) ∙ free in cc bad)

    at : (b : Bool) (k : ℕ) → taken_channel p d n s o ≡ Some k → (k == w) ≡ b
        → ((s.held o w || (k == w)) && not (is_tail_on (sent p d n t s i o) w)) ≡ ((s.held o w && not (is_tail_on (sent p d n t s i o) w)) || (k == w))
    at false k is e = ap (λ z. (s.held o w || z) && not (is_tail_on (sent p d n t s i o) w)) e ∙ abbreviate (s.held o w) (is_tail_on (sent p d n t s i o) w)
        ∙ sym (ap (λ z. (s.held o w && not (is_tail_on (sent p d n t s i o) w)) || z) e)
    at true k is e =
        let free = taken-free p d n s o w (is ∙ ap Some (eqb-true k w e)) in
        ap (λ z. (s.held o w || z) && not (is_tail_on (sent p d n t s i o) w)) e
        ∙ given (s.held o w) (is_tail_on (sent p d n t s i o) w) (no-tail (is_tail_on (sent p d n t s i o) w) refl free)
        ∙ sym (ap (λ z. (s.held o w && not (is_tail_on (sent p d n t s i o) w)) || z) e)

    go : (z : Option ℕ) → taken_channel p d n s o ≡ z
        → ((s.held o w || is_place (taken_channel p d n s o) w) && not (is_tail_on (sent p d n t s i o) w))
        ≡ ((s.held o w && not (is_tail_on (sent p d n t s i o) w)) || is_place (taken_channel p d n s o) w)
    go None is =
        ap (λ z. (s.held o w || is_place z w) && not (is_tail_on (sent p d n t s i o) w)) is ∙ abbreviate (s.held o w) (is_tail_on (sent p d n t s i o) w)
        ∙ sym (ap (λ z. (s.held o w && not (is_tail_on (sent p d n t s i o) w)) || is_place z w) is)
    go (Some k) is =
        ap (λ z. (s.held o w || is_place z w) && not (is_tail_on (sent p d n t s i o) w)) is ∙ at (k == w) k is refl
        ∙ sym (ap (λ z. (s.held o w && not (is_tail_on (sent p d n t s i o) w)) || is_place z w) is)

ejected-is : (x : Option LinkFlit) (hears : Bool) (old : Option Flit) → next_ejected (with_channel 0 (flit_of x)) hears old ≡ next_ejected x hears old
ejected-is None true old = refl
ejected-is None false old = refl
ejected-is (Some x) true old = refl
ejected-is (Some x) false old = refl

-- the parts come to the step
pub step-shows : (r : Parts) (p : Plan) (d n : ℕ) (t : ℤ) (s : Tile) (x : Told) → AreHeld p d s
    → Shows r p d (attached p d (switched p d n t s (outside x)) (word_in p s (outside x)) (flit_of (sent p d n t s (outside x) 0)) x.hears)
    → Shows r p d (tile_step p d n t s (outside x))
unfolding tile_step leaves
step-shows r p d n t s x held shown = record {
  queue = shown.queue;
  stage = λ port c port_in c_in. shown.stage port c port_in c_in ∙ stage-is p d n t s (outside x) port c (s.stage port c) refl;
  pulse = shown.pulse;
  held = λ o w o_in w_in. shown.held o w o_in w_in ∙ held-is p d n t s (outside x) o w held;
  credits = λ o w linked o_in w_in. shown.credits o w linked o_in w_in ∙ ap (λ k. k - one_if (is_on (sent p d n t s (outside x) o) w)) (let e : s.credits o w ≡ s.credits o w + 0 = omega arith in e);
  allocation = shown.allocation;
  switch = shown.switch;
  turn = shown.turn;
  packet = shown.packet;
  current = shown.current;
  dropped = shown.dropped;
  ejected = shown.ejected ∙ ejected-is (sent p d n t s (outside x) 0) x.hears s.ejected;
}

-- ---- the attachment

-- where a word is taken, it is taken when fewer flits wait too
less-ready : (k : Packet) (n m buffer : ℕ) → m ≤ n → is_ready_packet k n buffer ≡ true → is_ready_packet k m buffer ≡ true
less-ready Between n m buffer less e = grind (arith, nat_tests, less, e)
less-ready (Passing dest) n m buffer less e = grind (arith, nat_tests, less, e)
less-ready Dropping n m buffer less e = refl

drop-less : (b : Bool) (fs : List Flit) → length (drop (one_if b) fs) ≤ length fs
drop-less false fs = omega arith
drop-less true [] = omega arith
drop-less true (f ∷ fs) = omega arith

-- the attachment that was open still has room after the flits were sent
pub still-room : (p : Plan) (d n : ℕ) (t : ℤ) (s : Tile) (i : TileIn) (packet : Packet) (flits : List Flit) → is_open p s ≡ true
    → packet ≡ s.packet → flits ≡ (switched p d n t s i).queue 0 s.current → is_ready_packet packet (length flits) p.buffer ≡ true
unfolding is_open
still-room p d n t s i packet flits is_taking same_packet same_flits =
    ap (λ k. is_ready_packet k (length flits) p.buffer) same_packet
    ∙ ap (λ fs. is_ready_packet s.packet (length fs) p.buffer) same_flits
    ∙ less-ready s.packet (length (s.queue 0 s.current)) (length ((switched p d n t s i).queue 0 s.current)) p.buffer
    (drop-less (is_channel (grant p d n t s i 0) s.current) (s.queue 0 s.current)) is_taking

-- the word that is taken
pub word-taken : (p : Plan) (s : Tile) (x : Told) (ready : Bool) → ready ≡ is_open p s → (if ready then x.offer else None) ≡ word_in p s (outside x)
unfolding word_in
word-taken p s x ready e = ap (λ b. if b then x.offer else None) e
