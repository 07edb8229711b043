-- Where the flits that go out on an output channel lead to.
use Rattle.std.proofs.Common.{◌≡◌, ℕ, ◌+◌, ◌*◌, ◌/◌, ◌%◌, ◌<◌, ◌⊎◌, inl, inr, Bool, true, false, Option, List, [], ◌∷◌, refl, sym, ap, ◌∙◌, subst, arith, ◌==◌, ◌&&◌, ℤ}
use Rattle.std.specs.Prelude.{Some, None, is_some, if◌then◌else◌, option_and_then}
use Rattle.std.proofs.lemmas.Bool.Decides.{nat_tests}
use Rattle.noc_model.specs.declared.Flit.{Flit}
use Rattle.noc_model.specs.declared.LinkFlit.{LinkFlit}
use Rattle.noc_model.specs.declared.Grant.{Grant}
use Rattle.noc_model.specs.declared.Stage.TheVariants.{Routed, Active}
use Rattle.noc_model.specs.Plan.{Plan, link_channels, in_channels}
use Rattle.noc_model.specs.Tile.{Tile, TileIn}
use Rattle.noc_model.specs.Step.{grant, is_channel, leaves, front, with_channel, sent, is_on, is_tail, is_tail_on, flit_on, tile_step}
use Rattle.noc_model.specs.Holder.{IsHolder, HasHolder, IsHeldTile, holder_of}
use Rattle.noc_model.specs.Packets.{may_come, after_flit, ArePackets}
use Rattle.noc_model.proofs.Switch.{grant-ready, sent-by}
use Rattle.noc_model.proofs.Inputs.{input-within, port-place, channel-place}
use Rattle.noc_model.proofs.Holders.{granted-sent, granted-leaves, holder-stays, holder-from, Stays, Wins, WasOrWins, taken-free, old-holder}
use Rattle.noc_model.proofs.HolderMap.{holder_of-is, held-is_some}
use Rattle.noc_model.proofs.Packets.{moved_on, FrontStands, stays-put}

-- where the holder of an output channel stands, and between packets if there is none
abbrev pub entry_at : Plan → ℕ → Tile → (ℕ → ℕ → Option ℕ) → ℕ → ℕ → Option ℕ
entry_at p d s g o w = option_and_then (λ k. g (k / link_channels p d) (k % link_channels p d)) (holder_of p d s o w)

pub entry-holder : (p : Plan) (d n : ℕ) (s : Tile) (g : ℕ → ℕ → Option ℕ) (o w port c : ℕ) → IsHeldTile p d n s
    → IsHolder p d s o w port c → entry_at p d s g o w ≡ g port c
entry-holder p d n s g o w port c right is =
    let within = input-within p d port c is.below in
    ap (option_and_then (λ k. g (k / link_channels p d) (k % link_channels p d))) (holder_of-is p d n s o w port c right is)
    ∙ ap (λ k. g k ((port * link_channels p d + c) % link_channels p d)) (port-place p d port c within)
    ∙ ap (g port) (channel-place p d port c within)

pub entry-free : (p : Plan) (d n : ℕ) (s : Tile) (g : ℕ → ℕ → Option ℕ) (o w : ℕ) → IsHeldTile p d n s
    → s.held o w ≡ false → entry_at p d s g o w ≡ None
entry-free p d n s g o w right free = go (holder_of p d s o w) refl
  where
    go : (k : Option ℕ) → holder_of p d s o w ≡ k
        → option_and_then (λ k. g (k / link_channels p d) (k % link_channels p d)) k ≡ None
    go None e = refl
    go (Some k) e = absurd (let is = held-is_some p d n s o w right in let some : is_some (holder_of p d s o w) ≡ true = ap is_some e in cc (is, some, free))

-- where each input channel stands after a cycle
abbrev pub next_stand : Plan → ℕ → ℕ → ℤ → Tile → TileIn → (ℕ → ℕ → Option ℕ) → ℕ → ℕ → Option ℕ
next_stand p d n t s i g port c = moved_on (leaves p d n t s i port c) (s.queue port c) (g port c)

-- what a step needs of where the tile's channels stand
pub record Stand (p : Plan) (d n : ℕ) (t : ℤ) (s : Tile) (i : TileIn) (g : ℕ → ℕ → Option ℕ) : Type 0 where
  pub held : IsHeldTile p d n s
  pub held_after : IsHeldTile p d n (tile_step p d n t s i)
  pub stands : (port c : ℕ) → c < in_channels p d port → FrontStands p n (g port c) (s.queue port c) (s.stage port c)
  pub fits : (port c : ℕ) (f : Flit) (fs : List Flit) → c < in_channels p d port → s.queue port c ≡ f ∷ fs
      → may_come (g port c) f ≡ true

flit_on-off : (x : Option LinkFlit) (w : ℕ) → is_on x w ≡ false → flit_on x w ≡ []
flit_on-off None w e = refl
flit_on-off (Some x) w e = ap (λ b. if b then x.flit ∷ [] else []) e

flit_on-on : (x : LinkFlit) (w : ℕ) → (x.channel == w) ≡ true → flit_on (Some x) w ≡ x.flit ∷ []
flit_on-on x w e = ap (λ b. if b then x.flit ∷ [] else []) e

tail_on-off : (x : Option LinkFlit) (w : ℕ) → is_on x w ≡ false → is_tail_on x w ≡ false
tail_on-off None w e = refl
tail_on-off (Some x) w e = both x.flit.tail (x.channel == w) e
  where
    both : (a b : Bool) → b ≡ false → (a && b) ≡ false
    both true b e = e
    both false b e = refl

-- a flit that leaves a channel goes out on what the channel holds
leaves-on : (p : Plan) (d n : ℕ) (t : ℤ) (s : Tile) (i : TileIn) (port c o w : ℕ) → s.stage port c ≡ Active o w
    → leaves p d n t s i port c ≡ true → is_on (sent p d n t s i o) w ≡ true
unfolding leaves
leaves-on p d n t s i port c o w active e = go (grant p d n t s i port) refl e
  where
    on : (v : ℕ) (f : Option Flit) (g : Flit) → f ≡ Some g → v ≡ w → is_on (with_channel v f) w ≡ true
    on v None g is same = absurd (cc is)
    on v (Some f) g is same = grind (arith, nat_tests, same)

    go : (x : Option Grant) → grant p d n t s i port ≡ x → is_channel x c ≡ true → is_on (sent p d n t s i o) w ≡ true
    go None is h = absurd (cc h)
    go (Some g) is h =
        let ready = grant-ready p d n t s i port g is in
        let at : g.channel ≡ c = grind (arith, nat_tests, h) in
        let same : Active g.out g.to ≡ Active o w = sym ready.active ∙ ap (s.stage port) at ∙ active in
        let out : g.out ≡ o = cc (same) in
        let to : g.to ≡ w = cc (same) in
        subst (λ k. is_on (sent p d n t s i k) w ≡ true) out
        (subst (λ x. is_on x w ≡ true) (sym (granted-sent p d n t s i port g is)) (on g.to (front (s.queue port g.channel)) ready.flit ready.is_front to))

-- a channel that wins stands between packets
won-stands : (p : Plan) (d n : ℕ) (t : ℤ) (s : Tile) (i : TileIn) (g : ℕ → ℕ → Option ℕ) (port c o : ℕ)
    → s.stage port c ≡ Routed o → FrontStands p n (g port c) (s.queue port c) (s.stage port c)
    → next_stand p d n t s i g port c ≡ None
won-stands p d n t s i g port c o was stands =
    let between : g port c ≡ None = (subst (FrontStands p n (g port c) (s.queue port c)) was stands).0 in
    ap (λ b. moved_on b (s.queue port c) (g port c)) (stays-put p d n t s i port c (λ k w h. cc (was, h))) ∙ between

-- what holds the channel after the cycle, where it wasn't held: a channel that wins
new-holder : (p : Plan) (d n : ℕ) (t : ℤ) (s : Tile) (i : TileIn) (g : ℕ → ℕ → Option ℕ) (o w port c : ℕ)
    → Stand p d n t s i g → s.held o w ≡ false
    → IsHolder p d (tile_step p d n t s i) o w port c → next_stand p d n t s i g port c ≡ None
new-holder p d n t s i g o w port c stand free is = go (holder-from p d n t s i o w port c is)
  where
    go : WasOrWins p d n t s i port c o w → next_stand p d n t s i g port c ≡ None
    go came = cases came.from
      where
        cases : Stays p d n t s i port c (s.stage port c) o w ⊎ Wins p d n s port c (s.stage port c) o w
            → next_stand p d n t s i g port c ≡ None
        cases (inl stays) =
            absurd (let used = stand.held.held o w port c (old-holder p d s o w port c came.inside came.below stays.was) in cc (used, free))
        cases (inr wins) = won-stands p d n t s i g port c o wins.was (stand.stands port c came.below)

-- nothing goes out: where the entry stands stays
entry-quiet : (p : Plan) (d n : ℕ) (t : ℤ) (s : Tile) (i : TileIn) (g : ℕ → ℕ → Option ℕ) (o w : ℕ)
    → Stand p d n t s i g → is_on (sent p d n t s i o) w ≡ false
    → entry_at p d s g o w ≡ entry_at p d (tile_step p d n t s i) (next_stand p d n t s i g) o w
entry-quiet p d n t s i g o w stand off = go (s.held o w) refl
  where
    next : Tile
    next = tile_step p d n t s i

    stood : (port c : ℕ) → s.stage port c ≡ Active o w → (b : Bool) → leaves p d n t s i port c ≡ b
        → moved_on b (s.queue port c) (g port c) ≡ g port c
    stood port c active false e = refl
    stood port c active true e = absurd (let on = leaves-on p d n t s i port c o w active e in cc (on, off))

    after : (b : Bool) → next.held o w ≡ b → s.held o w ≡ false
        → entry_at p d next (next_stand p d n t s i g) o w ≡ None
    after false e free = entry-free p d n next (next_stand p d n t s i g) o w stand.held_after e
    after true e free =
        let has = stand.held_after.holder o w e in
        entry-holder p d n next (next_stand p d n t s i g) o w has.port has.channel stand.held_after has.is_holder
        ∙ new-holder p d n t s i g o w has.port has.channel stand free has.is_holder

    go : (b : Bool) → s.held o w ≡ b → entry_at p d s g o w ≡ entry_at p d next (next_stand p d n t s i g) o w
    go false e = entry-free p d n s g o w stand.held e ∙ sym (after (next.held o w) refl e)
    go true e =
        let has = stand.held.holder o w e in
        let stays =
        holder-stays p d n t s i o w has.port has.channel has.is_holder (tail_on-off (sent p d n t s i o) w off) in
        entry-holder p d n s g o w has.port has.channel stand.held has.is_holder
        ∙ sym (entry-holder p d n next (next_stand p d n t s i g) o w has.port has.channel stand.held_after stays
        ∙ stood has.port has.channel has.is_holder.active (leaves p d n t s i has.port has.channel) refl)

pub front-list : (fs : List Flit) (f : Flit) → front fs ≡ Some f → (gs : List Flit) × (fs ≡ f ∷ gs)
front-list [] f e = absurd (cc e)
front-list (h ∷ gs) f e = let same : h ≡ f = cc in (gs, ap (λ x. x ∷ gs) same)

moved : (b : Bool) (fs gs : List Flit) (f : Flit) (a : Option ℕ) → b ≡ true → fs ≡ f ∷ gs
    → moved_on b fs a ≡ after_flit f
moved b fs gs f a e is = ap (λ x. moved_on x fs a) e ∙ ap (λ xs. moved_on true xs a) is

-- what goes out leads from where the entry stood to where it stands
pub entry-next : (p : Plan) (d n : ℕ) (t : ℤ) (s : Tile) (i : TileIn) (g : ℕ → ℕ → Option ℕ) (o w : ℕ)
    → Stand p d n t s i g
    → ArePackets (entry_at p d s g o w) (flit_on (sent p d n t s i o) w) (entry_at p d (tile_step p d n t s i) (next_stand p d n t s i g) o w)
entry-next p d n t s i g o w stand = go (sent p d n t s i o) refl (is_on (sent p d n t s i o) w) refl
  where
    next : Tile
    next = tile_step p d n t s i

    Lead : List Flit → Type 0
    Lead fs = ArePackets (entry_at p d s g o w) fs (entry_at p d next (next_stand p d n t s i g) o w)

    -- the flit x goes out on w
    out : (x : LinkFlit) → sent p d n t s i o ≡ Some x → (x.channel == w) ≡ true → Lead (x.flit ∷ [])
    out x is on =
        let by = sent-by p d n t s i o x is in
        let ready = grant-ready p d n t s i by.port by.by by.granted in
        let port : ℕ = by.port in
        let c : ℕ = by.by.channel in
        let same : x.channel ≡ w = grind (arith, nat_tests, on) in
        let active : s.stage port c ≡ Active o w =
        ready.active ∙ ap (λ k. Active k by.by.to) by.out ∙ ap (Active o) (by.to ∙ same) in
        let holds : IsHolder p d s o w port c = old-holder p d s o w port c by.inside ready.in_range active in
        let list = front-list (s.queue port c) x.flit by.is_front in
        let left = granted-leaves p d n t s i port by.by by.granted in
        let entry = entry-holder p d n s g o w port c stand.held holds in (
          ap (λ a. may_come a x.flit) entry ∙ stand.fits port c x.flit list.0 ready.in_range list.1,
          ends port c x.flit list.0 holds list.1 left (ap (λ y. is_tail_on y w) is ∙ tail_is x.flit.tail (x.channel == w) on),
        )
      where
        tail_is : (a b : Bool) → b ≡ true → (a && b) ≡ a
        tail_is true b e = e
        tail_is false b e = refl

        ends : (port c : ℕ) (f : Flit) (gs : List Flit) → IsHolder p d s o w port c → s.queue port c ≡ f ∷ gs
            → leaves p d n t s i port c ≡ true → is_tail_on (sent p d n t s i o) w ≡ f.tail
            → after_flit f ≡ entry_at p d next (next_stand p d n t s i g) o w
        ends port c f gs holds list left tail = last f.tail refl
          where
            stood : next_stand p d n t s i g port c ≡ after_flit f
            stood = moved (leaves p d n t s i port c) (s.queue port c) gs f (g port c) left list

            -- after a tail nothing holds the channel
            freed : f.tail ≡ true → (b : Bool) → next.held o w ≡ b
                → entry_at p d next (next_stand p d n t s i g) o w ≡ None
            freed e false free = entry-free p d n next (next_stand p d n t s i g) o w stand.held_after free
            freed e true used = absurd (bad (stand.held_after.holder o w used))
              where
                bad : HasHolder p d next o w → ⊥
                bad has = from (holder-from p d n t s i o w has.port has.channel has.is_holder)
                  where
                    from : WasOrWins p d n t s i has.port has.channel o w → ⊥
                    from came = cases came.from
                      where
                        cases : Stays p d n t s i has.port has.channel (s.stage has.port has.channel) o w ⊎ Wins p d n s has.port has.channel (s.stage has.port has.channel) o w
                            → ⊥
                        cases (inl stays) =
                            let one =
                            stand.held.one o w has.port has.channel port c (old-holder p d s o w has.port has.channel came.inside came.below stays.was) holds in
                            let leaves_tail : (leaves p d n t s i port c && is_tail (front (s.queue port c))) ≡ true =
                            ap (λ b. b && is_tail (front (s.queue port c))) left ∙ ap (λ fs. is_tail (front fs)) list
                            ∙ e in
                            cc (leaves_tail, stays.no_tail, one.0, one.1)
                        cases (inr wins) =
                            let free = taken-free p d n s o w wins.takes in
                            let held = stand.held.held o w port c holds in
                            cc (free, held)

            last : (b : Bool) → f.tail ≡ b → after_flit f ≡ entry_at p d next (next_stand p d n t s i g) o w
            last true e = ap (λ b. if b then None else Some f.dest) e ∙ sym (freed e (next.held o w) refl)
            last false e =
                let stays = holder-stays p d n t s i o w port c holds (tail ∙ e) in
                sym (entry-holder p d n next (next_stand p d n t s i g) o w port c stand.held_after stays ∙ stood)

    go : (x : Option LinkFlit) → sent p d n t s i o ≡ x → (b : Bool) → is_on (sent p d n t s i o) w ≡ b
        → Lead (flit_on (sent p d n t s i o) w)
    go x is false off =
        subst Lead (sym (flit_on-off (sent p d n t s i o) w off)) (entry-quiet p d n t s i g o w stand off)
    go None is true on = absurd (let none = ap (λ y. is_on y w) is in cc (none, on))
    go (Some x) is true on =
        let here : (x.channel == w) ≡ true = sym (ap (λ y. is_on y w) is) ∙ on in
        subst Lead (sym (ap (λ y. flit_on y w) is ∙ flit_on-on x w here)) (out x is here)
