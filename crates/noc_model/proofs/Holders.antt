-- An output channel is held by one input channel, and by none if it isn't held, in every state of every run.
use Rattle.std.proofs.Common.{◌≡◌, ◌≢◌, ℕ, ◌+◌, ◌*◌, ◌/◌, ◌%◌, ◌<◌, ◌⊎◌, inl, inr, Bool, true, false, Option, List, [], ◌∷◌, refl, sym, ◌∙◌, ap, subst, arith, ◌==◌, ◌&&◌, ◌||◌, ℤ}
use Rattle.std.specs.Prelude.{Some, None, not, is_some, nat_lt, if◌then◌else◌}
use Rattle.std.proofs.lemmas.Bool.Decides.{nat_tests}
use Rattle.noc_model.specs.declared.Flit.{Flit}
use Rattle.noc_model.specs.declared.LinkFlit.{LinkFlit}
use Rattle.noc_model.specs.declared.Grant.{Grant}
use Rattle.noc_model.specs.declared.Stage.{Stage}
use Rattle.noc_model.specs.declared.Stage.TheVariants.{Idle, Routed, Active}
use Rattle.noc_model.specs.Plan.{Plan, channels, link_channels, in_channels, ports, at_local}
use Rattle.noc_model.specs.Place.{neighbour}
use Rattle.noc_model.specs.Pick.{least}
use Rattle.noc_model.specs.Tile.{Tile, TileIn}
use Rattle.noc_model.specs.Step.{routed, waits_for, class_of, free_for, is_candidate, winner, is_place, taken_channel, activated, chosen, granted_to, asked, grant, is_channel, leaves, front, with_channel, sent, is_tail_on, is_tail, next_stage, tile_step}
use Rattle.noc_model.specs.Holder.{IsHolder, HasHolder, IsHeldTile}
use Rattle.noc_model.proofs.Least.{least-member, pick-member}
use Rattle.noc_model.proofs.Switch.{then-is, granted_to-is, grant-ready, sent-by}
use Rattle.noc_model.proofs.Inputs.{input-within, port-below, place-input, place-one}
use Rattle.noc_model.proofs.Outputs.{option-map-is, and-first}

-- ---- what a stage comes from

-- the channel went out by o on w, and its tail doesn't leave
pub record Stays (p : Plan) (d n : ℕ) (t : ℤ) (s : Tile) (i : TileIn) (port c : ℕ) (st : Stage) (o w : ℕ) : Type 0 where
  pub was : st ≡ Active o w
  pub no_tail : (leaves p d n t s i port c && is_tail (front (s.queue port c))) ≡ false

-- the channel wins output o in this cycle
pub record Wins (p : Plan) (d n : ℕ) (s : Tile) (port c : ℕ) (st : Stage) (o w : ℕ) : Type 0 where
  pub was : st ≡ Routed o
  pub place : winner p d n s o ≡ Some (port * link_channels p d + c)
  pub takes : taken_channel p d n s o ≡ Some w

is_place-is : (k : Option ℕ) (place : ℕ) → is_place k place ≡ true → k ≡ Some place
is_place-is None place e = absurd (cc e)
is_place-is (Some k) place e = let same : k ≡ place = grind (arith, nat_tests, e) in ap Some same

pub came-from : (p : Plan) (d n : ℕ) (t : ℤ) (s : Tile) (i : TileIn) (port c : ℕ) (st : Stage) (o w : ℕ)
    → next_stage p d n t s i port c st ≡ Active o w
    → Stays p d n t s i port c st o w ⊎ Wins p d n s port c st o w
came-from p d n t s i port c Idle o w e = absurd (none (s.queue port c) e)
  where
    none : (fs : List Flit) → routed p n fs Idle ≡ Active o w → ⊥
    none [] h = cc h
    none (f ∷ fs) h = cc h
came-from p d n t s i port c (Routed to) o w e = go (is_place (winner p d n s to) (port * link_channels p d + c)) refl (taken_channel p d n s to) refl e
  where
    go : (b : Bool) → is_place (winner p d n s to) (port * link_channels p d + c) ≡ b → (x : Option ℕ)
        → taken_channel p d n s to ≡ x → activated b to x ≡ Active o w
        → Stays p d n t s i port c (Routed to) o w ⊎ Wins p d n s port c (Routed to) o w
    go false is x took h = absurd (cc h)
    go true is None took h = absurd (cc h)
    go true is (Some v) took h =
        let out : to ≡ o = cc in
        let on : v ≡ w = cc in
        inr (record {
          was = ap Routed out;
          place = ap (winner p d n s) (sym out) ∙ is_place-is (winner p d n s to) (port * link_channels p d + c) is;
          takes = ap (taken_channel p d n s) (sym out) ∙ took ∙ ap Some on;
        })
came-from p d n t s i port c (Active to v) o w e = go (leaves p d n t s i port c && is_tail (front (s.queue port c))) refl e
  where
    go : (b : Bool) → (leaves p d n t s i port c && is_tail (front (s.queue port c))) ≡ b
        → (if b then Idle else Active to v) ≡ Active o w
        → Stays p d n t s i port c (Active to v) o w ⊎ Wins p d n s port c (Active to v) o w
    go true is h = absurd (cc h)
    go false is h = inl (record { was = h; no_tail = is })

-- ---- what is won

-- the channel that is given out was free
pub taken-free : (p : Plan) (d n : ℕ) (s : Tile) (o w : ℕ) → taken_channel p d n s o ≡ Some w → s.held o w ≡ false
unfolding taken_channel
taken-free p d n s o w e =
    let got =
    then-is (λ k. free_for p d n s o (k / link_channels p d) (k % link_channels p d)) (winner p d n s o) w e in
    let class : ℕ = class_of p d n (got.0 / link_channels p d) (got.0 % link_channels p d) o in
    let found =
    option-map-is (λ j. class * channels p d + j) (least (at_local o 1 (channels p d)) (λ j. not (s.held o (class * channels p d + j)))) w got.2 in
    let member =
    least-member (at_local o 1 (channels p d)) (λ j. not (s.held o (class * channels p d + j))) found.0 found.1 in
    subst (λ v. s.held o v ≡ false) found.2 (free (s.held o (class * channels p d + found.0)) member.1)
  where
    free : (b : Bool) → not b ≡ true → b ≡ false
    free false h = refl
    free true h = absurd (cc h)

waits_for-is : (st : Stage) (o : ℕ) → waits_for st o ≡ true → st ≡ Routed o
waits_for-is Idle o e = absurd (cc e)
waits_for-is (Routed to) o e = let same : to ≡ o = grind (arith, nat_tests, e) in ap Routed same
waits_for-is (Active to w) o e = absurd (cc e)

-- a channel that waited for an output, at a place that is there
pub record Waits (p : Plan) (d n : ℕ) (s : Tile) (o k : ℕ) : Type 0 where
  pub inside : k / link_channels p d < ports p
  pub below : k % link_channels p d < in_channels p d (k / link_channels p d)
  pub was : s.stage (k / link_channels p d) (k % link_channels p d) ≡ Routed o

pub winner-waits : (p : Plan) (d n : ℕ) (s : Tile) (o k : ℕ) → winner p d n s o ≡ Some k → Waits p d n s o k
unfolding winner
winner-waits p d n s o k e =
    let member = pick-member (ports p * link_channels p d) (is_candidate p d n s o) (s.allocation o) k e in
    let port : ℕ = k / link_channels p d in
    let c : ℕ = k % link_channels p d in
    let waits : Bool = waits_for (s.stage port c) o in
    let free : Bool = is_some (free_for p d n s o port c) in
    record {
      inside = port-below p d k member.0;
      below = low c (in_channels p d port) (and-first (nat_lt c (in_channels p d port)) (waits && free) member.1);
      was = waits_for-is (s.stage port c) o (and-first waits free (and-rest (nat_lt c (in_channels p d port)) (waits && free) member.1));
    }
  where
    low : (a b : ℕ) → nat_lt a b ≡ true → a < b
    low a b h = grind (arith, nat_tests)

    and-rest : (a b : Bool) → (a && b) ≡ true → b ≡ true
    and-rest true b h = h
    and-rest false b h = absurd (cc h)

-- ---- what is sent

-- a tail that goes out on a channel is the front of its holder, and leaves it
record Frees (p : Plan) (d n : ℕ) (t : ℤ) (s : Tile) (i : TileIn) (o w : ℕ) : Type 0 where
  port : ℕ
  channel : ℕ
  is_holder : IsHolder p d s o w port channel
  tail_leaves : (leaves p d n t s i port channel && is_tail (front (s.queue port channel))) ≡ true

active-is : (st : Stage) (a b o w : ℕ) → st ≡ Active a b → a ≡ o → b ≡ w → st ≡ Active o w
active-is st a b o w e f g = e ∙ ap (λ k. Active k b) f ∙ ap (Active o) g

pub granted-leaves : (p : Plan) (d n : ℕ) (t : ℤ) (s : Tile) (i : TileIn) (port : ℕ) (g : Grant)
    → grant p d n t s i port ≡ Some g → leaves p d n t s i port g.channel ≡ true
unfolding leaves
granted-leaves p d n t s i port g e = rw e (let same : g.channel ≡ g.channel = refl in grind (arith, nat_tests))

tail-frees : (p : Plan) (d n : ℕ) (t : ℤ) (s : Tile) (i : TileIn) (o w : ℕ) → is_tail_on (sent p d n t s i o) w ≡ true
    → Frees p d n t s i o w
tail-frees p d n t s i o w e = go (sent p d n t s i o) refl e
  where
    go : (x : Option LinkFlit) → sent p d n t s i o ≡ x → is_tail_on x w ≡ true → Frees p d n t s i o w
    go None is h = absurd (cc h)
    go (Some x) is h =
        let by = sent-by p d n t s i o x is in
        let ready = grant-ready p d n t s i by.port by.by by.granted in
        let tail : x.flit.tail ≡ true = and-first x.flit.tail (x.channel == w) h in
        let on : x.channel ≡ w = grind (arith, nat_tests, h) in
        let left = granted-leaves p d n t s i by.port by.by by.granted in
        record {
          port = by.port;
          channel = by.by.channel;
          is_holder = record { inside = by.inside; below = ready.in_range; active = active-is (s.stage by.port by.by.channel) by.by.out by.by.to o w ready.active by.out (by.to ∙ on) };
          tail_leaves = rw (left, by.is_front) tail;
        }

-- an output whose pick is granted has picked the port
granted_to-port : (k : Option ℕ) (port : ℕ) (h g : Grant) → granted_to k port h ≡ Some g → k ≡ Some port
granted_to-port None port h g is = absurd (cc is)
granted_to-port (Some j) port h g is = go (j == port) refl is
  where
    go : (b : Bool) → (j == port) ≡ b → (if b then Some h else None) ≡ Some g → Some j ≡ Some port
    go true same is' = let at : j ≡ port = grind (arith, nat_tests, same) in ap Some at
    go false other is' = absurd (cc is')

pub granted-chosen : (p : Plan) (d n : ℕ) (t : ℤ) (s : Tile) (i : TileIn) (port : ℕ) (g : Grant)
    → grant p d n t s i port ≡ Some g → chosen p d n t s i g.out ≡ Some port
unfolding grant
granted-chosen p d n t s i port g e =
    let got = then-is (λ h. granted_to (chosen p d n t s i h.out) port h) (asked p d n t s i port) g e in
    let same : got.0 ≡ g = granted_to-is (chosen p d n t s i got.0.out) port got.0 g got.2 in
    ap (λ (x : Grant). chosen p d n t s i x.out) (sym same)
    ∙ granted_to-port (chosen p d n t s i got.0.out) port got.0 g got.2

-- what is granted is sent
pub granted-sent : (p : Plan) (d n : ℕ) (t : ℤ) (s : Tile) (i : TileIn) (port : ℕ) (g : Grant)
    → grant p d n t s i port ≡ Some g
    → sent p d n t s i g.out ≡ with_channel g.to (front (s.queue port g.channel))
unfolding sent
granted-sent p d n t s i port g e = rw (granted-chosen p d n t s i port g e, e) refl

-- so a tail that leaves a channel goes out on what the channel holds
tail-sent : (p : Plan) (d n : ℕ) (t : ℤ) (s : Tile) (i : TileIn) (port c o w : ℕ) → s.stage port c ≡ Active o w
    → (leaves p d n t s i port c && is_tail (front (s.queue port c))) ≡ true → is_tail_on (sent p d n t s i o) w ≡ true
unfolding leaves
tail-sent p d n t s i port c o w active e = go (grant p d n t s i port) refl e
  where
    tail-of : (v : ℕ) (f : Option Flit) → v ≡ w → is_tail f ≡ true → is_tail_on (with_channel v f) w ≡ true
    tail-of v None same h = absurd (cc h)
    tail-of v (Some f) same h = grind (arith, nat_tests, h, same)

    parts : (a b : Bool) → (a && b) ≡ true → (a ≡ true) × (b ≡ true)
    parts true b h = (refl, h)
    parts false b h = absurd (cc h)

    go : (x : Option Grant) → grant p d n t s i port ≡ x → (is_channel x c && is_tail (front (s.queue port c))) ≡ true
        → is_tail_on (sent p d n t s i o) w ≡ true
    go None is h = absurd (cc h)
    go (Some g) is h =
        let ready = grant-ready p d n t s i port g is in
        let both = parts (g.channel == c) (is_tail (front (s.queue port c))) h in
        let at : g.channel ≡ c = grind (arith, nat_tests, both.0) in
        let same : Active g.out g.to ≡ Active o w = sym ready.active ∙ ap (s.stage port) at ∙ active in
        let out : g.out ≡ o = cc (same) in
        let on : g.to ≡ w = cc (same) in
        subst (λ k. is_tail_on (sent p d n t s i k) w ≡ true) out
        (subst (λ x. is_tail_on x w ≡ true) (sym (granted-sent p d n t s i port g is))
        (tail-of g.to (front (s.queue port g.channel)) on (subst (λ k. is_tail (front (s.queue port k)) ≡ true) (sym at) both.1)))

-- ---- the step

-- a held channel that isn't freed stays with its holder
pub holder-stays : (p : Plan) (d n : ℕ) (t : ℤ) (s : Tile) (i : TileIn) (o w port c : ℕ) → IsHolder p d s o w port c
    → is_tail_on (sent p d n t s i o) w ≡ false
    → IsHolder p d (tile_step p d n t s i) o w port c
unfolding tile_step
holder-stays p d n t s i o w port c is kept = record {
  inside = is.inside;
  below = is.below;
  active = ap (next_stage p d n t s i port c) is.active ∙ go (leaves p d n t s i port c && is_tail (front (s.queue port c))) refl;
}
  where
    go : (b : Bool) → (leaves p d n t s i port c && is_tail (front (s.queue port c))) ≡ b
        → (if b then Idle else Active o w) ≡ Active o w
    go false e = refl
    go true e = absurd (let frees = tail-sent p d n t s i port c o w is.active e in cc (frees, kept))

-- the winner holds the channel that it is given
winner-holds : (p : Plan) (d n : ℕ) (t : ℤ) (s : Tile) (i : TileIn) (o w : ℕ) → taken_channel p d n s o ≡ Some w
    → HasHolder p d (tile_step p d n t s i) o w
unfolding tile_step taken_channel
winner-holds p d n t s i o w e =
    let got =
    then-is (λ k. free_for p d n s o (k / link_channels p d) (k % link_channels p d)) (winner p d n s o) w e in
    let waits = winner-waits p d n s o got.0 got.1 in
    let place : got.0 / link_channels p d * link_channels p d + got.0 % link_channels p d ≡ got.0 =
    place-input p d got.0 in
    record {
      port = got.0 / link_channels p d;
      channel = got.0 % link_channels p d;
      is_holder = record {
        inside = waits.inside;
        below = waits.below;
        active = ap (next_stage p d n t s i (got.0 / link_channels p d) (got.0 % link_channels p d)) waits.was
            ∙ ap (λ k. activated (is_place (winner p d n s o) k) o (taken_channel p d n s o)) place
            ∙ ap (λ k. activated (is_place k got.0) o (taken_channel p d n s o)) got.1
            ∙ ap (λ b. activated b o (taken_channel p d n s o)) (same got.0)
            ∙ ap (activated true o) e;
      };
    }
  where
    same : (k : ℕ) → is_place (Some k) k ≡ true
    same k = let e : k ≡ k = refl in grind (arith, nat_tests)

-- what holds after the step: it did before and isn't freed, or it is the winner
pub record WasOrWins (p : Plan) (d n : ℕ) (t : ℤ) (s : Tile) (i : TileIn) (port c o w : ℕ) : Type 0 where
  pub inside : port < ports p
  pub below : c < in_channels p d port
  pub from : Stays p d n t s i port c (s.stage port c) o w ⊎ Wins p d n s port c (s.stage port c) o w

pub holder-from : (p : Plan) (d n : ℕ) (t : ℤ) (s : Tile) (i : TileIn) (o w port c : ℕ)
    → IsHolder p d (tile_step p d n t s i) o w port c → WasOrWins p d n t s i port c o w
unfolding tile_step
holder-from p d n t s i o w port c is =
    record { inside = is.inside; below = is.below; from = came-from p d n t s i port c (s.stage port c) o w is.active }

or-left : (a b : Bool) → a ≡ true → (a || b) ≡ true
or-left true b e = refl
or-left false b e = absurd (cc e)

or-right : (a b : Bool) → b ≡ true → (a || b) ≡ true
or-right true b e = refl
or-right false b e = e

or-is : (a b : Bool) → (a || b) ≡ true → (a ≡ true) ⊎ (b ≡ true)
or-is true b e = inl refl
or-is false b e = inr e

both-is : (a b : Bool) → (a && not b) ≡ true → (a ≡ true) × (b ≡ false)
both-is true false e = (refl, refl)
both-is true true e = absurd (cc e)
both-is false b e = absurd (cc e)

both : (a b : Bool) → a ≡ true → b ≡ false → (a && not b) ≡ true
both true false e f = refl
both true true e f = absurd (cc f)
both false b e f = absurd (cc e)

-- a holder whose tail doesn't leave isn't freed
not-freed : (p : Plan) (d n : ℕ) (t : ℤ) (s : Tile) (i : TileIn) (o w port c : ℕ) → IsHeldTile p d n s
    → IsHolder p d s o w port c
    → (leaves p d n t s i port c && is_tail (front (s.queue port c))) ≡ false
    → is_tail_on (sent p d n t s i o) w ≡ false
not-freed p d n t s i o w port c right is no_tail = go (is_tail_on (sent p d n t s i o) w) refl
  where
    go : (b : Bool) → is_tail_on (sent p d n t s i o) w ≡ b → is_tail_on (sent p d n t s i o) w ≡ false
    go false e = e
    go true e =
        let frees = tail-frees p d n t s i o w e in
        let same = right.one o w frees.port frees.channel port c frees.is_holder is in
        absurd (let left = frees.tail_leaves in cc (left, no_tail, same.0, same.1))

pub old-holder : (p : Plan) (d : ℕ) (s : Tile) (o w port c : ℕ) → port < ports p → c < in_channels p d port
    → s.stage port c ≡ Active o w → IsHolder p d s o w port c
old-holder p d s o w port c inside below active = record { inside = inside; below = below; active = active }

pub held-step : (p : Plan) (d n : ℕ) (t : ℤ) (s : Tile) (i : TileIn) → IsHeldTile p d n s
    → ((port c : ℕ) → port ≢ 0 → neighbour p n port ≡ None → s.queue port c ≡ [])
    → IsHeldTile p d n (tile_step p d n t s i)
unfolding tile_step
held-step p d n t s i right empty = record {
  held = λ o w port c is. held-after o w port c (holder-from p d n t s i o w port c is);
  one = λ o w port c port' c' is is'. one-after o w port c port' c' (holder-from p d n t s i o w port c is) (holder-from p d n t s i o w port' c' is');
  holder = λ o w e. has-after o w (or-is (s.held o w && not (is_tail_on (sent p d n t s i o) w)) (is_place (taken_channel p d n s o) w) e);
  unlinked = λ port c link none. ap (next_stage p d n t s i port c) (right.unlinked port c link none) ∙ ap (λ fs. routed p n fs Idle) (empty port c link none);
}
  where
    same : (k : ℕ) → is_place (Some k) k ≡ true
    same k = let e : k ≡ k = refl in grind (arith, nat_tests)

    held-after : (o w port c : ℕ) → WasOrWins p d n t s i port c o w
        → ((s.held o w && not (is_tail_on (sent p d n t s i o) w)) || is_place (taken_channel p d n s o) w) ≡ true
    held-after o w port c is = go is.from
      where
        go : Stays p d n t s i port c (s.stage port c) o w ⊎ Wins p d n s port c (s.stage port c) o w
            → ((s.held o w && not (is_tail_on (sent p d n t s i o) w)) || is_place (taken_channel p d n s o) w) ≡ true
        go (inl stays) =
            let old = old-holder p d s o w port c is.inside is.below stays.was in
            or-left _ _ (both (s.held o w) (is_tail_on (sent p d n t s i o) w) (right.held o w port c old) (not-freed p d n t s i o w port c right old stays.no_tail))
        go (inr wins) =
            or-right (s.held o w && not (is_tail_on (sent p d n t s i o) w)) (is_place (taken_channel p d n s o) w) (ap (λ k. is_place k w) wins.takes ∙ same w)

    one-after : (o w port c port' c' : ℕ) → WasOrWins p d n t s i port c o w → WasOrWins p d n t s i port' c' o w
        → (port ≡ port') × (c ≡ c')
    one-after o w port c port' c' is is' = go is.from is'.from
      where
        taken-held : (q e : ℕ) → q < ports p → e < in_channels p d q → s.stage q e ≡ Active o w
            → taken_channel p d n s o ≡ Some w → ⊥
        taken-held q e inside below was takes =
            let free = taken-free p d n s o w takes in
            let used = right.held o w q e (old-holder p d s o w q e inside below was) in
            cc (free, used)

        go : Stays p d n t s i port c (s.stage port c) o w ⊎ Wins p d n s port c (s.stage port c) o w
            → Stays p d n t s i port' c' (s.stage port' c') o w ⊎ Wins p d n s port' c' (s.stage port' c') o w
            → (port ≡ port') × (c ≡ c')
        go (inl a) (inl b) =
            right.one o w port c port' c' (old-holder p d s o w port c is.inside is.below a.was) (old-holder p d s o w port' c' is'.inside is'.below b.was)
        go (inl a) (inr b) = absurd (taken-held port c is.inside is.below a.was b.takes)
        go (inr a) (inl b) = absurd (taken-held port' c' is'.inside is'.below b.was a.takes)
        go (inr a) (inr b) =
            let e : Some (port * link_channels p d + c) ≡ Some (port' * link_channels p d + c') =
            sym a.place ∙ b.place in
            place-one p d port c port' c' (input-within p d port c is.below) (input-within p d port' c' is'.below) (cc (e))

    has-after : (o w : ℕ)
        → ((s.held o w && not (is_tail_on (sent p d n t s i o) w)) ≡ true) ⊎ (is_place (taken_channel p d n s o) w ≡ true)
        → HasHolder p d (tile_step p d n t s i) o w
    has-after o w (inl e) =
        let kept = both-is (s.held o w) (is_tail_on (sent p d n t s i o) w) e in
        let has = right.holder o w kept.0 in
        record { port = has.port; channel = has.channel; is_holder = holder-stays p d n t s i o w has.port has.channel has.is_holder kept.1 }
    has-after o w (inr e) = winner-holds p d n t s i o w (is_place-is (taken_channel p d n s o) w e)
