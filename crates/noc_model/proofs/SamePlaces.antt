-- A step needs only the places that there are.
use Rattle.std.proofs.Common.{◌≡◌, ◌≢◌, ℕ, zero, suc, ◌+◌, ◌-◌, ◌*◌, ◌/◌, ◌%◌, ◌<◌, ◌⊎◌, inl, inr, Bool, true, false, Option, List, [], ◌∷◌, ◌++◌, length, drop, refl, sym, ap, ◌∙◌, arith, ◌==◌, ◌&&◌, ◌||◌, ℤ}
use Rattle.std.specs.Prelude.{Some, None, is_some, is_none, not, nat_lt, if◌then◌else◌, option_map, option_and_then, option_to_list}
use Rattle.std.proofs.lemmas.Bool.Decides.{nat_tests}
use Rattle.noc_model.specs.declared.Flit.{Flit}
use Rattle.noc_model.specs.declared.Offer.{Offer}
use Rattle.noc_model.specs.declared.Grant.{Grant}
use Rattle.noc_model.specs.declared.Stage.{Stage}
use Rattle.noc_model.specs.declared.Stage.TheVariants.{Idle, Routed, Active}
use Rattle.noc_model.specs.Plan.{Plan, channels, link_channels, classes, in_channels, out_channels, ports, at_local, hosts}
use Rattle.noc_model.specs.Place.{neighbour, owner}
use Rattle.noc_model.specs.Pick.{pick}
use Rattle.noc_model.specs.Tile.{Tile, TileIn}
use Rattle.noc_model.specs.Step.{routed, waits_for, class_of, free_channel, free_for, is_candidate, winner, is_place, taken_channel, activated, takes, is_ready_at, is_ready, grant_at, asked, asks_for, chosen, granted_to, grant, is_channel, leaves, front, with_channel, sent, is_on, is_tail_on, is_tail, flit_on, one_if, next_stage, is_ready_packet, is_open, word_in, next_packet, entry, is_dropped, next_current, comes_in, after, after_grant, next_ejected, tile_step}
use Rattle.noc_model.specs.SoundState.{IsOutput, HasOutput}
use Rattle.noc_model.specs.Same.{IsSameTile, IsSameIn, IsBareTile, GoesOn, IsPlacedTile}
use Rattle.noc_model.proofs.Least.{pick-member, least-same, pick-same}
use Rattle.noc_model.proofs.Switch.{asked-ready, grant-ready}
use Rattle.noc_model.proofs.Outputs.{class-few, class-zero, channel-class, free-there}

-- two states of a tile, and two of what comes in, that are the same at each place that there is
pub record AreTwins (p : Plan) (d n : ℕ) (a b : Tile) (i j : TileIn) : Type 0 where
  pub same : IsSameTile p d n a b
  pub fed : IsSameIn p d n i j
  pub placed : IsPlacedTile p d n a
  pub bare : IsBareTile p d n b
  -- a tile that doesn't host the domain is offered nothing
  pub none : hosts p n d ≡ false → (i.offer ≡ None) × (j.offer ≡ None)

pub then-same : {A B : Type 0} (f g : A → Option B) (o q : Option A) → o ≡ q → ((x : A) → q ≡ Some x → f x ≡ g x)
    → option_and_then f o ≡ option_and_then g q
then-same {A = A} {B = B} f g o q e each = ap (option_and_then f) e ∙ go q each
  where
    go : (q : Option A) → ((x : A) → q ≡ Some x → f x ≡ g x) → option_and_then f q ≡ option_and_then g q
    go None each = refl
    go (Some x) each = each x refl

-- ---- input channels

-- a port is local, has a link, or has none
by_port : (p : Plan) (n port : ℕ) → IsOutput p n port ⊎ ((port ≢ 0) × (neighbour p n port ≡ None))
by_port p n zero = inl (inl refl)
by_port p n (suc port) = go (neighbour p n (suc port)) refl
  where
    go : (o : Option ℕ) → neighbour p n (suc port) ≡ o
        → IsOutput p n (suc port) ⊎ ((suc port ≢ 0) × (neighbour p n (suc port) ≡ None))
    go None e = inr (λ z. omega arith, e)
    go (Some m) e = inl (inr (ap is_some e))

stage-all : (p : Plan) (d n : ℕ) (a b : Tile) (i j : TileIn) (port c : ℕ) → AreTwins p d n a b i j
    → c < in_channels p d port → a.stage port c ≡ b.stage port c
stage-all p d n a b i j port c twins below = go (by_port p n port)
  where
    go : IsOutput p n port ⊎ ((port ≢ 0) × (neighbour p n port ≡ None)) → a.stage port c ≡ b.stage port c
    go (inl there) = twins.same.stage port c there below
    go (inr away) = twins.placed.bare.idle port c away.0 away.1 below ∙ sym (twins.bare.idle port c away.0 away.1 below)

queue-all : (p : Plan) (d n : ℕ) (a b : Tile) (i j : TileIn) (port c : ℕ) → AreTwins p d n a b i j
    → c < in_channels p d port → a.queue port c ≡ b.queue port c
queue-all p d n a b i j port c twins below = go (by_port p n port)
  where
    go : IsOutput p n port ⊎ ((port ≢ 0) × (neighbour p n port ≡ None)) → a.queue port c ≡ b.queue port c
    go (inl there) = twins.same.queue port c there below
    go (inr away) =
        twins.placed.bare.empty port c away.0 away.1 below ∙ sym (twins.bare.empty port c away.0 away.1 below)

-- ---- the outputs' channels

free_channel-same : (p : Plan) (d n : ℕ) (a b : Tile) (o class : ℕ) → IsSameTile p d n a b → IsOutput p n o
    → class < classes p → (o ≡ 0 → class ≡ 0)
    → free_channel p d a o class ≡ free_channel p d b o class
free_channel-same p d n a b o class same there low local =
    ap (option_map (λ j. class * channels p d + j))
    (least-same (at_local o 1 (channels p d)) (λ j. not (a.held o (class * channels p d + j))) (λ j. not (b.held o (class * channels p d + j)))
    (λ j below. ap not (same.held o (class * channels p d + j) there (free-there p d o class j low local below))))

free_for-same : (p : Plan) (d n : ℕ) (a b : Tile) (o port c : ℕ) → IsSameTile p d n a b → IsOutput p n o
    → c < in_channels p d port
    → free_for p d n a o port c ≡ free_for p d n b o port c
free_for-same p d n a b o port c same there below =
    free_channel-same p d n a b o (class_of p d n port c o) same there
    (class-few p n port (c / channels p d) o (channel-class p d port c below)) (class-zero p d n port c o)

candidate-same : (p : Plan) (d n : ℕ) (a b : Tile) (i j : TileIn) (o k : ℕ) → AreTwins p d n a b i j → IsOutput p n o
    → is_candidate p d n a o k ≡ is_candidate p d n b o k
candidate-same p d n a b i j o k twins there = go (nat_lt (k % link_channels p d) (in_channels p d (k / link_channels p d))) refl
  where
    low : (x y : ℕ) → nat_lt x y ≡ true → x < y
    low x y e = grind (arith, nat_tests)

    go : (r : Bool) → nat_lt (k % link_channels p d) (in_channels p d (k / link_channels p d)) ≡ r
        → is_candidate p d n a o k ≡ is_candidate p d n b o k
    go false e =
        ap (λ r. r && (waits_for (a.stage (k / link_channels p d) (k % link_channels p d)) o && is_some (free_for p d n a o (k / link_channels p d) (k % link_channels p d)))) e
        ∙ sym (ap (λ r. r && (waits_for (b.stage (k / link_channels p d) (k % link_channels p d)) o && is_some (free_for p d n b o (k / link_channels p d) (k % link_channels p d)))) e)
    go true e =
        let port : ℕ = k / link_channels p d in
        let c : ℕ = k % link_channels p d in
        let below : c < in_channels p d port = low c (in_channels p d port) e in
        ap (λ x. nat_lt c (in_channels p d port) && (waits_for x o && is_some (free_for p d n a o port c))) (stage-all p d n a b i j port c twins below)
        ∙ ap (λ x. nat_lt c (in_channels p d port) && (waits_for (b.stage port c) o && is_some x)) (free_for-same p d n a b o port c twins.same there below)

winner-same : (p : Plan) (d n : ℕ) (a b : Tile) (i j : TileIn) (o : ℕ) → AreTwins p d n a b i j → IsOutput p n o
    → winner p d n a o ≡ winner p d n b o
unfolding winner
winner-same p d n a b i j o twins there =
    pick-same (ports p * link_channels p d) (is_candidate p d n a o) (is_candidate p d n b o) (a.allocation o) (b.allocation o)
    (λ k below. candidate-same p d n a b i j o k twins there) (twins.same.allocation o there)

winner-below : (p : Plan) (d n : ℕ) (s : Tile) (o k : ℕ) → winner p d n s o ≡ Some k
    → k % link_channels p d < in_channels p d (k / link_channels p d)
unfolding winner
winner-below p d n s o k e = first (nat_lt (k % link_channels p d) (in_channels p d (k / link_channels p d))) refl (pick-member (ports p * link_channels p d) (is_candidate p d n s o) (s.allocation o) k e).1
  where
    first : (r : Bool) → nat_lt (k % link_channels p d) (in_channels p d (k / link_channels p d)) ≡ r
        → (r && (waits_for (s.stage (k / link_channels p d) (k % link_channels p d)) o && is_some (free_for p d n s o (k / link_channels p d) (k % link_channels p d)))) ≡ true
        → k % link_channels p d < in_channels p d (k / link_channels p d)
    first true is h = low (k % link_channels p d) (in_channels p d (k / link_channels p d)) is
      where
        low : (x y : ℕ) → nat_lt x y ≡ true → x < y
        low x y e = grind (arith, nat_tests)
    first false is h = absurd (cc h)

taken-same : (p : Plan) (d n : ℕ) (a b : Tile) (i j : TileIn) (o : ℕ) → AreTwins p d n a b i j → IsOutput p n o
    → taken_channel p d n a o ≡ taken_channel p d n b o
unfolding taken_channel
taken-same p d n a b i j o twins there =
    then-same (λ k. free_for p d n a o (k / link_channels p d) (k % link_channels p d)) (λ k. free_for p d n b o (k / link_channels p d) (k % link_channels p d)) (winner p d n a o) (winner p d n b o)
    (winner-same p d n a b i j o twins there)
    (λ k e. free_for-same p d n a b o (k / link_channels p d) (k % link_channels p d) twins.same there (winner-below p d n b o k e))

-- ---- the switch

away-absurd : (o w : ℕ) → GoesOn (Active o w) → o ≡ 0 → ⊥
away-absurd o w h e = h e

takes-same : (p : Plan) (d n : ℕ) (t : ℤ) (a b : Tile) (i j : TileIn) (o w : ℕ) → AreTwins p d n a b i j
    → IsOutput p n o → w < out_channels p d o
    → (hosts p n d ≡ false → o ≢ 0) → takes p d n t a i o w ≡ takes p d n t b j o w
unfolding takes
takes-same p d n t a b i j zero w twins there below away = go (hosts p n d) refl
  where
    go : (h : Bool) → hosts p n d ≡ h → (is_none a.ejected || i.hears) ≡ (is_none b.ejected || j.hears)
    go false e = absurd (away e refl)
    go true e =
        ap (λ (x : Option Flit). is_none x || i.hears) (twins.same.ejected e)
        ∙ ap (λ h. is_none b.ejected || h) (twins.fed.hears e)
takes-same p d n t a b i j (suc o) w twins (inl e) below away = absurd (omega arith)
takes-same p d n t a b i j (suc o) w twins (inr e) below away = go (neighbour p n (suc o)) refl e
  where
    go : (m : Option ℕ) → neighbour p n (suc o) ≡ m → is_some m ≡ true
        → ((owner p n (suc o) t == d) && nat_lt 0 (a.credits (suc o) w)) ≡ ((owner p n (suc o) t == d) && nat_lt 0 (b.credits (suc o) w))
    go None is h = absurd (cc h)
    go (Some m) is h = ap (λ k. (owner p n (suc o) t == d) && nat_lt 0 k) (twins.same.credits (suc o) m w is below)

ready_at-same : (p : Plan) (d n : ℕ) (t : ℤ) (a b : Tile) (i j : TileIn) (fs : List Flit) (s : Stage)
    → AreTwins p d n a b i j → HasOutput p d n s
    → (hosts p n d ≡ false → GoesOn s) → is_ready_at p d n t a i fs s ≡ is_ready_at p d n t b j fs s
ready_at-same p d n t a b i j fs Idle twins h away = refl
ready_at-same p d n t a b i j fs (Routed o) twins h away = refl
ready_at-same p d n t a b i j [] (Active o w) twins h away = refl
ready_at-same p d n t a b i j (f ∷ fs) (Active o w) twins h away = takes-same p d n t a b i j o w twins h.0 h.1 away

ready-same : (p : Plan) (d n : ℕ) (t : ℤ) (a b : Tile) (i j : TileIn) (port c : ℕ) → AreTwins p d n a b i j
    → c < in_channels p d port
    → is_ready p d n t a i port c ≡ is_ready p d n t b j port c
ready-same p d n t a b i j port c twins below =
    ready_at-same p d n t a b i j (a.queue port c) (a.stage port c) twins (twins.placed.stages port c) (λ e. twins.placed.away e port c)
    ∙ ap (λ fs. is_ready_at p d n t b j fs (a.stage port c)) (queue-all p d n a b i j port c twins below)
    ∙ ap (is_ready_at p d n t b j (b.queue port c)) (stage-all p d n a b i j port c twins below)

-- a port without a link asks for nothing
bare-asks : (p : Plan) (d n : ℕ) (t : ℤ) (s : Tile) (i : TileIn) (port : ℕ) → IsBareTile p d n s → port ≢ 0
    → neighbour p n port ≡ None → asked p d n t s i port ≡ None
bare-asks p d n t s i port bare link none = go (asked p d n t s i port) refl
  where
    go : (g : Option Grant) → asked p d n t s i port ≡ g → g ≡ None
    go None e = refl
    go (Some g) e =
        let ready = asked-ready p d n t s i port g e in
        absurd (let idle = bare.idle port g.channel link none ready.in_range in let active = ready.active in cc (idle, active))

asked-there : (p : Plan) (d n : ℕ) (t : ℤ) (a b : Tile) (i j : TileIn) (port : ℕ) → AreTwins p d n a b i j
    → IsOutput p n port → asked p d n t a i port ≡ asked p d n t b j port
unfolding asked
asked-there p d n t a b i j port twins there =
    then-same (λ c. grant_at c (a.stage port c)) (λ c. grant_at c (b.stage port c)) (pick (in_channels p d port) (is_ready p d n t a i port) (a.turn port)) (pick (in_channels p d port) (is_ready p d n t b j port) (b.turn port))
    (pick-same (in_channels p d port) (is_ready p d n t a i port) (is_ready p d n t b j port) (a.turn port) (b.turn port)
    (λ c below. ready-same p d n t a b i j port c twins below) (twins.same.turn port there))
    (λ c e. ap (grant_at c) (stage-all p d n a b i j port c twins (pick-member (in_channels p d port) (is_ready p d n t b j port) (b.turn port) c e).0))

asked-same : (p : Plan) (d n : ℕ) (t : ℤ) (a b : Tile) (i j : TileIn) (port : ℕ) → AreTwins p d n a b i j
    → asked p d n t a i port ≡ asked p d n t b j port
asked-same p d n t a b i j port twins = go (by_port p n port)
  where
    go : IsOutput p n port ⊎ ((port ≢ 0) × (neighbour p n port ≡ None))
        → asked p d n t a i port ≡ asked p d n t b j port
    go (inl there) = asked-there p d n t a b i j port twins there
    go (inr away) =
        bare-asks p d n t a i port twins.placed.bare away.0 away.1
        ∙ sym (bare-asks p d n t b j port twins.bare away.0 away.1)

chosen-same : (p : Plan) (d n : ℕ) (t : ℤ) (a b : Tile) (i j : TileIn) (o : ℕ) → AreTwins p d n a b i j → IsOutput p n o
    → chosen p d n t a i o ≡ chosen p d n t b j o
unfolding chosen
chosen-same p d n t a b i j o twins there =
    pick-same (ports p) (λ port. asks_for (asked p d n t a i port) o) (λ port. asks_for (asked p d n t b j port) o) (a.switch o) (b.switch o)
    (λ port below. ap (λ g. asks_for g o) (asked-same p d n t a b i j port twins)) (twins.same.switch o there)

-- a grant's output is there
out-there : (p : Plan) (d n : ℕ) (s : Stage) (o w : ℕ) → s ≡ Active o w → HasOutput p d n s → IsOutput p n o
out-there p d n s o w e h = (rw e at h).0

asked-output : (p : Plan) (d n : ℕ) (t : ℤ) (a b : Tile) (i j : TileIn) (port : ℕ) (g : Grant) → AreTwins p d n a b i j
    → asked p d n t a i port ≡ Some g → IsOutput p n g.out
asked-output p d n t a b i j port g twins e =
    let ready = asked-ready p d n t a i port g e in
    out-there p d n (a.stage port g.channel) g.out g.to ready.active (twins.placed.stages port g.channel)

grant-same : (p : Plan) (d n : ℕ) (t : ℤ) (a b : Tile) (i j : TileIn) (port : ℕ) → AreTwins p d n a b i j
    → grant p d n t a i port ≡ grant p d n t b j port
unfolding grant
grant-same p d n t a b i j port twins =
    then-same (λ g. granted_to (chosen p d n t a i g.out) port g) (λ g. granted_to (chosen p d n t b j g.out) port g) (asked p d n t a i port) (asked p d n t b j port)
    (asked-same p d n t a b i j port twins)
    (λ g e. ap (λ k. granted_to k port g) (chosen-same p d n t a b i j g.out twins (asked-output p d n t a b i j port g twins (asked-same p d n t a b i j port twins ∙ e))))

leaves-same : (p : Plan) (d n : ℕ) (t : ℤ) (a b : Tile) (i j : TileIn) (port c : ℕ) → AreTwins p d n a b i j
    → leaves p d n t a i port c ≡ leaves p d n t b j port c
unfolding leaves
leaves-same p d n t a b i j port c twins = ap (λ g. is_channel g c) (grant-same p d n t a b i j port twins)

pub sent-same : (p : Plan) (d n : ℕ) (t : ℤ) (a b : Tile) (i j : TileIn) (o : ℕ) → AreTwins p d n a b i j
    → IsOutput p n o → sent p d n t a i o ≡ sent p d n t b j o
unfolding sent
sent-same p d n t a b i j o twins there =
    then-same (λ port. option_and_then (λ g. with_channel g.to (front (a.queue port g.channel))) (grant p d n t a i port))
    (λ port. option_and_then (λ g. with_channel g.to (front (b.queue port g.channel))) (grant p d n t b j port))
    (chosen p d n t a i o) (chosen p d n t b j o) (chosen-same p d n t a b i j o twins there)
    (λ port e.
    then-same (λ g. with_channel g.to (front (a.queue port g.channel))) (λ g. with_channel g.to (front (b.queue port g.channel))) (grant p d n t a i port) (grant p d n t b j port)
    (grant-same p d n t a b i j port twins)
    (λ g is. ap (λ fs. with_channel g.to (front fs)) (queue-all p d n a b i j port g.channel twins (grant-ready p d n t b j port g is).in_range)))

-- ---- the attachment

pub open-same : (p : Plan) (d n : ℕ) (a b : Tile) → IsSameTile p d n a b → hosts p n d ≡ true → a.current < channels p d
    → is_open p a ≡ is_open p b
unfolding is_open
open-same p d n a b same here few =
    ap (λ k. is_ready_packet k (length (a.queue 0 a.current)) p.buffer) (same.packet here)
    ∙ ap (λ (fs : List Flit). is_ready_packet b.packet (length fs) p.buffer) (same.queue 0 a.current (inl refl) few)
    ∙ ap (λ c. is_ready_packet b.packet (length (b.queue 0 c)) p.buffer) (same.current here)

word-same : (p : Plan) (d n : ℕ) (a b : Tile) (i j : TileIn) → AreTwins p d n a b i j → hosts p n d ≡ true
    → word_in p a i ≡ word_in p b j
unfolding word_in
word-same p d n a b i j twins here =
    ap (λ c. if c then i.offer else None) (open-same p d n a b twins.same here twins.placed.current)
    ∙ ap (λ (x : Option Offer). if is_open p b then x else None) (twins.fed.offer here)

-- where nothing is offered nothing comes in
nothing-comes : (p : Plan) (d : ℕ) (s : Tile) (i : TileIn) (c : ℕ) → i.offer ≡ None → comes_in p d s i 0 c ≡ []
unfolding word_in
nothing-comes p d s i c none = rw none (go (is_open p s) (s.current == c))
  where
    go : (taken own : Bool)
        → (if own then option_to_list (entry p d s.packet (if taken then None else None)) else []) ≡ []
    go true true = refl
    go false true = refl
    go taken false = refl

comes_in-same : (p : Plan) (d n : ℕ) (a b : Tile) (i j : TileIn) (port c : ℕ) → AreTwins p d n a b i j
    → IsOutput p n port → comes_in p d a i port c ≡ comes_in p d b j port c
comes_in-same p d n a b i j zero c twins there = go (hosts p n d) refl
  where
    go : (h : Bool) → hosts p n d ≡ h → comes_in p d a i 0 c ≡ comes_in p d b j 0 c
    go false e = nothing-comes p d a i c (twins.none e).0 ∙ sym (nothing-comes p d b j c (twins.none e).1)
    go true e =
        ap (λ m. if m == c then option_to_list (entry p d a.packet (word_in p a i)) else []) (twins.same.current e)
        ∙ ap (λ k. if b.current == c then option_to_list (entry p d k (word_in p a i)) else []) (twins.same.packet e)
        ∙ ap (λ x. if b.current == c then option_to_list (entry p d b.packet x) else []) (word-same p d n a b i j twins e)
comes_in-same p d n a b i j (suc port) c twins (inl e) = absurd (omega arith)
comes_in-same p d n a b i j (suc port) c twins (inr e) = go (neighbour p n (suc port)) refl e
  where
    go : (m : Option ℕ) → neighbour p n (suc port) ≡ m → is_some m ≡ true
        → flit_on (i.arrives (suc port)) c ≡ flit_on (j.arrives (suc port)) c
    go None is h = absurd (cc h)
    go (Some m) is h = ap (λ x. flit_on x c) (twins.fed.arrives (suc port) m is)

-- ---- the parts of a step

stage-next-same : (p : Plan) (d n : ℕ) (t : ℤ) (a b : Tile) (i j : TileIn) (port c : ℕ) (s : Stage)
    → AreTwins p d n a b i j → c < in_channels p d port → HasOutput p d n s
    → next_stage p d n t a i port c s ≡ next_stage p d n t b j port c s
stage-next-same p d n t a b i j port c Idle twins below h =
    ap (λ fs. routed p n fs Idle) (queue-all p d n a b i j port c twins below)
stage-next-same p d n t a b i j port c (Routed o) twins below h =
    ap (λ w. activated (is_place w (port * link_channels p d + c)) o (taken_channel p d n a o)) (winner-same p d n a b i j o twins h)
    ∙ ap (activated (is_place (winner p d n b o) (port * link_channels p d + c)) o) (taken-same p d n a b i j o twins h)
stage-next-same p d n t a b i j port c (Active o w) twins below h =
    ap (λ x. if x && is_tail (front (a.queue port c)) then Idle else Active o w) (leaves-same p d n t a b i j port c twins)
    ∙ ap (λ fs. if leaves p d n t b j port c && is_tail (front fs) then Idle else Active o w) (queue-all p d n a b i j port c twins below)

queue-next : (p : Plan) (d n : ℕ) (t : ℤ) (a b : Tile) (i j : TileIn) (port c : ℕ) → AreTwins p d n a b i j
    → IsOutput p n port → c < in_channels p d port
    → (tile_step p d n t a i).queue port c ≡ (tile_step p d n t b j).queue port c
unfolding tile_step
queue-next p d n t a b i j port c twins there below =
    ap (λ x. drop (one_if x) (a.queue port c) ++ comes_in p d a i port c) (leaves-same p d n t a b i j port c twins)
    ∙ ap (λ fs. drop (one_if (leaves p d n t b j port c)) fs ++ comes_in p d a i port c) (queue-all p d n a b i j port c twins below)
    ∙ ap (λ fs. drop (one_if (leaves p d n t b j port c)) (b.queue port c) ++ fs) (comes_in-same p d n a b i j port c twins there)

held-next : (p : Plan) (d n : ℕ) (t : ℤ) (a b : Tile) (i j : TileIn) (o w : ℕ) → AreTwins p d n a b i j → IsOutput p n o
    → w < out_channels p d o
    → (tile_step p d n t a i).held o w ≡ (tile_step p d n t b j).held o w
unfolding tile_step
held-next p d n t a b i j o w twins there below =
    ap (λ x. (x && not (is_tail_on (sent p d n t a i o) w)) || is_place (taken_channel p d n a o) w) (twins.same.held o w there below)
    ∙ ap (λ x. (b.held o w && not (is_tail_on x w)) || is_place (taken_channel p d n a o) w) (sent-same p d n t a b i j o twins there)
    ∙ ap (λ x. (b.held o w && not (is_tail_on (sent p d n t b j o) w)) || is_place x w) (taken-same p d n a b i j o twins there)

-- an output with a link is there
linked : (p : Plan) (n o m : ℕ) → neighbour p n o ≡ Some m → IsOutput p n o
linked p n o m e = inr (ap is_some e)

credits-next : (p : Plan) (d n : ℕ) (t : ℤ) (a b : Tile) (i j : TileIn) (o m w : ℕ) → AreTwins p d n a b i j
    → neighbour p n o ≡ Some m → w < link_channels p d
    → (tile_step p d n t a i).credits o w ≡ (tile_step p d n t b j).credits o w
unfolding tile_step
credits-next p d n t a b i j o m w twins e below =
    ap (λ k. k + one_if (i.returns o w) - one_if (is_on (sent p d n t a i o) w)) (twins.same.credits o m w e below)
    ∙ ap (λ x. b.credits o w + one_if x - one_if (is_on (sent p d n t a i o) w)) (twins.fed.returns o m w e below)
    ∙ ap (λ x. b.credits o w + one_if (j.returns o w) - one_if (is_on x w)) (sent-same p d n t a b i j o twins (linked p n o m e))

row-next : (p : Plan) (d n : ℕ) (t : ℤ) (a b : Tile) (i j : TileIn) (o m k : ℕ) → AreTwins p d n a b i j
    → neighbour p n o ≡ Some m → k < p.stages
    → (tile_step p d n t a i).row o k ≡ (tile_step p d n t b j).row o k
unfolding tile_step
row-next p d n t a b i j o m zero twins e below = sent-same p d n t a b i j o twins (linked p n o m e)
row-next p d n t a b i j o m (suc k) twins e below = twins.same.row o m k e (omega arith)

-- the steps of twins are the same at each place that there is
pub twins-step : (p : Plan) (d n : ℕ) (t : ℤ) (a b : Tile) (i j : TileIn) → AreTwins p d n a b i j
    → IsSameTile p d n (tile_step p d n t a i) (tile_step p d n t b j)
unfolding tile_step
twins-step p d n t a b i j twins = record {
  queue = λ port c there below. queue-next p d n t a b i j port c twins there below;
  stage = λ port c there below. stage-next-same p d n t a b i j port c (a.stage port c) twins below (twins.placed.stages port c)
      ∙ ap (next_stage p d n t b j port c) (stage-all p d n a b i j port c twins below);
  held = λ o w there below. held-next p d n t a b i j o w twins there below;
  allocation = λ o there. ap (λ x. after x (a.allocation o)) (winner-same p d n a b i j o twins there) ∙ ap (after (winner p d n b o)) (twins.same.allocation o there);
  switch = λ o there. ap (λ x. after x (a.switch o)) (chosen-same p d n t a b i j o twins there) ∙ ap (after (chosen p d n t b j o)) (twins.same.switch o there);
  turn = λ port there. ap (λ x. after_grant x (a.turn port)) (grant-same p d n t a b i j port twins) ∙ ap (after_grant (grant p d n t b j port)) (twins.same.turn port there);
  row = λ o m k e below. row-next p d n t a b i j o m k twins e below;
  credits = λ o m w e below. credits-next p d n t a b i j o m w twins e below;
  pulse = λ port m c e below. ap (at_local port false) (leaves-same p d n t a b i j port c twins);
  packet = λ here. ap (λ k. next_packet p d k (word_in p a i)) (twins.same.packet here) ∙ ap (next_packet p d b.packet) (word-same p d n a b i j twins here);
  current = λ here. ap (λ m. next_current p d m (entry p d a.packet (word_in p a i))) (twins.same.current here)
      ∙ ap (λ k. next_current p d b.current (entry p d k (word_in p a i))) (twins.same.packet here)
      ∙ ap (λ x. next_current p d b.current (entry p d b.packet x)) (word-same p d n a b i j twins here);
  dropped = λ here. ap (λ k. is_dropped p d k (word_in p a i)) (twins.same.packet here) ∙ ap (is_dropped p d b.packet) (word-same p d n a b i j twins here);
  ejected = λ here. ap (λ x. next_ejected x i.hears a.ejected) (sent-same p d n t a b i j 0 twins (inl refl))
      ∙ ap (λ h. next_ejected (sent p d n t b j 0) h a.ejected) (twins.fed.hears here) ∙ ap (next_ejected (sent p d n t b j 0) j.hears) (twins.same.ejected here);
}
