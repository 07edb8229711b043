-- What a tile's step keeps, from what the inputs must be: absent places, bounds, and that no packet goes home where none is.
use Rattle.std.proofs.Common.{◌≡◌, ℕ, zero, suc, ◌+◌, ◌-◌, ◌*◌, ◌<◌, ◌≤◌, ◌^◌, Bool, true, false, List, [], ◌∷◌, ◌++◌, length, drop, Option, refl, ◌∙◌, ap, arith, subst, ◌==◌, ◌&&◌, ℤ, length-append, length-drop}
use Rattle.std.specs.Prelude.{Some, None, nat_lt, if◌then◌else◌, option_to_list, All}
use Rattle.std.proofs.lemmas.Bool.Decides.{nat_tests}
use Rattle.std.proofs.lemmas.List.Elements.{All-head, All-nil, All-cons, All-append, All-drop}
use Rattle.noc_model.specs.declared.Flit.{Flit}
use Rattle.noc_model.specs.declared.LinkFlit.{LinkFlit}
use Rattle.noc_model.specs.declared.Offer.{Offer}
use Rattle.noc_model.specs.declared.Packet.{Packet}
use Rattle.noc_model.specs.declared.Packet.TheVariants.{Between, Passing, Dropping}
use Rattle.noc_model.specs.declared.Stage.{Stage}
use Rattle.noc_model.specs.declared.Stage.TheVariants.{Idle, Routed, Active}
use Rattle.noc_model.specs.Plan.{Plan, channels, link_channels, hosts}
use Rattle.noc_model.specs.Place.{route}
use Rattle.noc_model.specs.Tile.{Tile, TileIn}
use Rattle.noc_model.specs.SoundState.{GoesHome, IsSoundTile}
use Rattle.noc_model.specs.Step.{routed, waits_for, winner, is_place, taken_channel, activated, leaves, is_tail, front, next_stage, comes_in, flit_on, entry, word_in, is_open, is_ready_packet, entry_of, goes_to, sent, is_on, one_if as number_of, tile_step}
use Rattle.noc_model.proofs.TileKept.{IsSoundIn}
use Rattle.leaf_tie.specs.Switch.{goes_by}
use Rattle.leaf_tie.specs.Buffers.{is_filled}
use Rattle.leaf_tie.specs.Tie.{HasLink, HasPlace, IsWord}

-- what one domain's part of the inputs must be
pub record MayCome (p : Plan) (n d : ℕ) (s : Tile) (i : TileIn) : Type 0 where
  pub home : IsSoundIn p d n i
  pub linked : (port : ℕ) (x : LinkFlit) → i.arrives port ≡ Some x → HasLink p n port × (x.channel < link_channels p d) × (length (s.queue port x.channel) < p.buffer)
  pub nothing : hosts p n d ≡ false → i.offer ≡ None
  pub room : (o x : ℕ) → HasLink p n o → i.returns o x ≡ true → s.credits o x < p.buffer

-- ---- absent places

no-word : (p : Plan) (s : Tile) (i : TileIn) → i.offer ≡ None → word_in p s i ≡ None
unfolding word_in
no-word p s i e = rw e (go (is_open p s))
  where
    none : Option Offer
    none = None

    go : (b : Bool) → (if b then none else none) ≡ none
    go true = refl
    go false = refl

comes-none : (p : Plan) (n d : ℕ) (s : Tile) (i : TileIn) (port c : ℕ) → MayCome p n d s i → s.current < channels p d → (HasPlace p n d port c → ⊥) → comes_in p d s i port c ≡ []
comes-none p n d s i zero c may few absent = go (hosts p n d) refl (s.current == c) refl
  where
    go : (h : Bool) → hosts p n d ≡ h → (b : Bool) → (s.current == c) ≡ b → (if b then option_to_list (entry p d s.packet (word_in p s i)) else []) ≡ []
    go h is false e = refl
    go false is true e = rw (no-word p s i (may.nothing is)) refl
    go true is true e =
        let same : s.current ≡ c = grind (arith, nat_tests, e) in
        absurd (absent (is, subst (λ k. k < channels p d) same few))
comes-none p n d s i (suc port) c may few absent = go (i.arrives (suc port)) refl
  where
    go : (x : Option LinkFlit) → i.arrives (suc port) ≡ x → flit_on x c ≡ []
    go None is = refl
    go (Some x) is = inner (x.channel == c) refl
      where
        inner : (b : Bool) → (x.channel == c) ≡ b → (if b then x.flit ∷ [] else []) ≡ []
        inner false e = refl
        inner true e =
            let same : x.channel ≡ c = grind (arith, nat_tests, e) in
            let at = may.linked (suc port) x is in
            absurd (absent (at.0, subst (λ k. k < link_channels p d) same at.1))

drop-empty : (k : ℕ) (q : List Flit) → q ≡ [] → drop k q ++ [] ≡ []
drop-empty zero q e = rw e refl
drop-empty (suc k) q e = rw e refl

pub absent-kept : (p : Plan) (n d : ℕ) (t : ℤ) (s : Tile) (i : TileIn) (port c : ℕ) → MayCome p n d s i → s.current < channels p d → (HasPlace p n d port c → ⊥)
    → (s.queue port c ≡ []) × (s.stage port c ≡ Idle) → ((tile_step p d n t s i).queue port c ≡ []) × ((tile_step p d n t s i).stage port c ≡ Idle)
unfolding tile_step
absent-kept p n d t s i port c may few absent was = (
  rw (comes-none p n d s i port c may few absent) (drop-empty (number_of (leaves p d n t s i port c)) (s.queue port c) was.0),
  ap (next_stage p d n t s i port c) was.1 ∙ ap (λ q. routed p n q Idle) was.0,
)

-- ---- bounds

pub within-kept : (p : Plan) (n d : ℕ) (t : ℤ) (s : Tile) (i : TileIn) (o x : ℕ) → MayCome p n d s i → HasLink p n o → s.credits o x ≤ p.buffer → (tile_step p d n t s i).credits o x ≤ p.buffer
unfolding tile_step
within-kept p n d t s i o x may link le = go (i.returns o x) refl (is_on (sent p d n t s i o) x)
  where
    go : (r : Bool) → i.returns o x ≡ r → (g : Bool) → s.credits o x + number_of r - number_of g ≤ p.buffer
    go true is true = let room = may.room o x link is in omega arith
    go true is false = let room = may.room o x link is in omega arith
    go false is true = omega arith
    go false is false = omega arith

pub short-kept : (p : Plan) (n d : ℕ) (t t' : ℤ) (s : Tile) (i : TileIn) (port c : ℕ) → MayCome p n d s i → IsSoundTile p d n t' (tile_step p d n t s i) → length (s.queue port c) ≤ p.buffer
    → length ((tile_step p d n t s i).queue port c) ≤ p.buffer
unfolding tile_step
short-kept p n d t t' s i zero c may sound le = sound.local c
short-kept p n d t t' s i (suc port) c may sound le = go (i.arrives (suc port)) refl
  where
    k : ℕ
    k = number_of (leaves p d n t s i (suc port) c)

    go : (x : Option LinkFlit) → i.arrives (suc port) ≡ x → length (drop k (s.queue (suc port) c) ++ flit_on x c) ≤ p.buffer
    go None is = rw (length-append, length-drop) (omega arith)
    go (Some x) is = inner (x.channel == c) refl
      where
        inner : (b : Bool) → (x.channel == c) ≡ b → length (drop k (s.queue (suc port) c) ++ (if b then x.flit ∷ [] else [])) ≤ p.buffer
        inner false e = rw (length-append, length-drop) (omega arith)
        inner true e =
            let same : x.channel ≡ c = grind (arith, nat_tests, e) in
            let room : length (s.queue (suc port) c) < p.buffer = subst (λ j. length (s.queue (suc port) j) < p.buffer) same (may.linked (suc port) x is).2 in
            rw (length-append, length-drop) (omega arith)

-- what comes finds room
entry-room : (p : Plan) (d : ℕ) (s : Tile) (i : TileIn) (f : Flit) → entry p d s.packet (word_in p s i) ≡ Some f → length (s.queue 0 s.current) < p.buffer
unfolding word_in is_open
entry-room p d s i f e = go s.packet i.offer e
  where
    taken : (b : Bool) (k : Packet) (x : Option Offer) → entry p d k (if b then x else None) ≡ Some f → b ≡ true
    taken true k x e = refl
    taken false k x e = absurd (cc e)

    none : (b : Bool) (x : Option Offer) → entry p d Dropping (if b then x else None) ≡ Some f → ⊥
    none true None e = cc e
    none true (Some x) e = cc e
    none false x e = cc e

    below : (a b : ℕ) → nat_lt a b ≡ true → a < b
    below a b e = grind (arith, nat_tests)

    go : (k : Packet) (x : Option Offer) → entry p d k (if is_ready_packet k (length (s.queue 0 s.current)) p.buffer then x else None) ≡ Some f
        → length (s.queue 0 s.current) < p.buffer
    go Between x e = below (length (s.queue 0 s.current)) p.buffer (taken (nat_lt (length (s.queue 0 s.current)) p.buffer) Between x e)
    go (Passing dest) x e = below (length (s.queue 0 s.current)) p.buffer (taken (nat_lt (length (s.queue 0 s.current)) p.buffer) (Passing dest) x e)
    go Dropping x e = absurd (none true x e)

pub comes-room : (p : Plan) (n d : ℕ) (s : Tile) (i : TileIn) (port c : ℕ) → MayCome p n d s i → is_filled (comes_in p d s i port c) ≡ true → length (s.queue port c) < p.buffer
comes-room p n d s i zero c may e = go (s.current == c) refl (entry p d s.packet (word_in p s i)) refl e
  where
    go : (b : Bool) → (s.current == c) ≡ b → (o : Option Flit) → entry p d s.packet (word_in p s i) ≡ o → is_filled (if b then option_to_list o else []) ≡ true → length (s.queue 0 c) < p.buffer
    go false at o is f = absurd (cc f)
    go true at None is f = absurd (cc f)
    go true at (Some x) is f =
        let same : s.current ≡ c = grind (arith, nat_tests, at) in
        subst (λ k. length (s.queue 0 k) < p.buffer) same (entry-room p d s i x is)
comes-room p n d s i (suc port) c may e = go (i.arrives (suc port)) refl e
  where
    go : (x : Option LinkFlit) → i.arrives (suc port) ≡ x → is_filled (flit_on x c) ≡ true → length (s.queue (suc port) c) < p.buffer
    go None is f = absurd (cc f)
    go (Some x) is f = inner (x.channel == c) refl f
      where
        inner : (b : Bool) → (x.channel == c) ≡ b → is_filled (if b then x.flit ∷ [] else []) ≡ true → length (s.queue (suc port) c) < p.buffer
        inner false at g = absurd (cc g)
        inner true at g =
            let same : x.channel ≡ c = grind (arith, nat_tests, at) in
            subst (λ j. length (s.queue (suc port) j) < p.buffer) same (may.linked (suc port) x is).2

-- ---- words

entry-word : (p : Plan) (d : ℕ) (k : Packet) (y : Option Offer) (f : Flit) → ((x : Offer) → y ≡ Some x → x.payload < 2 ^ 32) → entry p d k y ≡ Some f → IsWord f
entry-word p d k None f words e = absurd (cc e)
entry-word p d k (Some x) f words e = go (goes_to p d k x) e
  where
    go : (o : Option ℕ) → entry_of k x o ≡ Some f → IsWord f
    go None g = absurd (cc g)
    go (Some dest) g = let same : x.payload ≡ f.payload = ap (λ o. payload_of o) g in subst (λ m. m < 2 ^ 32) same (words x refl)
      where
        payload_of : Option Flit → ℕ
        payload_of None = 0
        payload_of (Some h) = h.payload

taken-word : (p : Plan) (s : Tile) (i : TileIn) (x : Offer) → word_in p s i ≡ Some x → i.offer ≡ Some x
unfolding word_in
taken-word p s i x e = go (is_open p s) e
  where
    go : (b : Bool) → (if b then i.offer else None) ≡ Some x → i.offer ≡ Some x
    go true f = f
    go false f = absurd (cc f)

one-word : (f : Flit) → IsWord f → All IsWord (f ∷ [])
one-word f h = All-cons IsWord f [] h (All-nil IsWord)

comes-words : (p : Plan) (d : ℕ) (s : Tile) (i : TileIn) (port c : ℕ) → ((k : ℕ) (x : LinkFlit) → i.arrives k ≡ Some x → IsWord x.flit) → ((x : Offer) → i.offer ≡ Some x → x.payload < 2 ^ 32)
    → All IsWord (comes_in p d s i port c)
comes-words p d s i zero c arrive offer = go (s.current == c) (entry p d s.packet (word_in p s i)) refl
  where
    go : (b : Bool) (o : Option Flit) → entry p d s.packet (word_in p s i) ≡ o → All IsWord (if b then option_to_list o else [])
    go false o e = All-nil IsWord
    go true None e = All-nil IsWord
    go true (Some f) e = one-word f (entry-word p d s.packet (word_in p s i) f (λ x is. offer x (taken-word p s i x is)) e)
comes-words p d s i (suc port) c arrive offer = go (i.arrives (suc port)) refl
  where
    go : (x : Option LinkFlit) → i.arrives (suc port) ≡ x → All IsWord (flit_on x c)
    go None is = All-nil IsWord
    go (Some x) is = inner (x.channel == c)
      where
        inner : (b : Bool) → All IsWord (if b then x.flit ∷ [] else [])
        inner true = one-word x.flit (arrive (suc port) x is)
        inner false = All-nil IsWord

pub words-kept : (p : Plan) (n d : ℕ) (t : ℤ) (s : Tile) (i : TileIn) (port c : ℕ) → ((k : ℕ) (x : LinkFlit) → i.arrives k ≡ Some x → IsWord x.flit) → ((x : Offer) → i.offer ≡ Some x → x.payload < 2 ^ 32)
    → All IsWord (s.queue port c) → All IsWord ((tile_step p d n t s i).queue port c)
unfolding tile_step
words-kept p n d t s i port c arrive offer was =
    All-append IsWord (drop (number_of (leaves p d n t s i port c)) (s.queue port c)) (comes_in p d s i port c)
    (All-drop IsWord (number_of (leaves p d n t s i port c)) (s.queue port c) was) (comes-words p d s i port c arrive offer)

-- ---- home

Away : Stage → Type 0
Away st = (goes_by st 0 ≡ false) × (waits_for st 0 ≡ false)

pub away-kept : (p : Plan) (n d : ℕ) (t : ℤ) (s : Tile) (i : TileIn) (port c : ℕ) → ((f : Flit) → GoesHome p d f → (route p n f.dest == 0) ≡ false) → All (GoesHome p d) (s.queue port c)
    → (goes_by (s.stage port c) 0 ≡ false) × (waits_for (s.stage port c) 0 ≡ false)
    → (goes_by ((tile_step p d n t s i).stage port c) 0 ≡ false) × (waits_for ((tile_step p d n t s i).stage port c) 0 ≡ false)
unfolding tile_step
away-kept p n d t s i port c away queued was = go (s.stage port c) was
  where
    front_away : (q : List Flit) → All (GoesHome p d) q → (goes_by (routed p n q Idle) 0 ≡ false) × (waits_for (routed p n q Idle) 0 ≡ false)
    front_away [] all = (refl, refl)
    front_away (f ∷ fs) all = (refl, away f (All-head (GoesHome p d) f fs all))

    active : (b : Bool) (o : ℕ) (x : Option ℕ) → (o == 0) ≡ false → (goes_by (activated b o x) 0 ≡ false) × (waits_for (activated b o x) 0 ≡ false)
    active false o x e = (refl, e)
    active true o None e = (refl, e)
    active true o (Some w) e = (e, refl)

    stays : (b : Bool) (o w : ℕ) → (o == 0) ≡ false → (goes_by (if b then Idle else Active o w) 0 ≡ false) × (waits_for (if b then Idle else Active o w) 0 ≡ false)
    stays true o w e = (refl, refl)
    stays false o w e = (e, refl)

    go : (st : Stage) → (goes_by st 0 ≡ false) × (waits_for st 0 ≡ false) → (goes_by (next_stage p d n t s i port c st) 0 ≡ false) × (waits_for (next_stage p d n t s i port c st) 0 ≡ false)
    go Idle h = front_away (s.queue port c) queued
    go (Routed o) h = active (is_place (winner p d n s o) (port * link_channels p d + c)) o (taken_channel p d n s o) h.1
    go (Active o w) h = stays (leaves p d n t s i port c && is_tail (front (s.queue port c))) o w h.0
