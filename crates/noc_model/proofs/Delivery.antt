-- What is delivered goes where it names, in every run.
use Rattle.std.proofs.Common.{◌≡◌, ◌≢◌, ℕ, zero, suc, ◌+◌, ◌-◌, ◌%◌, ◌<◌, ◌≤◌, ◌⊎◌, inl, inr, Bool, true, false, Option, List, [], ◌∷◌, ◌++◌, length, drop, refl, sym, ap, ◌∙◌, subst, arith, append_assoc, append-nil, ◌==◌, ◌&&◌, ℤ}
use Rattle.std.specs.Prelude.{Some, None, All, if◌then◌else◌, option_to_list, pos}
use Rattle.std.proofs.lemmas.Bool.Decides.{nat_tests}
use Rattle.std.proofs.lemmas.List.Elements.{All-nil, All-cons, All-head, All-append}
use Rattle.noc_model.specs.declared.Flit.{Flit}
use Rattle.noc_model.specs.declared.LinkFlit.{LinkFlit}
use Rattle.noc_model.specs.declared.Offer.{Offer}
use Rattle.noc_model.specs.declared.Packet.{Packet}
use Rattle.noc_model.specs.declared.Packet.TheVariants.{Between, Passing, Dropping}
use Rattle.noc_model.specs.declared.Stage.TheVariants.{Active}
use Rattle.noc_model.specs.Plan.{Plan, tiles, hosts, channels, link_channels, in_channels, lookup}
use Rattle.noc_model.specs.Sound.{IsSound}
use Rattle.noc_model.specs.Place.{neighbour, opposite, route}
use Rattle.noc_model.specs.Tile.{Tile, TileIn}
use Rattle.noc_model.specs.Step.{leaves, sent, flit_on, one_if, shifted, word_in, goes_to, packet_for, next_packet, entry, entry_of, next_current, comes_in, next_ejected, tile_step}
use Rattle.noc_model.specs.Run.{State, Input, start, fed, step}
use Rattle.noc_model.specs.SoundState.{GoesHome}
use Rattle.noc_model.specs.Reached.{IsReached}
use Rattle.noc_model.specs.Packets.{may_come, ArePackets, on_way}
use Rattle.noc_model.specs.Delivery.{given_to, given}
use Rattle.noc_model.specs.Flits.{where_there, delivered_at, delivered_to}
use Rattle.noc_model.proofs.Coords.{positive}
use Rattle.noc_model.proofs.Links.{link-from}
use Rattle.noc_model.proofs.Sum.{IsLink, comes_in-link, arrival-is}
use Rattle.noc_model.proofs.StateKept.{neighbour-inside, some-channels}
use Rattle.noc_model.proofs.Switch.{leaves-front, grant-ready, sent-by}
use Rattle.noc_model.proofs.HostTiles.{hosts-inside}
use Rattle.noc_model.proofs.Away.{route-home}
use Rattle.noc_model.proofs.Reached.{reached-start, reached-next}
use Rattle.noc_model.proofs.Packets.{packets-append, packets-left, on_way-part, front-next, same-dest, moved_on, FrontStands, HeadFor}
use Rattle.noc_model.proofs.Entries.{entry_at, entry-free, next_stand, Stand, entry-next, front-list}

-- ---- the attachment

-- what enters leads from where the packet stood to where it stands
entry-packets : (p : Plan) (d : ℕ) (k : Packet) (word : Option Offer)
    → ArePackets (given_to k) (option_to_list (entry p d k word)) (given_to (next_packet p d k word))
entry-packets p d k None = refl
entry-packets p d Between (Some x) = go (lookup p d x.address) x.last refl
  where
    go : (o : Option ℕ) (b : Bool) → x.last ≡ b
        → ArePackets None (option_to_list (entry_of Between x o)) (given_to (if b then Between else packet_for o))
    go None true e = refl
    go None false e = refl
    go (Some dest) true e = (refl, ap (λ b. if b then None else Some dest) e)
    go (Some dest) false e = (refl, ap (λ b. if b then None else Some dest) e)
entry-packets p d (Passing dest) (Some x) = go x.last refl
  where
    same : (a : ℕ) → (a == a) ≡ true
    same a = let e : a ≡ a = refl in grind (arith, nat_tests)

    go : (b : Bool) → x.last ≡ b
        → ArePackets (Some dest) (option_to_list (entry_of (Passing dest) x (Some dest))) (given_to (if b then Between else packet_for (Some dest)))
    go true e = (same dest, ap (λ b. if b then None else Some dest) e)
    go false e = (same dest, ap (λ b. if b then None else Some dest) e)
entry-packets p d Dropping (Some x) = go x.last
  where
    none : Option ℕ
    none = None

    go : (b : Bool) → none ≡ given_to (if b then Between else Dropping)
    go true = refl
    go false = refl

-- the current channel stays, or no packet is given in
turn : (p : Plan) (d current : ℕ) (k : Packet) (word : Option Offer)
    → (next_current p d current (entry p d k word) ≡ current) ⊎ (given_to (next_packet p d k word) ≡ None)
turn p d current k None = inl refl
turn p d current k (Some x) = go x.last refl (goes_to p d k x)
  where
    go : (b : Bool) → x.last ≡ b → (o : Option ℕ)
        → (next_current p d current (entry_of k x o) ≡ current) ⊎ (given_to (if x.last then Between else packet_for (goes_to p d k x)) ≡ None)
    go true e o = inr (ap (λ b. given_to (if b then Between else packet_for (goes_to p d k x))) e)
    go false e None = inl refl
    go false e (Some dest) = inl (ap (λ b. if b then (current + 1) % channels p d else current) e)

-- where a local channel stands after the cycle
pub given-next : (p : Plan) (d : ℕ) (k : Packet) (word : Option Offer) (current c : ℕ)
    → ArePackets (if current == c then given_to k else None) (if current == c then option_to_list (entry p d k word) else [])
    (if next_current p d current (entry p d k word) == c then given_to (next_packet p d k word) else None)
given-next p d k word current c = go (current == c) refl
  where
    next : ℕ
    next = next_current p d current (entry p d k word)

    to : Option ℕ
    to = given_to (next_packet p d k word)

    choose : (b : Bool) → to ≡ None → None ≡ (if b then to else None)
    choose true e = sym e
    choose false e = refl

    here : (current == c) ≡ true → (next ≡ current) ⊎ (to ≡ None) → to ≡ (if next == c then to else None)
    here e (inl same) = let test : (next == c) ≡ true = ap (λ m. m == c) same ∙ e in sym (ap (λ b. if b then to else None) test)
    here e (inr none) = none ∙ choose (next == c) none

    away : (current == c) ≡ false → (next ≡ current) ⊎ (to ≡ None) → None ≡ (if next == c then to else None)
    away e (inl same) = let test : (next == c) ≡ false = ap (λ m. m == c) same ∙ e in sym (ap (λ b. if b then to else None) test)
    away e (inr none) = choose (next == c) none

    Lead : Bool → Type 0
    Lead b =
        ArePackets (if b then given_to k else None) (if b then option_to_list (entry p d k word) else []) (if next == c then to else None)

    go : (b : Bool) → (current == c) ≡ b → Lead (current == c)
    go true e =
        subst Lead (sym e) (subst (ArePackets (given_to k) (option_to_list (entry p d k word))) (here e (turn p d current k word)) (entry-packets p d k word))
    go false e = subst Lead (sym e) (away e (turn p d current k word))

-- ---- a state

-- each channel stands in a packet, and its flits lead to where the flits stand that come behind them
pub record IsPacked (p : Plan) (d : ℕ) (s : State) (g : ℕ → ℕ → ℕ → Option ℕ) : Type 0 where
  pub stands : (n port c : ℕ) → n < tiles p → c < in_channels p d port
      → FrontStands p n (g n port c) ((s n).queue port c) ((s n).stage port c)
  pub local : (n c : ℕ) → n < tiles p → c < channels p d → ArePackets (g n 0 c) ((s n).queue 0 c) (given (s n) c)
  pub link : (n o m w : ℕ) → n < tiles p → neighbour p n o ≡ Some m → w < link_channels p d
      → ArePackets (g m (opposite o) w) ((s m).queue (opposite o) w ++ on_way p.stages ((s n).row o) w) (entry_at p d (s n) (g n) o w)
  -- a flit in an ejection place is where it names
  pub ejected : (n : ℕ) (f : Flit) → n < tiles p → (s n).ejected ≡ Some f → f.dest ≡ n

first-comes : (a e : Option ℕ) (xs rest fs : List Flit) (f : Flit) → ArePackets a (xs ++ rest) e → xs ≡ f ∷ fs
    → may_come a f ≡ true
first-comes a e xs rest fs f h is = (subst (λ ys. ArePackets a (ys ++ rest) e) is h).0

fits : (p : Plan) (d : ℕ) (t : ℤ) (s : State) (g : ℕ → ℕ → ℕ → Option ℕ) (n port c : ℕ) (f : Flit) (fs : List Flit)
    → IsSound p → IsReached p d t s → IsPacked p d s g
    → n < tiles p → c < in_channels p d port → (s n).queue port c ≡ f ∷ fs → may_come (g n port c) f ≡ true
fits p d t s g n zero c f fs sound reached packed inside below is =
    first-comes (g n 0 c) (given (s n) c) ((s n).queue 0 c) [] fs f (subst (λ xs. ArePackets (g n 0 c) xs (given (s n) c)) (sym (append-nil ((s n).queue 0 c))) (packed.local n c inside below)) is
fits p d t s g n (suc port) c f fs sound reached packed inside below is = go (neighbour p n (suc port)) refl
  where
    link : suc port ≢ 0
    link z = omega arith

    go : (o : Option ℕ) → neighbour p n (suc port) ≡ o → may_come (g n (suc port) c) f ≡ true
    go None e = absurd (let empty = (reached.sound n).unlinked (suc port) c link e in cc (empty, is))
    go (Some m) e =
        let ends = link-from p n (suc port) m (positive p.dims sound.sides) inside e in
        let there = neighbour-inside p n (suc port) m (positive p.dims sound.sides) e in
        let leads = packed.link m (opposite (suc port)) n c there ends.back below in
        let leads' =
        subst (λ q. ArePackets (g n q c) ((s n).queue q c ++ on_way p.stages ((s m).row (opposite (suc port))) c) (entry_at p d (s m) (g m) (opposite (suc port)) c)) ends.is_opposite leads in
        first-comes (g n (suc port) c) (entry_at p d (s m) (g m) (opposite (suc port)) c) ((s n).queue (suc port) c) (on_way p.stages ((s m).row (opposite (suc port))) c) fs f leads' is

-- ---- the step

-- where the channels stand after it
abbrev pub next_stands : Plan → ℕ → ℤ → State → Input → (ℕ → ℕ → ℕ → Option ℕ) → ℕ → ℕ → ℕ → Option ℕ
next_stands p d t s x g n = next_stand p d n t (s n) (fed p d s x n) (g n)

pub stand-at : (p : Plan) (d : ℕ) (t : ℕ) (s : State) (x : Input) (g : ℕ → ℕ → ℕ → Option ℕ) (n : ℕ) → IsSound p
    → IsReached p d (pos t) s → IsReached p d (pos (suc t)) (step p d (pos t) s x)
    → IsPacked p d s g → n < tiles p → Stand p d n (pos t) (s n) (fed p d s x n) (g n)
unfolding step
stand-at p d t s x g n sound reached after packed inside = record {
  held = reached.held n;
  held_after = after.held n;
  stands = λ port c below. packed.stands n port c inside below;
  fits = λ port c f fs below is. fits p d (pos t) s g n port c f fs sound reached packed inside below is;
}

local-next : (p : Plan) (d n : ℕ) (t : ℤ) (s : Tile) (i : TileIn) (c : ℕ) (a : Option ℕ)
    → ArePackets a (s.queue 0 c) (given s c)
    → ArePackets (moved_on (leaves p d n t s i 0 c) (s.queue 0 c) a) ((tile_step p d n t s i).queue 0 c) (given (tile_step p d n t s i) c)
unfolding tile_step
local-next p d n t s i c a leads =
    let left =
    packets-left (leaves p d n t s i 0 c) (s.queue 0 c) [] a (given s c) (leaves-front p d n t s i 0 c) (subst (λ xs. ArePackets a xs (given s c)) (sym (append-nil (s.queue 0 c))) leads) in
    let left' =
    subst (λ xs. ArePackets (moved_on (leaves p d n t s i 0 c) (s.queue 0 c) a) xs (given s c)) (append-nil (drop (one_if (leaves p d n t s i 0 c)) (s.queue 0 c))) left in
    packets-append (moved_on (leaves p d n t s i 0 c) (s.queue 0 c) a) (given s c) _ (drop (one_if (leaves p d n t s i 0 c)) (s.queue 0 c)) (comes_in p d s i 0 c) left'
    (given-next p d s.packet (word_in p s i) s.current c)

link-next : (p : Plan) (d : ℕ) (t : ℤ) (s : State) (x : Input) (n o m w : ℕ) (a b e : Option ℕ) → 1 ≤ p.stages
    → IsLink p n o m
    → ArePackets a ((s m).queue (opposite o) w ++ on_way p.stages ((s n).row o) w) b
    → ArePackets b (flit_on (sent p d n t (s n) (fed p d s x n) o) w) e
    → ArePackets (moved_on (leaves p d m t (s m) (fed p d s x m) (opposite o) w) ((s m).queue (opposite o) w) a)
    ((step p d t s x m).queue (opposite o) w ++ on_way p.stages ((step p d t s x n).row o) w) e
unfolding step tile_step
link-next p d t s x n o m w a b e some link leads out =
    let gone : Bool = leaves p d m t (s m) (fed p d s x m) (opposite o) w in
    let rest : List Flit = drop (one_if gone) ((s m).queue (opposite o) w) in
    let row : ℕ → Option LinkFlit = (s n).row o in
    let new : Option LinkFlit = sent p d n t (s n) (fed p d s x n) o in
    let left =
    packets-left gone ((s m).queue (opposite o) w) (on_way p.stages row w) a b (leaves-front p d m t (s m) (fed p d s x m) (opposite o) w) leads in
    let all =
    packets-append (moved_on gone ((s m).queue (opposite o) w) a) b e (rest ++ on_way p.stages row w) (flit_on new w) left out in
    subst (λ xs. ArePackets (moved_on gone ((s m).queue (opposite o) w) a) xs e)
    (append_assoc rest (on_way p.stages row w) (flit_on new w)
    ∙ ap (λ xs. rest ++ xs) (sym (on_way-part p.stages new row w some))
    ∙ sym (append_assoc rest (flit_on (row (p.stages - 1)) w) (on_way p.stages (shifted new row) w))
    ∙ ap (λ xs. rest ++ xs ++ on_way p.stages (shifted new row) w)
    (sym (comes_in-link p d (s m) (fed p d s x m) (opposite o) w link.arrives_port ∙ ap (λ y. flit_on y w) (arrival-is p s n o m link))))
    all

-- what goes to the ejection place is where it names
eject-home : (p : Plan) (d n : ℕ) (t : ℤ) (s : Tile) (i : TileIn) (g : ℕ → ℕ → Option ℕ) (x : LinkFlit) → IsSound p
    → n < tiles p → Stand p d n t s i g
    → ((port c : ℕ) → All (GoesHome p d) (s.queue port c)) → sent p d n t s i 0 ≡ Some x → x.flit.dest ≡ n
eject-home p d n t s i g x sound inside stand home e =
    let by = sent-by p d n t s i 0 x e in
    let ready = grant-ready p d n t s i by.port by.by by.granted in
    let list = front-list (s.queue by.port by.by.channel) x.flit by.is_front in
    let stands =
    subst (FrontStands p n (g by.port by.by.channel) (s.queue by.port by.by.channel)) ready.active (stand.stands by.port by.by.channel ready.in_range) in
    let names : route p n x.flit.dest ≡ 0 =
    to (g by.port by.by.channel) (s.queue by.port by.by.channel) list.0 by.by.out by.by.to list.1 by.out (stand.fits by.port by.by.channel x.flit list.0 ready.in_range list.1) stands in
    let there =
    hosts-inside p x.flit.dest d sound (first-home list.0 (s.queue by.port by.by.channel) list.1 (home by.port by.by.channel)) in
    sym (route-home p n x.flit.dest (positive p.dims sound.sides) inside there names)
  where
    to : (a : Option ℕ) (qs gs : List Flit) (o w : ℕ) → qs ≡ x.flit ∷ gs → o ≡ 0 → may_come a x.flit ≡ true
        → FrontStands p n a qs (Active o w) → route p n x.flit.dest ≡ 0
    to None qs gs o w is out may h = subst (HeadFor p n o) is h ∙ out
    to (Some k) qs gs o w is out may h = ap (route p n) (same-dest k k x.flit may) ∙ h ∙ out

    first-home : (gs qs : List Flit) → qs ≡ x.flit ∷ gs → All (GoesHome p d) qs → GoesHome p d x.flit
    first-home gs qs is all = All-head (GoesHome p d) x.flit gs (subst (All (GoesHome p d)) is all)

ejected-next : (n : ℕ) (o : Option LinkFlit) (hears : Bool) (old : Option Flit) (f : Flit)
    → ((x : LinkFlit) → o ≡ Some x → x.flit.dest ≡ n) → ((g : Flit) → old ≡ Some g → g.dest ≡ n)
    → next_ejected o hears old ≡ Some f → f.dest ≡ n
ejected-next n (Some x) hears old f new kept e = let same : x.flit ≡ f = cc in ap (λ (g : Flit). g.dest) (sym same) ∙ new x refl
ejected-next n None true old f new kept e = absurd (cc e)
ejected-next n None false old f new kept e = kept f e

pub packed-next : (p : Plan) (d t : ℕ) (s : State) (x : Input) (g : ℕ → ℕ → ℕ → Option ℕ) → IsSound p
    → IsReached p d (pos t) s → IsPacked p d s g
    → IsPacked p d (step p d (pos t) s x) (next_stands p d (pos t) s x g)
unfolding step tile_step
packed-next p d t s x g sound reached packed = record {
  stands = λ n port c inside below. front-next p d n (pos t) (s n) (fed p d s x n) port c (g n port c) (comes_in p d (s n) (fed p d s x n) port c)
      (λ f fs is. fits p d (pos t) s g n port c f fs sound reached packed inside below is) (packed.stands n port c inside below);
  local = λ n c inside below. local-next p d n (pos t) (s n) (fed p d s x n) c (g n 0 c) (packed.local n c inside below);
  link = λ n o m w inside e below. link-next p d (pos t) s x n o m w (g m (opposite o) w) (entry_at p d (s n) (g n) o w)
      (entry_at p d (tile_step p d n (pos t) (s n) (fed p d s x n)) (next_stand p d n (pos t) (s n) (fed p d s x n) (g n)) o w) sound.stages.0
      (link-from p n o m (positive p.dims sound.sides) inside e) (packed.link n o m w inside e below)
      (entry-next p d n (pos t) (s n) (fed p d s x n) (g n) o w (stand-at p d t s x g n sound reached (reached-next p d t s x sound reached) packed inside));
  ejected = λ n f inside e. ejected-next n (sent p d n (pos t) (s n) (fed p d s x n) 0) (fed p d s x n).hears (s n).ejected f
      (λ y is. eject-home p d n (pos t) (s n) (fed p d s x n) (g n) y sound inside (stand-at p d t s x g n sound reached (reached-next p d t s x sound reached) packed inside) (reached.sound n).queued is)
      (λ f' is. packed.ejected n f' inside is) e;
}

-- ---- runs

on_way-none : (k w : ℕ) → on_way k (λ i. None) w ≡ []
on_way-none zero w = refl
on_way-none (suc k) w = on_way-none k w

pub nowhere : ℕ → ℕ → ℕ → Option ℕ
nowhere n port c = None

pub packed-start : (p : Plan) (d : ℕ) → IsReached p d (pos 0) (start p) → IsPacked p d (start p) nowhere
unfolding nowhere
packed-start p d reached = record {
  stands = λ n port c inside below. refl;
  local = λ n c inside below. none (0 == c);
  link = λ n o m w inside e below. subst (λ xs. ArePackets None xs (entry_at p d (start p n) (nowhere n) o w)) (sym (on_way-none p.stages w)) (sym (entry-free p d n (start p n) (nowhere n) o w (reached.held n) refl));
  ejected = λ n f inside e. absurd (cc e);
}
  where
    nothing : Option ℕ
    nothing = None

    none : (b : Bool) → nothing ≡ (if b then nothing else nothing)
    none true = refl
    none false = refl

delivered-home : (p : Plan) (d : ℕ) (s : State) (x : Input) (n : ℕ) → ((f : Flit) → (s n).ejected ≡ Some f → f.dest ≡ n)
    → All (λ (f : Flit). f.dest ≡ n) (delivered_at p d s x n)
delivered-home p d s x n home = go (hosts p n d && x.hears n) (s n).ejected refl
  where
    go : (b : Bool) (o : Option Flit) → (s n).ejected ≡ o
        → All (λ (f : Flit). f.dest ≡ n) (where_there b (option_to_list o))
    go false o e = All-nil (λ (f : Flit). f.dest ≡ n)
    go true None e = All-nil (λ (f : Flit). f.dest ≡ n)
    go true (Some f) e = All-cons (λ (f : Flit). f.dest ≡ n) f [] (home f e) (All-nil (λ (f : Flit). f.dest ≡ n))

pub delivered-from : (p : Plan) (d t : ℕ) (s : State) (g : ℕ → ℕ → ℕ → Option ℕ) (xs : List Input) (n : ℕ) → IsSound p
    → n < tiles p → IsReached p d (pos t) s → IsPacked p d s g
    → All (λ (f : Flit). f.dest ≡ n) (delivered_to p d t s xs n)
delivered-from p d t s g [] n sound inside reached packed = All-nil (λ (f : Flit). f.dest ≡ n)
delivered-from p d t s g (x ∷ xs) n sound inside reached packed =
    All-append (λ (f : Flit). f.dest ≡ n) (delivered_at p d s x n) (delivered_to p d (suc t) (step p d (pos t) s x) xs n)
    (delivered-home p d s x n (λ f e. packed.ejected n f inside e))
    (delivered-from p d (suc t) (step p d (pos t) s x) (next_stands p d (pos t) s x g) xs n sound inside (reached-next p d t s x sound reached) (packed-next p d t s x g sound reached packed))

-- nothing is delivered at another tile than the one that it names
pub delivered-law : (p : Plan) (d : ℕ) (xs : List Input) (n : ℕ) → IsSound p → d < length p.domains → n < tiles p
    → All (λ (f : Flit). f.dest ≡ n) (delivered_to p d 0 (start p) xs n)
delivered-law p d xs n sound there inside =
    let reached = reached-start p d (pos 0) (some-channels p d sound there) in
    delivered-from p d 0 (start p) nowhere xs n sound inside reached (packed-start p d reached)
