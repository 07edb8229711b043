-- Whole packets: what a channel's flits lead to, and what is delivered goes where it names.
use Rattle.std.proofs.Common.{◌≡◌, ◌≢◌, ℕ, zero, suc, ◌+◌, ◌-◌, ◌*◌, ◌≤◌, Bool, true, false, Option, List, [], ◌∷◌, ◌++◌, drop, refl, sym, ap, ◌∙◌, subst, arith, append_assoc, append-nil, ◌==◌, ◌&&◌, ℤ}
use Rattle.std.specs.Prelude.{Some, None, not, if◌then◌else◌}
use Rattle.std.proofs.lemmas.Bool.Decides.{nat_tests}
use Rattle.noc_model.specs.declared.Flit.{Flit}
use Rattle.noc_model.specs.declared.LinkFlit.{LinkFlit}
use Rattle.noc_model.specs.declared.Grant.{Grant}
use Rattle.noc_model.specs.declared.Stage.{Stage}
use Rattle.noc_model.specs.declared.Stage.TheVariants.{Idle, Routed, Active}
use Rattle.noc_model.specs.Plan.{Plan, link_channels}
use Rattle.noc_model.specs.Place.{route}
use Rattle.noc_model.specs.Tile.{Tile, TileIn}
use Rattle.noc_model.specs.Step.{routed, winner, is_place, taken_channel, activated, grant, is_channel, leaves, front, is_tail, flit_on, one_if, next_stage, shifted}
use Rattle.noc_model.specs.Packets.{may_come, after_flit, ArePackets, on_way}
use Rattle.noc_model.proofs.Switch.{grant-ready, leaves-front}

-- ---- lists

pub packets-append : (a b c : Option ℕ) (xs ys : List Flit) → ArePackets a xs b → ArePackets b ys c
    → ArePackets a (xs ++ ys) c
packets-append a b c [] ys first rest = subst (λ z. ArePackets z ys c) (sym first) rest
packets-append a b c (f ∷ fs) ys first rest = (first.0, packets-append (after_flit f) b c fs ys first.1 rest)

-- a shift of the row, with what goes off and what comes on
on_way-shifted : (k : ℕ) (x : Option LinkFlit) (row : ℕ → Option LinkFlit) (w : ℕ)
    → flit_on (row k) w ++ on_way (suc k) (shifted x row) w ≡ on_way (suc k) row w ++ flit_on x w
on_way-shifted zero x row w =
    ap (λ fs. flit_on (row 0) w ++ fs) (append-nil (flit_on x w))
    ∙ ap (λ fs. fs ++ flit_on x w) (sym (append-nil (flit_on (row 0) w)))
on_way-shifted (suc k) x row w =
    ap (λ fs. flit_on (row (suc k)) w ++ fs) (on_way-shifted k x row w)
    ∙ sym (append_assoc (flit_on (row (suc k)) w) (on_way (suc k) row w) (flit_on x w))

pub on_way-part : (k : ℕ) (x : Option LinkFlit) (row : ℕ → Option LinkFlit) (w : ℕ) → 1 ≤ k
    → flit_on (row (k - 1)) w ++ on_way k (shifted x row) w ≡ on_way k row w ++ flit_on x w
on_way-part zero x row w some = absurd (omega arith)
on_way-part (suc k) x row w some = let e : suc k - 1 ≡ k = omega arith in rw e (on_way-shifted k x row w)

-- ---- where each input channel stands, as a function of what left it

-- where a channel stands after a cycle
abbrev pub moved_on : Bool → List Flit → Option ℕ → Option ℕ
moved_on false fs a = a
moved_on true [] a = a
moved_on true (f ∷ fs) a = after_flit f

-- the front of the list, if a head is still to go
abbrev pub HeadFor : Plan → ℕ → ℕ → List Flit → Type 0
HeadFor p n o [] = ⊥
HeadFor p n o (f ∷ fs) = route p n f.dest ≡ o

-- a channel goes by the route of its packet
abbrev pub FrontStands : Plan → ℕ → Option ℕ → List Flit → Stage → Type 0
FrontStands p n a fs Idle = a ≡ None
FrontStands p n a fs (Routed o) = (a ≡ None) × HeadFor p n o fs
FrontStands p n None fs (Active o w) = HeadFor p n o fs
FrontStands p n (Some dest) fs (Active o w) = route p n dest ≡ o

-- the rest after a flit has left, or not
pub packets-left : (b : Bool) (fs more : List Flit) (a e : Option ℕ) → (b ≡ true → (f : Flit) × (front fs ≡ Some f))
    → ArePackets a (fs ++ more) e
    → ArePackets (moved_on b fs a) (drop (one_if b) fs ++ more) e
packets-left false fs more a e some h = h
packets-left true [] more a e some h = absurd (let bad = (some refl).1 in cc bad)
packets-left true (f ∷ fs) more a e some h = h.1

head-stays : (p : Plan) (n o : ℕ) (fs more : List Flit) → HeadFor p n o fs → HeadFor p n o (fs ++ more)
head-stays p n o [] more h = absurd h
head-stays p n o (f ∷ fs) more h = h

-- only an active channel lets a flit go
pub leaves-active : (p : Plan) (d n : ℕ) (t : ℤ) (s : Tile) (i : TileIn) (port c : ℕ) → leaves p d n t s i port c ≡ true
    → (o : ℕ) × (w : ℕ) × (s.stage port c ≡ Active o w)
unfolding leaves
leaves-active p d n t s i port c e = go (grant p d n t s i port) refl e
  where
    go : (g : Option Grant) → grant p d n t s i port ≡ g → is_channel g c ≡ true
        → (o : ℕ) × (w : ℕ) × (s.stage port c ≡ Active o w)
    go None is h = absurd (cc h)
    go (Some g) is h =
        let at : g.channel ≡ c = grind (arith, nat_tests, h) in
        (g.out, g.to, ap (s.stage port) (sym at) ∙ (grant-ready p d n t s i port g is).active)

pub stays-put : (p : Plan) (d n : ℕ) (t : ℤ) (s : Tile) (i : TileIn) (port c : ℕ)
    → ((o w : ℕ) → s.stage port c ≢ Active o w) → leaves p d n t s i port c ≡ false
stays-put p d n t s i port c idle = go (leaves p d n t s i port c) refl
  where
    go : (b : Bool) → leaves p d n t s i port c ≡ b → b ≡ false
    go false e = refl
    go true e = let is = leaves-active p d n t s i port c e in absurd (idle is.0 is.1 is.2)

-- a flit that may come within a packet goes to its tile
pub same-dest : (a dest : ℕ) (f : Flit) → may_come (Some a) f ≡ true → f.dest ≡ a
same-dest a dest f e = go f.head e
  where
    go : (b : Bool) → (not b && (f.dest == a)) ≡ true → f.dest ≡ a
    go true h = absurd (cc h)
    go false h = grind (arith, nat_tests, h)

-- the channel's route after a cycle
pub front-next : (p : Plan) (d n : ℕ) (t : ℤ) (s : Tile) (i : TileIn) (port c : ℕ) (a : Option ℕ) (more : List Flit)
    → ((f : Flit) (fs : List Flit) → s.queue port c ≡ f ∷ fs → may_come a f ≡ true)
    → FrontStands p n a (s.queue port c) (s.stage port c)
    → FrontStands p n (moved_on (leaves p d n t s i port c) (s.queue port c) a) (drop (one_if (leaves p d n t s i port c)) (s.queue port c) ++ more) (next_stage p d n t s i port c (s.stage port c))
front-next p d n t s i port c a more fits stands = go (s.stage port c) refl stands
  where
    Next : Bool → Stage → Type 0
    Next b st = FrontStands p n (moved_on b (s.queue port c) a) (drop (one_if b) (s.queue port c) ++ more) st

    not_active-idle : s.stage port c ≡ Idle → (o w : ℕ) → s.stage port c ≢ Active o w
    not_active-idle e o w h = cc (e, h)

    not_active-routed : (k : ℕ) → s.stage port c ≡ Routed k → (o w : ℕ) → s.stage port c ≢ Active o w
    not_active-routed k e o w h = cc (e, h)

    first : (fs : List Flit) → a ≡ None → FrontStands p n a (fs ++ more) (routed p n fs Idle)
    first [] e = e
    first (f ∷ fs) e = (e, refl)

    within : (b : Bool) (w : Option ℕ) (o : ℕ) (b' : Option ℕ) (fs : List Flit) → b' ≡ None → HeadFor p n o fs
        → FrontStands p n b' fs (activated b o w)
    within false w o b' fs e h = (e, h)
    within true None o b' fs e h = (e, h)
    within true (Some w) o None fs e h = h
    within true (Some w) o (Some k) fs e h = absurd (cc e)

    on : (o w : ℕ) (b : Bool) (x : Option ℕ) (fs : List Flit) → (b ≡ true → (f : Flit) × (front fs ≡ Some f))
        → ((f : Flit) (gs : List Flit) → fs ≡ f ∷ gs → may_come x f ≡ true)
        → FrontStands p n x fs (Active o w)
        → FrontStands p n (moved_on b fs x) (drop (one_if b) fs ++ more) (if b && is_tail (front fs) then Idle else Active o w)
    on o w false None fs some may h = head-stays p n o fs more h
    on o w false (Some k) fs some may h = h
    on o w true x [] some may h = absurd (let bad = (some refl).1 in cc bad)
    on o w true x (f ∷ fs) some may h = tail f.tail
      where
        to : (y : Option ℕ) → may_come y f ≡ true → FrontStands p n y (f ∷ fs) (Active o w) → route p n f.dest ≡ o
        to None m g = g
        to (Some k) m g = ap (route p n) (same-dest k k f m) ∙ g

        tail : (b : Bool)
            → FrontStands p n (if b then None else Some f.dest) (fs ++ more) (if b then Idle else Active o w)
        tail true = refl
        tail false = to x (may f fs refl) h

    go : (st : Stage) → s.stage port c ≡ st → FrontStands p n a (s.queue port c) st
        → FrontStands p n (moved_on (leaves p d n t s i port c) (s.queue port c) a) (drop (one_if (leaves p d n t s i port c)) (s.queue port c) ++ more) (next_stage p d n t s i port c st)
    go Idle e h =
        subst (λ b. Next b (routed p n (s.queue port c) Idle)) (sym (stays-put p d n t s i port c (not_active-idle e))) (first (s.queue port c) h)
    go (Routed o) e h = subst (λ b. Next b (activated (is_place (winner p d n s o) (port * link_channels p d + c)) o (taken_channel p d n s o))) (sym (stays-put p d n t s i port c (not_active-routed o e)))
        (within (is_place (winner p d n s o) (port * link_channels p d + c)) (taken_channel p d n s o) o a (s.queue port c ++ more) h.0 (head-stays p n o (s.queue port c) more h.1))
    go (Active o w) e h = on o w (leaves p d n t s i port c) a (s.queue port c) (leaves-front p d n t s i port c) fits h
