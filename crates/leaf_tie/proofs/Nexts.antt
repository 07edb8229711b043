-- What a step does to the stage of one place, seen from one output.
use Rattle.std.proofs.Common.{◌≡◌, ℕ, ◌+◌, ◌*◌, ◌/◌, ◌%◌, ◌<◌, Bool, true, false, List, [], ◌∷◌, Option, refl, sym, ◌∙◌, ap, arith, ◌==◌, ◌&&◌, ◌||◌, ℤ}
use Rattle.std.specs.Prelude.{Some, None, not, is_some, nat_lt, if◌then◌else◌}
use Rattle.std.proofs.lemmas.Bool.Decides.{nat_tests}
use Rattle.noc_model.specs.declared.Flit.{Flit}
use Rattle.noc_model.specs.declared.Stage.{Stage}
use Rattle.noc_model.specs.declared.Stage.TheVariants.{Idle, Routed, Active}
use Rattle.noc_model.specs.Plan.{Plan, link_channels, in_channels, ports}
use Rattle.noc_model.specs.Tile.{Tile, TileIn}
use Rattle.noc_model.specs.Step.{routed, waits_for, free_for, is_candidate, winner, is_place, taken_channel, activated, leaves, is_tail, front, next_stage}
use Rattle.noc_model.proofs.Least.{pick-member}
use Rattle.leaf_tie.specs.Places.{is_active, is_led, leads}

-- what wins waits, and takes a channel
pub record Won (p : Plan) (d n : ℕ) (s : Tile) (o place : ℕ) (st : Stage) : Type 0 where
  pub waits : is_place (winner p d n s o) place ≡ true → waits_for st o ≡ true
  pub takes : is_place (winner p d n s o) place ≡ true → is_some (taken_channel p d n s o) ≡ true

not-both : (x : Bool) → (x && false) ≡ false
not-both true = refl
not-both false = refl

lost : (b : Bool) → (b ≡ true → false ≡ true) → b ≡ false
lost true h = absurd (cc (h refl))
lost false h = refl

pub waits-next : (p : Plan) (d n : ℕ) (t : ℤ) (s : Tile) (i : TileIn) (o port c place : ℕ) (st : Stage) → port * link_channels p d + c ≡ place → Won p d n s o place st
    → waits_for (next_stage p d n t s i port c st) o ≡ ((waits_for st o && not (is_place (winner p d n s o) place)) || is_led p n (s.queue port c) st o)
waits-next p d n t s i o port c place Idle at won = go (s.queue port c)
  where
    go : (q : List Flit) → waits_for (routed p n q Idle) o ≡ leads p n q o
    go [] = refl
    go (f ∷ fs) = refl
waits-next p d n t s i o port c place (Routed to) at won = rw at (go (to == o) refl)
  where
    elsewhere : (b : Bool) (x : Option ℕ) → (to == o) ≡ false → waits_for (activated b to x) o ≡ false
    elsewhere false x e = e
    elsewhere true None e = e
    elsewhere true (Some k) e = refl

    here : (b : Bool) (x : Option ℕ) → (to == o) ≡ true → (b ≡ true → is_some x ≡ true) → waits_for (activated b to x) o ≡ ((true && not b) || false)
    here false x e some = e
    here true None e some = absurd (cc (some refl))
    here true (Some k) e some = refl

    go : (b : Bool) → (to == o) ≡ b → waits_for (activated (is_place (winner p d n s to) place) to (taken_channel p d n s to)) o ≡ ((b && not (is_place (winner p d n s o) place)) || false)
    go false e = elsewhere (is_place (winner p d n s to) place) (taken_channel p d n s to) e
    go true e =
        let same : to ≡ o = grind (arith, nat_tests) in
        ap (λ k. waits_for (activated (is_place (winner p d n s k) place) to (taken_channel p d n s k)) o) same
        ∙ here (is_place (winner p d n s o) place) (taken_channel p d n s o) e won.takes
waits-next p d n t s i o port c place (Active to w) at won = go (leaves p d n t s i port c && is_tail (front (s.queue port c)))
  where
    go : (b : Bool) → waits_for (if b then Idle else Active to w) o ≡ false
    go true = refl
    go false = refl

pub active-next : (p : Plan) (d n : ℕ) (t : ℤ) (s : Tile) (i : TileIn) (o w port c place : ℕ) (st : Stage) → port * link_channels p d + c ≡ place → Won p d n s o place st
    → is_active (next_stage p d n t s i port c st) o w
    ≡ ((is_active st o w && not (leaves p d n t s i port c && is_tail (front (s.queue port c)))) || (is_place (taken_channel p d n s o) w && is_place (winner p d n s o) place))
active-next p d n t s i o w port c place Idle at won =
    rw (lost (is_place (winner p d n s o) place) won.waits) (go (s.queue port c) ∙ sym (not-both (is_place (taken_channel p d n s o) w)))
  where
    go : (q : List Flit) → is_active (routed p n q Idle) o w ≡ false
    go [] = refl
    go (f ∷ fs) = refl
active-next p d n t s i o w port c place (Routed to) at won = rw at (go (to == o) refl)
  where
    elsewhere : (b : Bool) (x : Option ℕ) → (to == o) ≡ false → is_active (activated b to x) o w ≡ false
    elsewhere false x e = refl
    elsewhere true None e = refl
    elsewhere true (Some k) e = rw e refl

    here : (b : Bool) (x : Option ℕ) → (to == o) ≡ true → is_active (activated b to x) o w ≡ (is_place x w && b)
    here false x e = sym (not-both (is_place x w))
    here true None e = refl
    here true (Some k) e = rw e (keep (k == w))
      where
        keep : (b : Bool) → b ≡ (b && true)
        keep true = refl
        keep false = refl

    go : (b : Bool) → (to == o) ≡ b → is_active (activated (is_place (winner p d n s to) place) to (taken_channel p d n s to)) o w ≡ (is_place (taken_channel p d n s o) w && is_place (winner p d n s o) place)
    go false e =
        elsewhere (is_place (winner p d n s to) place) (taken_channel p d n s to) e
        ∙ sym (rw (lost (is_place (winner p d n s o) place) (λ h. sym e ∙ won.waits h)) (not-both (is_place (taken_channel p d n s o) w)))
    go true e =
        let same : to ≡ o = grind (arith, nat_tests) in
        ap (λ k. is_active (activated (is_place (winner p d n s k) place) to (taken_channel p d n s k)) o w) same
        ∙ here (is_place (winner p d n s o) place) (taken_channel p d n s o) e
active-next p d n t s i o w port c place (Active to v) at won =
    rw (lost (is_place (winner p d n s o) place) won.waits)
    (go (leaves p d n t s i port c && is_tail (front (s.queue port c))) ((to == o) && (v == w)) (is_place (taken_channel p d n s o) w))
  where
    inner : (b : Bool) → is_active (if b then Idle else Active to v) o w ≡ (((to == o) && (v == w)) && not b)
    inner true = sym (not-both ((to == o) && (v == w)))
    inner false = keep ((to == o) && (v == w))
      where
        keep : (b : Bool) → b ≡ (b && true)
        keep true = refl
        keep false = refl

    plain : (x y : Bool) → x ≡ (x || (y && false))
    plain true y = refl
    plain false y = sym (not-both y)

    go : (b z y : Bool) → is_active (if b then Idle else Active to v) o w ≡ ((((to == o) && (v == w)) && not b) || (y && false))
    go b z y = inner b ∙ plain (((to == o) && (v == w)) && not b) y

-- the place that wins is a candidate
pub record IsCandidate (p : Plan) (d n : ℕ) (s : Tile) (o place : ℕ) : Type 0 where
  pub below : place < ports p * link_channels p d
  pub in_range : nat_lt (place % link_channels p d) (in_channels p d (place / link_channels p d)) ≡ true
  pub waits : waits_for (s.stage (place / link_channels p d) (place % link_channels p d)) o ≡ true
  pub free : is_some (free_for p d n s o (place / link_channels p d) (place % link_channels p d)) ≡ true

and-first : (a b : Bool) → (a && b) ≡ true → a ≡ true
and-first true b e = refl
and-first false b e = absurd (cc e)

and-second : (a b : Bool) → (a && b) ≡ true → b ≡ true
and-second true b e = e
and-second false b e = absurd (cc e)

pub winner-candidate : (p : Plan) (d n : ℕ) (s : Tile) (o place : ℕ) → winner p d n s o ≡ Some place → IsCandidate p d n s o place
unfolding winner
winner-candidate p d n s o place e =
    let member = pick-member (ports p * link_channels p d) (is_candidate p d n s o) (s.allocation o) place e in
    let later = and-second (nat_lt (place % link_channels p d) (in_channels p d (place / link_channels p d))) (waits_for (s.stage (place / link_channels p d) (place % link_channels p d)) o && is_some (free_for p d n s o (place / link_channels p d) (place % link_channels p d))) member.1 in
    record {
      below = member.0;
      in_range = and-first (nat_lt (place % link_channels p d) (in_channels p d (place / link_channels p d))) (waits_for (s.stage (place / link_channels p d) (place % link_channels p d)) o && is_some (free_for p d n s o (place / link_channels p d) (place % link_channels p d))) member.1;
      waits = and-first (waits_for (s.stage (place / link_channels p d) (place % link_channels p d)) o) (is_some (free_for p d n s o (place / link_channels p d) (place % link_channels p d))) later;
      free = and-second (waits_for (s.stage (place / link_channels p d) (place % link_channels p d)) o) (is_some (free_for p d n s o (place / link_channels p d) (place % link_channels p d))) later;
    }

pub taken-some : (p : Plan) (d n : ℕ) (s : Tile) (o place : ℕ) → winner p d n s o ≡ Some place → taken_channel p d n s o ≡ free_for p d n s o (place / link_channels p d) (place % link_channels p d)
unfolding taken_channel
taken-some p d n s o place e = rw e refl

pub taken-none : (p : Plan) (d n : ℕ) (s : Tile) (o : ℕ) → winner p d n s o ≡ None → taken_channel p d n s o ≡ None
unfolding taken_channel
taken-none p d n s o e = rw e refl

pub won : (p : Plan) (d n : ℕ) (s : Tile) (o place : ℕ) → Won p d n s o place (s.stage (place / link_channels p d) (place % link_channels p d))
won p d n s o place = record {
  waits = λ e. waits (winner p d n s o) refl e;
  takes = λ e. takes (winner p d n s o) refl e;
}
  where
    at : (k : ℕ) → (k == place) ≡ true → k ≡ place
    at k e = grind (arith, nat_tests)

    waits : (x : Option ℕ) → winner p d n s o ≡ x → is_place x place ≡ true → waits_for (s.stage (place / link_channels p d) (place % link_channels p d)) o ≡ true
    waits None is e = absurd (cc e)
    waits (Some k) is e = (winner-candidate p d n s o place (is ∙ ap Some (at k e))).waits

    takes : (x : Option ℕ) → winner p d n s o ≡ x → is_place x place ≡ true → is_some (taken_channel p d n s o) ≡ true
    takes None is e = absurd (cc e)
    takes (Some k) is e =
        let here : winner p d n s o ≡ Some place = is ∙ ap Some (at k e) in
        ap is_some (taken-some p d n s o place here) ∙ (winner-candidate p d n s o place here).free
