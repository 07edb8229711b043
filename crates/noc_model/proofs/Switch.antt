-- What the switch moves: only flits that are there, on channels with a credit.
use Rattle.std.proofs.Common.{◌≡◌, ℕ, ◌<◌, Bool, true, false, Option, List, [], ◌∷◌, refl, sym, ◌∙◌, ap, arith, ℤ}
use Rattle.std.specs.Prelude.{if◌then◌else◌, Some, None, ◌==◌, option_and_then}
use Rattle.std.proofs.lemmas.Bool.Decides.{nat_tests}
use Rattle.noc_model.specs.declared.Flit.{Flit}
use Rattle.noc_model.specs.declared.LinkFlit.{LinkFlit}
use Rattle.noc_model.specs.declared.Grant.{Grant}
use Rattle.noc_model.specs.declared.Stage.{Stage}
use Rattle.noc_model.specs.declared.Stage.TheVariants.{Idle, Routed, Active}
use Rattle.noc_model.specs.Plan.{Plan, in_channels, ports}
use Rattle.noc_model.specs.Pick.{pick}
use Rattle.noc_model.specs.Tile.{Tile, TileIn}
use Rattle.noc_model.specs.Step.{takes, is_ready_at, is_ready, grant_at, asked, asks_for, chosen, granted_to, grant, is_channel, leaves, front, with_channel, sent, is_on}
use Rattle.noc_model.proofs.Least.{pick-member}

-- a channel that may send this grant in the cycle
pub record IsReadyFor (p : Plan) (d n : ℕ) (t : ℤ) (s : Tile) (i : TileIn) (port : ℕ) (g : Grant) : Type 0 where
  pub in_range : g.channel < in_channels p d port
  pub active : s.stage port g.channel ≡ Active g.out g.to
  pub flit : Flit
  pub is_front : front (s.queue port g.channel) ≡ Some flit
  pub taken : takes p d n t s i g.out g.to ≡ true

ready_queue : (p : Plan) (d n : ℕ) (t : ℤ) (s : Tile) (i : TileIn) (fs : List Flit) (st : Stage) (o w : ℕ)
    → st ≡ Active o w → is_ready_at p d n t s i fs st ≡ true
    → (f : Flit) × (front fs ≡ Some f) × (takes p d n t s i o w ≡ true)
ready_queue p d n t s i fs Idle o w e r = absurd (cc e)
ready_queue p d n t s i fs (Routed o') o w e r = absurd (cc e)
ready_queue p d n t s i [] (Active o' w') o w e r = absurd (cc r)
ready_queue p d n t s i (f ∷ fs) (Active o' w') o w e r = (
  f,
  refl,
  let same_o : o' ≡ o = cc in let same_w : w' ≡ w = cc in
      rw (← same_o, ← same_w) r,
)

grant_at-is : (c : ℕ) (st : Stage) (g : Grant) → grant_at c st ≡ Some g → (g.channel ≡ c) × (st ≡ Active g.out g.to)
grant_at-is c Idle g e = absurd (cc e)
grant_at-is c (Routed o) g e = absurd (cc e)
grant_at-is c (Active o w) g e =
    let is : record { channel = c; out = o; to = w } ≡ g = cc in
    (ap (λ (x : Grant). x.channel) (sym is), ap (λ (x : Grant). Active x.out x.to) is)

pub then-is : {A B : Type 0} (f : A → Option B) (o : Option A) (y : B) → option_and_then f o ≡ Some y
    → (x : A) × (o ≡ Some x) × (f x ≡ Some y)
then-is f None y e = absurd (cc e)
then-is f (Some x) y e = (x, refl, e)

ready_at : (p : Plan) (d n : ℕ) (t : ℤ) (s : Tile) (i : TileIn) (port : ℕ) (g : Grant) (c : ℕ) (f : Flit)
    → g.channel ≡ c → c < in_channels p d port → s.stage port c ≡ Active g.out g.to → front (s.queue port c) ≡ Some f
    → takes p d n t s i g.out g.to ≡ true → IsReadyFor p d n t s i port g
ready_at p d n t s i port g c f same in_range active is_front taken = record {
  in_range = rw same in_range;
  active = rw same active;
  flit = f;
  is_front = rw same is_front;
  taken = taken;
}

-- what an input port asks for may be sent
pub asked-ready : (p : Plan) (d n : ℕ) (t : ℤ) (s : Tile) (i : TileIn) (port : ℕ) (g : Grant)
    → asked p d n t s i port ≡ Some g → IsReadyFor p d n t s i port g
unfolding asked
asked-ready p d n t s i port g e =
    let got =
    then-is (λ c. grant_at c (s.stage port c)) (pick (in_channels p d port) (is_ready p d n t s i port) (s.turn port)) g e in
    let member = pick-member (in_channels p d port) (is_ready p d n t s i port) (s.turn port) got.0 got.1 in
    let at = grant_at-is got.0 (s.stage port got.0) g got.2 in
    let ready = ready_queue p d n t s i (s.queue port got.0) (s.stage port got.0) g.out g.to at.1 member.1 in
    ready_at p d n t s i port g got.0 ready.0 at.0 member.0 at.1 ready.1 ready.2

pub granted_to-is : (o : Option ℕ) (port : ℕ) (g h : Grant) → granted_to o port g ≡ Some h → g ≡ h
granted_to-is None port g h e = absurd (cc e)
granted_to-is (Some k) port g h e = go (k == port) e
  where
    go : (b : Bool) → (if b then Some g else None) ≡ Some h → g ≡ h
    go true e = cc
    go false e = absurd (cc e)

-- so may what is granted to it
pub grant-ready : (p : Plan) (d n : ℕ) (t : ℤ) (s : Tile) (i : TileIn) (port : ℕ) (g : Grant)
    → grant p d n t s i port ≡ Some g → IsReadyFor p d n t s i port g
unfolding grant
grant-ready p d n t s i port g e =
    let got = then-is (λ h. granted_to (chosen p d n t s i h.out) port h) (asked p d n t s i port) g e in
    asked-ready p d n t s i port g (got.1 ∙ ap Some (granted_to-is (chosen p d n t s i got.0.out) port got.0 g got.2))

-- a flit leaves a channel only where there is one
pub leaves-front : (p : Plan) (d n : ℕ) (t : ℤ) (s : Tile) (i : TileIn) (port c : ℕ)
    → leaves p d n t s i port c ≡ true → (f : Flit) × (front (s.queue port c) ≡ Some f)
unfolding leaves
leaves-front p d n t s i port c e = go (grant p d n t s i port) refl e
  where
    go : (o : Option Grant) → grant p d n t s i port ≡ o → is_channel o c ≡ true
        → (f : Flit) × (front (s.queue port c) ≡ Some f)
    go None is e = absurd (cc e)
    go (Some g) is e =
        let ready = grant-ready p d n t s i port g is in
        let same : g.channel ≡ c = grind (arith, nat_tests, e) in
        (ready.flit, rw (← same) ready.is_front)

pub option_one : {A : Type 0} (o : Option A) (x y : A) → o ≡ Some x → o ≡ Some y → x ≡ y
option_one o x y e f = cc

pub asks_for-out : (o : Option Grant) (out : ℕ) → asks_for o out ≡ true → (g : Grant) × (o ≡ Some g) × (g.out ≡ out)
asks_for-out None out e = absurd (cc e)
asks_for-out (Some g) out e = (g, refl, grind (arith, nat_tests, e))

with_channel-is : (w : ℕ) (f : Option Flit) (x : LinkFlit) → with_channel w f ≡ Some x → x.channel ≡ w
with_channel-is w None x e = absurd (cc e)
with_channel-is w (Some f) x e = let is : record { channel = w; flit = f } ≡ x = cc in ap (λ (y : LinkFlit). y.channel) (sym is)

-- what is sent goes by a grant, to a channel that takes it, and is the front of the granted channel
pub record IsSentBy (p : Plan) (d n : ℕ) (t : ℤ) (s : Tile) (i : TileIn) (o : ℕ) (x : LinkFlit) : Type 0 where
  pub port : ℕ
  pub inside : port < ports p
  pub by : Grant
  pub granted : grant p d n t s i port ≡ Some by
  pub out : by.out ≡ o
  pub to : by.to ≡ x.channel
  pub is_front : front (s.queue port by.channel) ≡ Some x.flit

with_channel-flit : (w : ℕ) (f : Option Flit) (x : LinkFlit) → with_channel w f ≡ Some x → f ≡ Some x.flit
with_channel-flit w None x e = absurd (cc e)
with_channel-flit w (Some f) x e = let is : record { channel = w; flit = f } ≡ x = cc in ap (λ (y : LinkFlit). Some y.flit) is

granted-out : (p : Plan) (d n : ℕ) (t : ℤ) (s : Tile) (i : TileIn) (o port : ℕ) (g : Grant)
    → chosen p d n t s i o ≡ Some port → grant p d n t s i port ≡ Some g → g.out ≡ o
unfolding chosen grant
granted-out p d n t s i o port g is_chosen is_granted =
    let member = pick-member (ports p) (λ k. asks_for (asked p d n t s i k) o) (s.switch o) port is_chosen in
    let asks = asks_for-out (asked p d n t s i port) o member.1 in
    let got = then-is (λ h. granted_to (chosen p d n t s i h.out) port h) (asked p d n t s i port) g is_granted in
    let same = granted_to-is (chosen p d n t s i got.0.out) port got.0 g got.2 in
    let one : asks.0 ≡ g = option_one (asked p d n t s i port) asks.0 g asks.1 (got.1 ∙ ap Some same) in
    ap (λ (h : Grant). h.out) (sym one) ∙ asks.2

-- an output picks a port that is there
pub chosen-inside : (p : Plan) (d n : ℕ) (t : ℤ) (s : Tile) (i : TileIn) (o port : ℕ) → chosen p d n t s i o ≡ Some port
    → port < ports p
unfolding chosen
chosen-inside p d n t s i o port e =
    (pick-member (ports p) (λ k. asks_for (asked p d n t s i k) o) (s.switch o) port e).0

pub sent-by : (p : Plan) (d n : ℕ) (t : ℤ) (s : Tile) (i : TileIn) (o : ℕ) (x : LinkFlit)
    → sent p d n t s i o ≡ Some x → IsSentBy p d n t s i o x
unfolding sent
sent-by p d n t s i o x e =
    let got =
    then-is (λ port. option_and_then (λ g. with_channel g.to (front (s.queue port g.channel))) (grant p d n t s i port)) (chosen p d n t s i o) x e in
    let by = then-is (λ g. with_channel g.to (front (s.queue got.0 g.channel))) (grant p d n t s i got.0) x got.2 in
    record {
      port = got.0;
      inside = chosen-inside p d n t s i o got.0 got.1;
      by = by.0;
      granted = by.1;
      out = granted-out p d n t s i o got.0 by.0 got.1 by.1;
      to = sym (with_channel-is by.0.to (front (s.queue got.0 by.0.channel)) x by.2);
      is_front = with_channel-flit by.0.to (front (s.queue got.0 by.0.channel)) x by.2;
    }

-- what is sent on a channel had a channel that takes it
pub sent-taken : (p : Plan) (d n : ℕ) (t : ℤ) (s : Tile) (i : TileIn) (o w : ℕ)
    → is_on (sent p d n t s i o) w ≡ true → takes p d n t s i o w ≡ true
sent-taken p d n t s i o w e = go (sent p d n t s i o) refl e
  where
    go : (x : Option LinkFlit) → sent p d n t s i o ≡ x → is_on x w ≡ true → takes p d n t s i o w ≡ true
    go None is e = absurd (cc e)
    go (Some x) is e =
        let by = sent-by p d n t s i o x is in
        let ready = grant-ready p d n t s i by.port by.by by.granted in
        let same : x.channel ≡ w = grind (arith, nat_tests, e) in
        cc (ready.taken, by.out, by.to, same)
