-- What goes by an output is the front of the place that is active on it and leaves.
use Rattle.std.proofs.Common.{◌≡◌, ℕ, ◌+◌, ◌-◌, ◌*◌, ◌/◌, ◌%◌, ◌<◌, ◌≤◌, ◌^◌, Bool, true, false, Option, refl, sym, ◌∙◌, ap, arith, subst, ◌==◌, ◌&&◌, ℤ}
use Rattle.std.specs.Prelude.{Some, None, if◌then◌else◌, option_and_then}
use Rattle.std.proofs.Math.Nat.{mod-eq_of_lt, mul-add-mod_self_right}
use Rattle.std.proofs.lemmas.Nat.{div-mul-add, mul-le}
use Rattle.std.proofs.lemmas.Bool.Decides.{nat_tests}
use Rattle.vl_model.specs.Meaning.{one_if}
use Rattle.noc_model.specs.declared.Flit.{Flit}
use Rattle.noc_model.specs.declared.LinkFlit.{LinkFlit}
use Rattle.noc_model.specs.declared.Grant.{Grant}
use Rattle.noc_model.specs.declared.Stage.{Stage}
use Rattle.noc_model.specs.declared.Stage.TheVariants.{Idle, Routed, Active}
use Rattle.noc_model.specs.Plan.{Plan, link_channels, ports, in_channels}
use Rattle.noc_model.specs.Tile.{Tile, TileIn}
use Rattle.noc_model.specs.Step.{asked, asks_for, chosen, granted_to, grant, is_channel, leaves, front, with_channel, sent, is_on, is_tail_on, is_tail}
use Rattle.noc_model.proofs.Least.{pick-member}
use Rattle.noc_model.proofs.Switch.{then-is, grant-ready, sent-by, leaves-front, asks_for-out}
use Rattle.gen_kit.specs.Masks.{mask}
use Rattle.leaf_tie.specs.Places.{stage_at, queue_at, is_active, leaves_at, ends_at}
use Rattle.gen_kit.proofs.Sets.{mask-none, mask-some}

-- the grant by which a flit leaves
pub record Left (p : Plan) (d n : ℕ) (t : ℤ) (s : Tile) (i : TileIn) (port c : ℕ) : Type 0 where
  pub by : Grant
  pub granted : grant p d n t s i port ≡ Some by
  pub channel : by.channel ≡ c
  pub by_output : chosen p d n t s i by.out ≡ Some port
  pub active : s.stage port c ≡ Active by.out by.to

grants-port : (o : Option ℕ) (port : ℕ) (g h : Grant) → granted_to o port g ≡ Some h → (o ≡ Some port) × (g ≡ h)
grants-port None port g h e = absurd (cc e)
grants-port (Some k) port g h e = go (k == port) refl e
  where
    go : (b : Bool) → (k == port) ≡ b → (if b then Some g else None) ≡ Some h → (Some k ≡ Some port) × (g ≡ h)
    go true is e = (ap Some (let same : k ≡ port = grind (arith, nat_tests, is) in same), cc e)
    go false is e = absurd (cc e)

pub left : (p : Plan) (d n : ℕ) (t : ℤ) (s : Tile) (i : TileIn) (port c : ℕ) → leaves p d n t s i port c ≡ true → Left p d n t s i port c
unfolding leaves grant
left p d n t s i port c e = go (grant p d n t s i port) refl e
  where
    go : (o : Option Grant) → grant p d n t s i port ≡ o → is_channel o c ≡ true → Left p d n t s i port c
    go None is e = absurd (cc e)
    go (Some g) is e =
        let same : g.channel ≡ c = grind (arith, nat_tests, e) in
        let got = then-is (λ h. granted_to (chosen p d n t s i h.out) port h) (asked p d n t s i port) g is in
        let both = grants-port (chosen p d n t s i got.0.out) port got.0 g got.2 in
        record {
          by = g;
          granted = is;
          channel = same;
          by_output = ap (λ (h : Grant). chosen p d n t s i h.out) (sym both.1) ∙ both.0;
          active = ap (s.stage port) (sym same) ∙ (grant-ready p d n t s i port g is).active;
        }

-- what leaves a place that is active on the output is what is sent
pub sent-is : (p : Plan) (d n : ℕ) (t : ℤ) (s : Tile) (i : TileIn) (o w port c : ℕ) → leaves p d n t s i port c ≡ true → s.stage port c ≡ Active o w
    → (sent p d n t s i o ≡ with_channel w (front (s.queue port c))) × (port < ports p) × (c < in_channels p d port)
unfolding sent chosen
sent-is p d n t s i o w port c e st =
    let by = left p d n t s i port c e in
    let ends : Active by.by.out by.by.to ≡ Active o w = sym by.active ∙ st in
    let out : by.by.out ≡ o = cc ends in
    let to : by.by.to ≡ w = cc ends in
    let chose : chosen p d n t s i o ≡ Some port = ap (chosen p d n t s i) (sym out) ∙ by.by_output in (
      ap (λ x. option_and_then (λ m. option_and_then (λ (g : Grant). with_channel g.to (front (s.queue m g.channel))) (grant p d n t s i m)) x) chose
          ∙ ap (λ x. option_and_then (λ (g : Grant). with_channel g.to (front (s.queue port g.channel))) x) by.granted
          ∙ ap (λ k. with_channel k (front (s.queue port by.by.channel))) to ∙ ap (λ k. with_channel w (front (s.queue port k))) by.channel,
      (pick-member (ports p) (λ m. asks_for (asked p d n t s i m) o) (s.switch o) port chose).0,
      subst (λ k. k < in_channels p d port) by.channel (grant-ready p d n t s i port by.by by.granted).in_range,
    )

-- what is sent leaves such a place
pub record SentFrom (p : Plan) (d n : ℕ) (t : ℤ) (s : Tile) (i : TileIn) (o : ℕ) (x : LinkFlit) : Type 0 where
  pub port : ℕ
  pub c : ℕ
  pub gone : leaves p d n t s i port c ≡ true
  pub active : s.stage port c ≡ Active o x.channel
  pub flit : front (s.queue port c) ≡ Some x.flit

pub sent-from : (p : Plan) (d n : ℕ) (t : ℤ) (s : Tile) (i : TileIn) (o : ℕ) (x : LinkFlit) → sent p d n t s i o ≡ Some x → SentFrom p d n t s i o x
unfolding leaves
sent-from p d n t s i o x e =
    let by = sent-by p d n t s i o x e in
    let self : (by.by.channel == by.by.channel) ≡ true = grind (arith, nat_tests) in
    record {
      port = by.port;
      c = by.by.channel;
      gone = ap (λ g. is_channel g by.by.channel) by.granted ∙ self;
      active = (grant-ready p d n t s i by.port by.by by.granted).active ∙ ap (λ k. Active k by.by.to) by.out ∙ ap (Active o) by.to;
      flit = by.is_front;
    }

-- a vector that isn't 0, as a bit
nonzero-is : (n : ℕ) (set : ℕ → Bool) (b : Bool) → (b ≡ true → (k : ℕ) × (k < n) × (set k ≡ true)) → ((k : ℕ) → k < n → set k ≡ true → b ≡ true) → 2 ^ 1 - 1 - one_if (mask n set == 0) ≡ one_if b
nonzero-is n set true some all =
    let k = some refl in
    let above : 0 < mask n set = mask-some n k.0 set k.1 k.2 in
    let differ : (mask n set == 0) ≡ false = grind (arith, nat_tests) in
    rw differ refl
nonzero-is n set false some all =
    let none : mask n set ≡ 0 = mask-none n set (λ k below. off (set k) (λ e. all k below e)) in
    rw none refl
  where
    off : (b : Bool) → (b ≡ true → false ≡ true) → b ≡ false
    off true never = absurd (cc (never refl))
    off false never = refl

and-true : (a b : Bool) → (a && b) ≡ true → (a ≡ true) × (b ≡ true)
and-true true b e = (refl, e)
and-true false b e = absurd (cc e)

is-active : (st : Stage) (o w : ℕ) → is_active st o w ≡ true → st ≡ Active o w
is-active Idle o w e = absurd (cc e)
is-active (Routed to) o w e = absurd (cc e)
is-active (Active to v) o w e =
    let both = and-true (to == o) (v == w) e in
    let same_o : to ≡ o = grind (arith, nat_tests, both.0) in
    let same_w : v ≡ w = grind (arith, nat_tests, both.1) in
    ap (λ k. Active k v) same_o ∙ ap (Active o) same_w

-- a flit goes by the output on the channel where a place that is active on it leaves
pub on-shown : (p : Plan) (d n o w : ℕ) (t : ℤ) (s : Tile) (i : TileIn) → ((port : ℕ) → in_channels p d port ≤ link_channels p d)
    → 2 ^ 1 - 1 - one_if (mask (ports p * link_channels p d) (λ place. is_active (stage_at p d s place) o w && leaves_at p d n t s i place) == 0) ≡ one_if (is_on (sent p d n t s i o) w)
on-shown p d n o w t s i few = nonzero-is (ports p * link_channels p d) (λ place. is_active (stage_at p d s place) o w && leaves_at p d n t s i place) (is_on (sent p d n t s i o) w) (λ e. some (sent p d n t s i o) refl e) all
  where
    self : (k : ℕ) → (k == k) ≡ true
    self k = grind (arith, nat_tests)

    inside : (port c : ℕ) → port < ports p → c < link_channels p d → port * link_channels p d + c < ports p * link_channels p d
    inside port c hp hc =
        let more : (port + 1) * link_channels p d ≤ ports p * link_channels p d = mul-le (port + 1) (link_channels p d) (ports p) (link_channels p d) (omega arith) (omega arith) in
        let parts : (port + 1) * link_channels p d ≡ port * link_channels p d + link_channels p d = grind arith in
        omega arith

    some : (x : Option LinkFlit) → sent p d n t s i o ≡ x → is_on x w ≡ true → (k : ℕ) × (k < ports p * link_channels p d) × ((is_active (stage_at p d s k) o w && leaves_at p d n t s i k) ≡ true)
    some None is e = absurd (cc e)
    some (Some x) is e =
        let from = sent-from p d n t s i o x is in
        let same : x.channel ≡ w = grind (arith, nat_tests, e) in
        let range = sent-is p d n t s i o x.channel from.port from.c from.gone from.active in
        let below : from.c < link_channels p d = omega (arith, range.2, few from.port) in
        let row : (from.port * link_channels p d + from.c) / link_channels p d ≡ from.port = div-mul-add from.port (link_channels p d) from.c below in
        let channel : (from.port * link_channels p d + from.c) % link_channels p d ≡ from.c = mul-add-mod_self_right from.port (link_channels p d) from.c ∙ mod-eq_of_lt below in
        let active : is_active (s.stage from.port from.c) o w ≡ true = ap (λ st. is_active st o w) from.active ∙ rw (self o, same, self w) refl in (
          from.port * link_channels p d + from.c,
          inside from.port from.c range.1 below,
          ap (λ q. is_active (s.stage q ((from.port * link_channels p d + from.c) % link_channels p d)) o w && leaves p d n t s i q ((from.port * link_channels p d + from.c) % link_channels p d)) row
              ∙ ap (λ q. is_active (s.stage from.port q) o w && leaves p d n t s i from.port q) channel
              ∙ ap (λ b. b && leaves p d n t s i from.port from.c) active ∙ from.gone,
        )

    all : (k : ℕ) → k < ports p * link_channels p d → (is_active (stage_at p d s k) o w && leaves_at p d n t s i k) ≡ true → is_on (sent p d n t s i o) w ≡ true
    all k below e =
        let both = and-true (is_active (stage_at p d s k) o w) (leaves_at p d n t s i k) e in
        let st = is-active (stage_at p d s k) o w both.0 in
        let is = (sent-is p d n t s i o w (k / link_channels p d) (k % link_channels p d) both.1 st).0 in
        ap (λ x. is_on x w) is ∙ there (leaves-front p d n t s i (k / link_channels p d) (k % link_channels p d) both.1)
      where
        there : (f : Flit) × (front (s.queue (k / link_channels p d) (k % link_channels p d)) ≡ Some f) → is_on (with_channel w (front (s.queue (k / link_channels p d) (k % link_channels p d)))) w ≡ true
        there f = rw f.1 (self w)

-- the last flit of a packet goes by the output on the channel where it leaves such a place
pub freed-shown : (p : Plan) (d n o w : ℕ) (t : ℤ) (s : Tile) (i : TileIn) → ((port : ℕ) → in_channels p d port ≤ link_channels p d)
    → 2 ^ 1 - 1 - one_if (mask (ports p * link_channels p d) (λ place. is_active (stage_at p d s place) o w && ends_at p d n t s i place) == 0) ≡ one_if (is_tail_on (sent p d n t s i o) w)
freed-shown p d n o w t s i few = nonzero-is (ports p * link_channels p d) (λ place. is_active (stage_at p d s place) o w && ends_at p d n t s i place) (is_tail_on (sent p d n t s i o) w) (λ e. some (sent p d n t s i o) refl e) all
  where
    self : (k : ℕ) → (k == k) ≡ true
    self k = grind (arith, nat_tests)

    inside : (port c : ℕ) → port < ports p → c < link_channels p d → port * link_channels p d + c < ports p * link_channels p d
    inside port c hp hc =
        let more : (port + 1) * link_channels p d ≤ ports p * link_channels p d = mul-le (port + 1) (link_channels p d) (ports p) (link_channels p d) (omega arith) (omega arith) in
        let parts : (port + 1) * link_channels p d ≡ port * link_channels p d + link_channels p d = grind arith in
        omega arith

    some : (x : Option LinkFlit) → sent p d n t s i o ≡ x → is_tail_on x w ≡ true → (k : ℕ) × (k < ports p * link_channels p d) × ((is_active (stage_at p d s k) o w && ends_at p d n t s i k) ≡ true)
    some None is e = absurd (cc e)
    some (Some x) is e =
        let both = and-true x.flit.tail (x.channel == w) e in
        let from = sent-from p d n t s i o x is in
        let same : x.channel ≡ w = grind (arith, nat_tests, both.1) in
        let range = sent-is p d n t s i o x.channel from.port from.c from.gone from.active in
        let below : from.c < link_channels p d = omega (arith, range.2, few from.port) in
        let row : (from.port * link_channels p d + from.c) / link_channels p d ≡ from.port = div-mul-add from.port (link_channels p d) from.c below in
        let channel : (from.port * link_channels p d + from.c) % link_channels p d ≡ from.c = mul-add-mod_self_right from.port (link_channels p d) from.c ∙ mod-eq_of_lt below in
        let active : is_active (s.stage from.port from.c) o w ≡ true = ap (λ st. is_active st o w) from.active ∙ rw (self o, same, self w) refl in
        let tail : is_tail (front (s.queue from.port from.c)) ≡ true = ap is_tail from.flit ∙ both.0 in (
          from.port * link_channels p d + from.c,
          inside from.port from.c range.1 below,
          ap (λ q. is_active (s.stage q ((from.port * link_channels p d + from.c) % link_channels p d)) o w && (leaves p d n t s i q ((from.port * link_channels p d + from.c) % link_channels p d) && is_tail (front (s.queue q ((from.port * link_channels p d + from.c) % link_channels p d))))) row
              ∙ ap (λ q. is_active (s.stage from.port q) o w && (leaves p d n t s i from.port q && is_tail (front (s.queue from.port q)))) channel
              ∙ ap (λ b. b && (leaves p d n t s i from.port from.c && is_tail (front (s.queue from.port from.c)))) active
              ∙ ap (λ b. b && is_tail (front (s.queue from.port from.c))) from.gone ∙ tail,
        )

    all : (k : ℕ) → k < ports p * link_channels p d → (is_active (stage_at p d s k) o w && ends_at p d n t s i k) ≡ true → is_tail_on (sent p d n t s i o) w ≡ true
    all k below e =
        let both = and-true (is_active (stage_at p d s k) o w) (ends_at p d n t s i k) e in
        let gone = and-true (leaves_at p d n t s i k) (is_tail (front (queue_at p d s k))) both.1 in
        let st = is-active (stage_at p d s k) o w both.0 in
        let is = (sent-is p d n t s i o w (k / link_channels p d) (k % link_channels p d) gone.0 st).0 in
        ap (λ x. is_tail_on x w) is ∙ there (front (queue_at p d s k)) gone.1
      where
        there : (f : Option Flit) → is_tail f ≡ true → is_tail_on (with_channel w f) w ≡ true
        there None e = absurd (cc e)
        there (Some f) e = rw (e, self w) refl

-- what an output sends from the port that it chose
pub record SendsFrom (p : Plan) (d n : ℕ) (t : ℤ) (s : Tile) (i : TileIn) (o port : ℕ) : Type 0 where
  pub c : ℕ
  pub to : ℕ
  pub flit : Flit
  pub gone : leaves p d n t s i port c ≡ true
  pub active : s.stage port c ≡ Active o to
  pub is_front : front (s.queue port c) ≡ Some flit
  pub sends : sent p d n t s i o ≡ Some (record { channel = to; flit = flit })

chosen-asks : (p : Plan) (d n : ℕ) (t : ℤ) (s : Tile) (i : TileIn) (o port : ℕ) → chosen p d n t s i o ≡ Some port → asks_for (asked p d n t s i port) o ≡ true
unfolding chosen
chosen-asks p d n t s i o port e = (pick-member (ports p) (λ m. asks_for (asked p d n t s i m) o) (s.switch o) port e).1

chosen-granted : (p : Plan) (d n : ℕ) (t : ℤ) (s : Tile) (i : TileIn) (o port : ℕ) (g : Grant) → asked p d n t s i port ≡ Some g → g.out ≡ o → chosen p d n t s i o ≡ Some port → grant p d n t s i port ≡ Some g
unfolding grant
chosen-granted p d n t s i o port g asks out e =
    let self : (port == port) ≡ true = grind (arith, nat_tests) in
    ap (λ x. option_and_then (λ (h : Grant). granted_to (chosen p d n t s i h.out) port h) x) asks
    ∙ ap (λ k. granted_to (chosen p d n t s i k) port g) out ∙ ap (λ x. granted_to x port g) e
    ∙ ap (λ b. if b then Some g else None) self

by-grant : (p : Plan) (d n : ℕ) (t : ℤ) (s : Tile) (i : TileIn) (port : ℕ) (g : Grant) → grant p d n t s i port ≡ Some g → leaves p d n t s i port g.channel ≡ true
unfolding leaves
by-grant p d n t s i port g e =
    let self : (g.channel == g.channel) ≡ true = grind (arith, nat_tests) in
    ap (λ x. is_channel x g.channel) e ∙ self

pub chosen-sends : (p : Plan) (d n : ℕ) (t : ℤ) (s : Tile) (i : TileIn) (o port : ℕ) → chosen p d n t s i o ≡ Some port → SendsFrom p d n t s i o port
chosen-sends p d n t s i o port e =
    let asks = asks_for-out (asked p d n t s i port) o (chosen-asks p d n t s i o port e) in
    let g : Grant = asks.0 in
    let granted = chosen-granted p d n t s i o port g asks.1 asks.2 e in
    let gone = by-grant p d n t s i port g granted in
    let ready = grant-ready p d n t s i port g granted in
    let active : s.stage port g.channel ≡ Active o g.to = ready.active ∙ ap (λ k. Active k g.to) asks.2 in
    record {
      c = g.channel;
      to = g.to;
      flit = ready.flit;
      gone = gone;
      active = active;
      is_front = ready.is_front;
      sends = (sent-is p d n t s i o g.to port g.channel gone active).0 ∙ ap (with_channel g.to) ready.is_front;
    }

pub none-sent : (p : Plan) (d n : ℕ) (t : ℤ) (s : Tile) (i : TileIn) (o : ℕ) → chosen p d n t s i o ≡ None → sent p d n t s i o ≡ None
unfolding sent
none-sent p d n t s i o e = ap (λ x. option_and_then (λ m. option_and_then (λ (g : Grant). with_channel g.to (front (s.queue m g.channel))) (grant p d n t s i m)) x) e
