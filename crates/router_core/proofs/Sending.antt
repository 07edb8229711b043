-- One output more sends what the definition sends there.
use Rattle.std.proofs.Common.{◌≡◌, ◌≢◌, ℕ, zero, suc, ◌+◌, ◌-◌, ◌<◌, Bool, true, false, List, [], length, drop, get_or-set_same, get_or-set_other, length-set, refl, sym, ap, ◌∙◌, subst, arith, ⊎_elim, Option, Some, None, ℤ}
use Rattle.std.specs.Prelude.{◌&&◌, not, nat_lt, option_and_then, option_map, IfSome, pos, if◌then◌else◌}
use Rattle.std.proofs.lemmas.Bool.Decides.{nat_tests, eqb_tells}
use Rattle.noc_model.specs.declared.LinkFlit.{LinkFlit}
use Rattle.noc_model.specs.declared.Grant.{Grant}
use Rattle.noc_model.specs.declared.Stage.TheVariants.{Active}
use Rattle.noc_model.specs.Plan.{Plan, ports, link_channels, out_channels, at_local}
use Rattle.noc_model.specs.Inputs.{place}
use Rattle.noc_model.specs.Pick.{pick}
use Rattle.noc_model.specs.Tile.{Tile, TileIn}
use Rattle.noc_model.specs.Step.{front, is_channel, is_on, is_tail_on, one_if, asks_for, with_channel, grant, chosen, sent}
use Rattle.noc_model.specs.SoundState.{HasOutput}
use Rattle.noc_model.proofs.Inputs.{input-within}
use Rattle.noc_model.proofs.Switch.{IsReadyFor, grant-ready, chosen-inside}
use Rattle.noc_model.proofs.Switched.{output-below, chosen-granted}
use Rattle.noc_model.proofs.Holders.{granted-chosen, granted-sent}
use Rattle.credit_links.specs.Counts.{count_at}
use Rattle.vc_alloc.specs.Allocator.{Allocator, held_at}
use Rattle.slot_switch.specs.declared.Granted.{Granted}
use Rattle.slot_switch.specs.Switch.{Switch, ask_at, switch_at, chosen_in, granted_in, granted_to}
use Rattle.slot_switch.proofs.Defined.{chosen-is, granted-is, grant-granted}
use Rattle.router_core.specs.Heads.{front_of}
use Rattle.router_core.specs.Parts.{Parts}
use Rattle.router_core.specs.Sizes.{HasPorts, IsMade}
use Rattle.router_core.specs.Shown.{Shows}
use Rattle.router_core.specs.Sends.{ends, freed, pulsed}
use Rattle.router_core.specs.Crossing.{CanPass, sent_parts, sent_by, through, under, until, crossed_below, IsSending, CanSend, laid, laid_at, laid_on, SendsBelow}
use Rattle.router_core.proofs.Passed.{passed-made, passed-own, passed-others}
use Rattle.router_core.specs.Pulses.{ArePulses}
use Rattle.router_core.proofs.Frames.{pulses-set}
use Rattle.router_core.proofs.Takes.{takes-link}
use Rattle.router_core.proofs.Through.{through-same, through-next}
use Rattle.router_core.proofs.Turned.{turned_parts, turned-made, turned-own, turned-others, switch-ahead}

-- ---- outputs below o, and one more

until-here : {T : Type 0} (o : ℕ) (f : ℕ → Option T) → until (o + 1) f o ≡ f o
until-here o f = let e : nat_lt o (o + 1) ≡ true = grind (arith, nat_tests) in ap (λ b. if b then f o else None) e

until-none : {T : Type 0} (o : ℕ) (f : ℕ → Option T) → until o f o ≡ None
until-none o f = let e : nat_lt o o ≡ false = grind (arith, nat_tests) in ap (λ b. if b then f o else None) e

less-same : (q o : ℕ) → q ≢ o → nat_lt q (o + 1) ≡ nat_lt q o
less-same q o apart = go (nat_lt q o) refl
  where
    go : (b : Bool) → nat_lt q o ≡ b → nat_lt q (o + 1) ≡ nat_lt q o
    go true e = let a : nat_lt q (o + 1) ≡ true = grind (arith, nat_tests, e) in a ∙ sym e
    go false e = let a : nat_lt q (o + 1) ≡ false = grind (arith, nat_tests, e, apart) in a ∙ sym e

until-other : {T : Type 0} (o q : ℕ) (f : ℕ → Option T) → q ≢ o → until (o + 1) f q ≡ until o f q
until-other o q f apart = ap (λ b. if b then f q else None) (less-same q o apart)

until-same : {T : Type 0} (o q : ℕ) (f : ℕ → Option T) → f o ≡ None → until (o + 1) f q ≡ until o f q
until-same o q f none = ⊎_elim
    (λ z. ap (until (o + 1) f) z.1 ∙ until-here o f ∙ none ∙ sym (ap (until o f) z.1 ∙ until-none o f))
    (λ z. until-other o q f z.1)
    (eqb_tells q o)

under-other : (o : ℕ) (h : Option Grant) → ((g : Grant) → h ≡ Some g → g.out ≢ o) → under (o + 1) h ≡ under o h
under-other o None apart = refl
under-other o (Some g) apart = ap (λ b. if b then Some g else None) (less-same g.out o (apart g refl))

under-here : (o : ℕ) (g : Grant) → g.out ≡ o → under (o + 1) (Some g) ≡ Some g
under-here o g is = let e : nat_lt g.out (o + 1) ≡ true = grind (arith, nat_tests, is) in ap (λ b. if b then Some g else None) e

under-none : (o : ℕ) (g : Grant) → g.out ≡ o → under o (Some g) ≡ None
under-none o g is = let e : nat_lt g.out o ≡ false = grind (arith, nat_tests, is) in ap (λ b. if b then Some g else None) e

-- ---- what is granted

granted-port : (x : Switch) (d : ℕ) (c : Option ℕ) (y : Granted) → option_and_then (granted_to x d) c ≡ Some y → c ≡ Some y.port
granted-port x d None y e = absurd (cc e)
granted-port x d (Some port) y e = go (ask_at x d port) e
  where
    go : (a : Option Grant) → option_map (λ g. let w : Granted = record { port = port; grant = g } in w) a ≡ Some y → Some port ≡ Some y.port
    go None e = absurd (cc e)
    go (Some g) e = let is : (let w : Granted = record { port = port; grant = g } in w) ≡ y = cc e in ap (λ (w : Granted). Some w.port) is

-- what is granted of domain d by output o, in the definition too
pub record IsGranted (p : Plan) (d n o : ℕ) (t : ℤ) (s : Tile) (i : TileIn) (x : Granted) : Type 0 where
  pub granted : grant p d n t s i x.port ≡ Some x.grant
  pub chosen : chosen p d n t s i o ≡ Some x.port
  pub out : x.grant.out ≡ o

module _ (p : Plan) (d o : ℕ) (r : Parts) (s v : Tile) (t : ℕ) (i : TileIn) (sending : IsSending p d r s v t i) (o_in : o < ports p) where
  abbrev n : ℕ
  n = r.tile

  is-granted : (x : Granted) → granted_in r.switch d o ≡ Some x → IsGranted p d n o (pos t) s i x
  is-granted x e =
      let grants = granted-is r.switch p d n (pos t) s i sending.asks o x o_in e in
      let picks = sym (chosen-is r.switch p d n (pos t) s i sending.asks o o_in) ∙ granted-port r.switch d (chosen_in r.switch d o) x e in
      let found = chosen-granted p d n (pos t) s i o x.port picks in
      let same : found.0 ≡ x.grant = let both : Some found.0 ≡ Some x.grant = sym found.1 ∙ grants in cc both in
      record { granted = grants; chosen = picks; out = ap (λ (g : Grant). g.out) (sym same) ∙ found.2 }

  none-chosen : granted_in r.switch d o ≡ None → chosen p d n (pos t) s i o ≡ None
  none-chosen e = go (chosen p d n (pos t) s i o) refl
    where
      go : (c : Option ℕ) → chosen p d n (pos t) s i o ≡ c → chosen p d n (pos t) s i o ≡ None
      go None is = is
      go (Some port) is =
          let found = chosen-granted p d n (pos t) s i o port is in
          let port_in = chosen-inside p d n (pos t) s i o port is in
          let there : found.0.out < ports p = let a = found.2 in omega (arith, a, o_in) in
          let gives = grant-granted r.switch p d n (pos t) s i sending.asks port found.0 port_in there found.1 in
          absurd (let bad : None ≡ Some (let w : Granted = record { port = port; grant = found.0 } in w) = sym e ∙ ap (granted_in r.switch d) (sym found.2) ∙ gives in cc bad)

  -- no input port is granted the output
  none-granted : chosen p d n (pos t) s i o ≡ None → (q : ℕ) (g : Grant) → grant p d n (pos t) s i q ≡ Some g → g.out ≢ o
  none-granted none q g e = λ out. let bad : None ≡ Some q = sym none ∙ ap (chosen p d n (pos t) s i) (sym out) ∙ granted-chosen p d n (pos t) s i q g e in cc bad

  none-sent : chosen p d n (pos t) s i o ≡ None → sent p d n (pos t) s i o ≡ None
  unfolding sent
  none-sent none = ap (option_and_then (λ port. option_and_then (λ g. with_channel g.to (front (s.queue port g.channel))) (grant p d n (pos t) s i port))) none

  -- nor any other than the one that it chose
  one-granted : (x : Granted) → IsGranted p d n o (pos t) s i x → (q : ℕ) → q ≢ x.port → (g : Grant) → grant p d n (pos t) s i q ≡ Some g → g.out ≢ o
  one-granted x is q apart g e = λ out.
      let both : Some x.port ≡ Some q = sym is.chosen ∙ ap (chosen p d n (pos t) s i) (sym out) ∙ granted-chosen p d n (pos t) s i q g e in
      let at : x.port ≡ q = cc both in apart (sym at)

  module _ (x : Granted) (is : IsGranted p d n o (pos t) s i x) where
    ready : IsReadyFor p d n (pos t) s i x.port x.grant
    ready = grant-ready p d n (pos t) s i x.port x.grant is.granted

    port-in : x.port < ports p
    port-in = chosen-inside p d n (pos t) s i o x.port is.chosen

    channel-in : x.grant.channel < link_channels p d
    channel-in = input-within p d x.port x.grant.channel ready.in_range

    has-output : HasOutput p d n (Active x.grant.out x.grant.to)
    has-output = subst (HasOutput p d n) ready.active (sending.outs x.port x.grant.channel port-in channel-in)

    out-in : x.grant.out < ports p
    out-in = output-below p n x.grant.out has-output.0

    to-in : x.grant.to < link_channels p d
    to-in = out-within x.grant.out has-output.1
      where
        out-within : (q : ℕ) → x.grant.to < out_channels p d q → x.grant.to < link_channels p d
        out-within zero below = let a = channel-in in omega (arith, a, below)
        out-within (suc q) below = below

    first : front (v.queue x.port x.grant.channel) ≡ Some ready.flit
    first = ap front (sending.queue x.port x.grant.channel port-in channel-in) ∙ ready.is_front

    flit : sent p d n (pos t) s i o ≡ Some (record { channel = x.grant.to; flit = ready.flit })
    flit = ap (sent p d n (pos t) s i) (sym is.out) ∙ granted-sent p d n (pos t) s i x.port x.grant is.granted ∙ ap (with_channel x.grant.to) ready.is_front

    has-credit : x.grant.out ≢ 0 → 0 < v.credits x.grant.out x.grant.to
    has-credit linked =
        let both = sym (takes-link p d n (pos t) s i x.grant.out x.grant.to linked) ∙ ready.taken in
        let some = and-second _ (nat_lt 0 (s.credits x.grant.out x.grant.to)) both in
        let same = sending.credits x.grant.out x.grant.to in
        let positive : 0 < s.credits x.grant.out x.grant.to = grind (arith, nat_tests, some) in
        omega (arith, same, positive)
      where
        and-second : (a b : Bool) → (a && b) ≡ true → b ≡ true
        and-second true b e = e
        and-second false b e = absurd (cc e)

    is-held : v.held x.grant.out x.grant.to ≡ true
    is-held = sending.held x.grant.out x.grant.to x.port x.grant.channel (record { inside = port-in; below = ready.in_range; active = ready.active })

    -- ---- from a router on, where the outputs below o have sent

    abbrev G : ℕ → Option Grant
    G port = under o (grant p d n (pos t) s i port)

    abbrev X : ℕ → Option LinkFlit
    X = until o (sent p d n (pos t) s i)

    g-none : G x.port ≡ None
    g-none = ap (under o) is.granted ∙ under-none o x.grant is.out

    x-none : X x.grant.out ≡ None
    x-none = ap X is.out ∙ until-none o (sent p d n (pos t) s i)

    module _ (q : Parts) (shown : Shows q p d (crossed_below o p d n (pos t) s i v)) where
      front-now : front_of q.buffers d (place p d x.port x.grant.channel) ≡ Some ready.flit
      front-now = ap front (shown.queue x.port x.grant.channel port-in channel-in)
          ∙ ap (λ z. front (drop (one_if (is_channel z x.grant.channel)) (v.queue x.port x.grant.channel))) g-none ∙ first

      count-now : x.grant.out ≢ 0 → 0 < count_at q.credits d (place p d x.grant.out x.grant.to)
      count-now linked =
          let a = shown.credits x.grant.out x.grant.to linked out-in to-in ∙ ap (λ z. v.credits x.grant.out x.grant.to - one_if (is_on z x.grant.to)) x-none in
          let b = has-credit linked in
          omega (arith, a, b)

      held-now : held_at q.allocator d x.grant.out x.grant.to ≡ true
      held-now = shown.held x.grant.out x.grant.to out-in to-in ∙ ap (λ z. v.held x.grant.out x.grant.to && not (is_tail_on z x.grant.to)) x-none ∙ ap (λ b. b && true) is-held

      pub may-pass : CanPass p d q x
      may-pass = record { port = port-in; channel = channel-in; output = out-in; to = to-in; some = count-now; held = λ gone. held-now }

      pub sends-flit : sent_by q p d (Some x) ≡ sent p d n (pos t) s i o
      sends-flit = ap (with_channel x.grant.to) front-now ∙ sym flit

      pub one-shows : (made : IsMade q p) → d < length p.domains → Shows (sent_parts q p d o (Some x)) p d (crossed_below (o + 1) p d n (pos t) s i v)
      one-shows made there =
          let after = turned-own q p d o x made there o_in port-in (crossed_below o p d n (pos t) s i v) shown in
          let made-too = turned-made q p d o x made there o_in port-in in
          let past = passed-own (turned_parts q d o x) p d x.port x.grant made-too there port-in channel-in out-in to-in _ after in
          through-next v G (λ port. under (o + 1) (grant p d n (pos t) s i port)) X (until (o + 1) (sent p d n (pos t) s i)) (until o (chosen p d n (pos t) s i))
          (until (o + 1) (chosen p d n (pos t) s i)) o x.port x.grant ready.flit is.out first
          g-none (ap (under (o + 1)) is.granted ∙ under-here o x.grant is.out) (λ k apart. under-other o (grant p d n (pos t) s i k) (one-granted x is k apart))
          (until-none o (sent p d n (pos t) s i)) (until-here o (sent p d n (pos t) s i) ∙ flit) (λ k apart. until-other o k (sent p d n (pos t) s i) apart)
          (until-here o (chosen p d n (pos t) s i) ∙ is.chosen) (λ k apart. until-other o k (chosen p d n (pos t) s i) apart)
          (sent_parts q p d o (Some x)) p d past

  pub none-shows : (q : Parts) → chosen p d n (pos t) s i o ≡ None → Shows q p d (crossed_below o p d n (pos t) s i v) → Shows q p d (crossed_below (o + 1) p d n (pos t) s i v)
  none-shows q none shown =
      through-same q p d v (λ port. under o (grant p d n (pos t) s i port)) (λ port. under (o + 1) (grant p d n (pos t) s i port))
      (until o (sent p d n (pos t) s i)) (until (o + 1) (sent p d n (pos t) s i)) (until o (chosen p d n (pos t) s i)) (until (o + 1) (chosen p d n (pos t) s i))
      (λ k k_in. under-other o (grant p d n (pos t) s i k) (none-granted none k))
      (λ k k_in. until-same o k (sent p d n (pos t) s i) (none-sent none)) (λ k k_in. until-same o k (chosen p d n (pos t) s i) none) shown

-- ---- the links

laid-here : (ys : List (Option LinkFlit)) (o : ℕ) (f : Option LinkFlit) → o < length ys → laid_at (laid_on ys o f) o ≡ laid f (laid_at ys o)
laid-here ys o None inside = refl
laid-here ys o (Some f) inside = get_or-set_same ys o (Some f) None inside

laid-other : (ys : List (Option LinkFlit)) (o k : ℕ) (f : Option LinkFlit) → k ≢ o → laid_at (laid_on ys o f) k ≡ laid_at ys k
laid-other ys o k None apart = refl
laid-other ys o k (Some f) apart = get_or-set_other ys o k (Some f) None apart

laid-long : (ys : List (Option LinkFlit)) (o : ℕ) (f : Option LinkFlit) → length (laid_on ys o f) ≡ length ys
laid-long ys o None = refl
laid-long ys o (Some f) = length-set ys o (Some f)

-- one more
laid-more : (o k : ℕ) (xs ys : List (Option LinkFlit)) (sends : ℕ → Option LinkFlit) (f : Option LinkFlit) → o < length ys → f ≡ sends o
    → laid_at ys k ≡ laid (until o sends k) (laid_at xs k) → laid_at (laid_on ys o f) k ≡ laid (until (o + 1) sends k) (laid_at xs k)
laid-more o k xs ys sends f inside is before = ⊎_elim
    (λ z. ap (laid_at (laid_on ys o f)) z.1 ∙ laid-here ys o f inside ∙ ap (λ y. laid y (laid_at ys o)) is
    ∙ ap (laid (sends o)) (ap (laid_at ys) (sym z.1) ∙ before ∙ ap (λ j. laid (until o sends j) (laid_at xs k)) z.1 ∙ ap (λ y. laid y (laid_at xs k)) (until-none o sends))
    ∙ ap (λ y. laid y (laid_at xs k)) (sym (ap (until (o + 1) sends) z.1 ∙ until-here o sends)))
    (λ z. laid-other ys o k f z.1 ∙ before ∙ ap (λ y. laid y (laid_at xs k)) (sym (until-other o k sends z.1)))
    (eqb_tells k o)

-- ---- one output more

pulsed-kept : (p : Plan) (d : ℕ) (v : List (List (Option ℕ))) (port c : ℕ) → d < length p.domains → port < ports p → c < link_channels p d → HasPorts p v → ArePulses p v → ArePulses p (pulsed v d port c)
pulsed-kept p d v zero c there port_in c_in has are = are
pulsed-kept p d v (suc port) c there port_in c_in has are =
    pulses-set p v d (suc port) (Some c) there port_in has (λ k is. let same : c ≡ k = let both : Some c ≡ Some k = is in cc both in omega (arith, same, c_in)) are

best-freed : (x : Allocator) (d o w : ℕ) (b : Bool) → (freed x d o w b).best ≡ x.best
best-freed x d o w false = refl
best-freed x d o w true = refl

-- the same asks and the same pointer give the same grant
granted-same : (x y : Switch) (d o : ℕ) → y.ports ≡ x.ports → y.asks ≡ x.asks → switch_at y d o ≡ switch_at x d o → granted_in y d o ≡ granted_in x d o
granted-same x y d o same_ports same_asks same_pointer =
    let of : ℕ → List (List (Option Grant)) → ℕ → Option Granted = λ n asks pointer.
    let z : Switch = record { ports = n; asks = asks; turns = []; switches = [] } in
    option_and_then (granted_to z d) (pick n (λ port. asks_for (ask_at z d port) o) pointer) in
    ap (λ n. of n y.asks (switch_at y d o)) same_ports ∙ ap (λ asks. of x.ports asks (switch_at y d o)) same_asks ∙ ap (of x.ports x.asks) same_pointer

module _ (o : ℕ) (p : Plan) (d : ℕ) (r q : Parts) (xs ys : List (Option LinkFlit)) (before : SendsBelow o p d r q xs ys) (there : d < length p.domains) (o_in : o < ports p)
    (many : length xs ≡ ports p) (made : IsMade r p) (can : CanSend p d r) where
  same-grant : granted_in q.switch d o ≡ granted_in r.switch d o
  same-grant = granted-same r.switch q.switch d o (before.made.switch.port_count ∙ sym made.switch.port_count) before.asks (before.ahead o (omega arith))

  inside : o < length ys
  inside = let a = before.links in omega (arith, a, o_in, many)

  pub may-send : IfSome (granted_in q.switch d o) (λ x. CanPass p d q x)
  may-send = go (granted_in q.switch d o) refl
    where
      go : (x : Option Granted) → granted_in q.switch d o ≡ x → IfSome x (λ x. CanPass p d q x)
      go None e = tt
      go (Some x) e =
          let y = can.sending in
          may-pass p d o r can.tile can.placed can.cycle can.inputs y o_in x (is-granted p d o r can.tile can.placed can.cycle can.inputs y o_in x (sym same-grant ∙ e)) q
          (before.own can.tile can.placed can.cycle can.inputs y)

  pub more-none : granted_in q.switch d o ≡ None → SendsBelow (o + 1) p d r q xs ys
  more-none e = record {
    made = before.made;
    rest = before.rest;
    asks = before.asks;
    ahead = λ k past. before.ahead k (omega (arith, past));
    best = before.best;
    kept = before.kept;
    links = before.links;
    own = λ s v t i sending. none-shows p d o r s v t i sending o_in q (none-chosen p d o r s v t i sending o_in (sym same-grant ∙ e)) (before.own s v t i sending);
    others = before.others;
    sent = λ s v t i k sending k_in. laid-more o k xs ys (sent p d r.tile (pos t) s i) None inside
        (sym (none-sent p d o r s v t i sending o_in (none-chosen p d o r s v t i sending o_in (sym same-grant ∙ e)))) (before.sent s v t i k sending k_in);
  }

  more-some : (x : Granted) → granted_in q.switch d o ≡ Some x → SendsBelow (o + 1) p d r (sent_parts q p d o (Some x)) xs (laid_on ys o (sent_by q p d (Some x)))
  more-some x e =
      let y = can.sending in
      let is-can = is-granted p d o r can.tile can.placed can.cycle can.inputs y o_in x (sym same-grant ∙ e) in
      let pass = may-pass p d o r can.tile can.placed can.cycle can.inputs y o_in x is-can q (before.own can.tile can.placed can.cycle can.inputs y) in
      let made-too = turned-made q p d o x before.made there o_in pass.port in
      record {
        made = passed-made (turned_parts q d o x) p d x.port x.grant made-too there pass.port pass.channel pass.output pass.to;
        rest = let f : Parts → Parts = λ z. sent_parts z p d o (Some x) in
            λ i. let z : Parts = before.rest i in record z {
              buffers = (sent_parts q p d o (Some x)).buffers;
              stages = (sent_parts q p d o (Some x)).stages;
              pulses = (sent_parts q p d o (Some x)).pulses;
              allocator = (sent_parts q p d o (Some x)).allocator;
              switch = (sent_parts q p d o (Some x)).switch;
              credits = (sent_parts q p d o (Some x)).credits;
            };
        asks = before.asks;
        ahead = λ k past. switch-ahead q d o k x (let a = before.made.switch.switches.domains in omega (arith, a, there)) (omega (arith, past)) ∙ before.ahead k (omega (arith, past));
        best = best-freed q.allocator d x.grant.out x.grant.to (ends (turned_parts q d o x) p d x.port x.grant) ∙ before.best;
        kept = λ are. pulsed-kept p d q.pulses x.port x.grant.channel there pass.port pass.channel before.made.pulses (before.kept are);
        links = laid-long ys o (sent_by q p d (Some x)) ∙ before.links;
        own = λ s v t i sending. one-shows p d o r s v t i sending o_in x (is-granted p d o r s v t i sending o_in x (sym same-grant ∙ e)) q (before.own s v t i sending) before.made there;
        others = λ e s apart shown. passed-others (turned_parts q d o x) p d x.port e x.grant s apart (turned-others q p d o e x s apart (before.others e s apart shown));
        sent = λ s v t i k sending k_in. laid-more o k xs ys (sent p d r.tile (pos t) s i) (sent_by q p d (Some x)) inside
            (sends-flit p d o r s v t i sending o_in x (is-granted p d o r s v t i sending o_in x (sym same-grant ∙ e)) q (before.own s v t i sending)) (before.sent s v t i k sending k_in);
      }

  pub sends-more : SendsBelow (o + 1) p d r (sent_parts q p d o (granted_in q.switch d o)) xs (laid_on ys o (sent_by q p d (granted_in q.switch d o)))
  sends-more = go (granted_in q.switch d o) refl
    where
      go : (x : Option Granted) → granted_in q.switch d o ≡ x → SendsBelow (o + 1) p d r (sent_parts q p d o x) xs (laid_on ys o (sent_by q p d x))
      go None e = more-none e
      go (Some x) e = more-some x e

pub sends-none : (p : Plan) (d : ℕ) (r : Parts) (xs : List (Option LinkFlit)) → IsMade r p → SendsBelow 0 p d r r xs xs
sends-none p d r xs made = record {
  made = made;
  rest = refl;
  asks = refl;
  ahead = λ k past. refl;
  best = refl;
  kept = λ are. are;
  links = refl;
  own = λ s v t i sending. start p d r s v t i sending;
  others = λ e s apart shown. shown;
  sent = λ s v t i k sending k_in. ap (λ y. laid y (laid_at xs k)) (sym (nothing k (sent p d r.tile (pos t) s i)));
}
  where
    less-none : (k : ℕ) → nat_lt k 0 ≡ false
    less-none k = grind (arith, nat_tests)

    nothing : {T : Type 0} (k : ℕ) (f : ℕ → Option T) → until 0 f k ≡ None
    nothing k f = ap (λ b. if b then f k else None) (less-none k)

    nothing-under : (h : Option Grant) → under 0 h ≡ None
    nothing-under None = refl
    nothing-under (Some g) = ap (λ b. if b then Some g else None) (less-none g.out)

    still : (r : Parts) (p : Plan) (d : ℕ) (v : Tile) → ((port c : ℕ) → v.pulse port c ≡ false) → Shows r p d v → Shows r p d (through v (λ k. None) (λ k. None) (λ k. None))
    still r p d v quiet shown = record {
      queue = shown.queue;
      stage = shown.stage;
      pulse = λ port c port_in c_in. shown.pulse port c port_in c_in ∙ quiet port c ∙ sym (local-false port);
      held = λ o w o_in w_in. shown.held o w o_in w_in ∙ sym (and-true (v.held o w));
      credits = λ o w linked o_in w_in. shown.credits o w linked o_in w_in ∙ (let e : v.credits o w ≡ v.credits o w - 0 = omega arith in e);
      allocation = shown.allocation;
      switch = shown.switch;
      turn = shown.turn;
      packet = shown.packet;
      current = shown.current;
      dropped = shown.dropped;
      ejected = shown.ejected;
    }
      where
        and-true : (a : Bool) → (a && true) ≡ a
        and-true true = refl
        and-true false = refl

        local-false : (port : ℕ) → at_local port false false ≡ false
        local-false zero = refl
        local-false (suc port) = refl

    start : (p : Plan) (d : ℕ) (r : Parts) (s v : Tile) (t : ℕ) (i : TileIn) → IsSending p d r s v t i → Shows r p d (crossed_below 0 p d r.tile (pos t) s i v)
    start p d r s v t i sending =
        through-same r p d v (λ k. None) (λ port. under 0 (grant p d r.tile (pos t) s i port)) (λ k. None) (until 0 (sent p d r.tile (pos t) s i)) (λ k. None) (until 0 (chosen p d r.tile (pos t) s i))
        (λ k k_in. nothing-under (grant p d r.tile (pos t) s i k)) (λ k k_in. nothing k (sent p d r.tile (pos t) s i)) (λ k k_in. nothing k (chosen p d r.tile (pos t) s i))
        (still r p d v sending.quiet sending.shows)
