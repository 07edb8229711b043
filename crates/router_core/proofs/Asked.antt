-- The input ports ask for what the definition's input ports ask for.
use Rattle.std.proofs.Common.{◌≡◌, ◌≢◌, ℕ, ◌+◌, ◌<◌, ◌≤◌, Bool, true, false, List, length, get_or, refl, sym, ap, ◌∙◌, arith, ⊎_elim, Option, Some, None, ℤ}
use Rattle.std.specs.Prelude.{◌&&◌, ◌||◌, nat_lt, option_and_then, pos, if◌then◌else◌}
use Rattle.std.proofs.lemmas.Bool.Decides.{nat_tests, eqb_tells}
use Rattle.noc_model.specs.declared.Flit.{Flit}
use Rattle.noc_model.specs.declared.Grant.{Grant}
use Rattle.noc_model.specs.declared.Stage.{Stage}
use Rattle.noc_model.specs.declared.Stage.TheVariants.{Idle, Routed, Active}
use Rattle.noc_model.specs.Plan.{Plan, ports, in_channels}
use Rattle.noc_model.specs.Inputs.{place, input_count, input_port, input_channel}
use Rattle.noc_model.specs.Tile.{Tile, TileIn}
use Rattle.noc_model.specs.Step.{is_ready, is_ready_at, grant_at, asked}
use Rattle.noc_model.proofs.Least.{pick-same}
use Rattle.noc_model.proofs.Inputs.{port-place, channel-place, place-input, place-below, port-below, input-within}
use Rattle.vc_partition.specs.Lanes.{lane}
use Rattle.vc_partition.specs.Picks.{with_member}
use Rattle.vc_partition.proofs.Cuts.{lane-written, lane-other, lanes-other}
use Rattle.slot_switch.specs.Switch.{Switch, ask_at, turn_at, better_ask}
use Rattle.slot_switch.specs.Asked.{IsGrantOf}
use Rattle.slot_switch.proofs.Defined.{first-none, one-more}
use Rattle.wave_sched.specs.Wheels.{Stands}
use Rattle.router_core.specs.Attachments.{told_at, outside}
use Rattle.router_core.specs.Parts.{Parts}
use Rattle.router_core.specs.Sizes.{HasSwitch, IsMade}
use Rattle.router_core.specs.Shown.{Shows}
use Rattle.router_core.specs.Asks.{requested, asking, asked_below, AsksBelow}
use Rattle.router_core.proofs.Frames.{has-ports}

and-false : (a b : Bool) → b ≡ false → (a && b) ≡ false
and-false true b e = e
and-false false b e = refl

and-both : (a b : Bool) → (a && b) ≡ true → (a ≡ true) × (b ≡ true)
and-both true b e = (refl, e)
and-both false b e = absurd (cc e)

or-true : (a : Bool) → (a || true) ≡ true
or-true true = refl
or-true false = refl

or-false : (a : Bool) → (a || false) ≡ a
or-false true = refl
or-false false = refl

-- a channel that may send has something to ask for
ready-grant : (p : Plan) (d n : ℕ) (t : ℤ) (s : Tile) (i : TileIn) (c : ℕ) (fs : List Flit) (st : Stage) → is_ready_at p d n t s i fs st ≡ true → IsGrantOf c (grant_at c st)
ready-grant p d n t s i c fs Idle e = absurd (cc e)
ready-grant p d n t s i c fs (Routed o) e = absurd (cc e)
ready-grant p d n t s i c fs (Active o w) e = refl

some-grant : (c : ℕ) (o : Option Grant) → IsGrantOf c o → (g : Grant) × (o ≡ Some g)
some-grant c None h = absurd h
some-grant c (Some g) h = (g, refl)

-- ---- one port

module _ (p : Plan) (d n : ℕ) (t : ℤ) (s : Tile) (i : TileIn) where
  abbrev grants : ℕ → ℕ → Option Grant
  grants port c = grant_at c (s.stage port c)

  abbrev known : ℕ → ℕ → ℕ → Bool
  known k port c = nat_lt (place p d port c) k && is_ready p d n t s i port c

  below-none : (port : ℕ) → None ≡ asked_below 0 p d n t s i port
  below-none port = sym (ap (option_and_then (grants port))
      (pick-same (in_channels p d port) (known 0 port) (λ c. false) (s.turn port) (s.turn port)
      (λ c less. let e : nat_lt (place p d port c) 0 ≡ false = grind (arith, nat_tests) in ap (λ b. b && is_ready p d n t s i port c) e) refl)
      ∙ first-none (in_channels p d port) (s.turn port) (grants port))

  below-all : (k port : ℕ) → input_count p d ≤ k → port < ports p → asked_below k p d n t s i port ≡ asked p d n t s i port
  unfolding asked
  below-all k port past inside = ap (option_and_then (grants port))
      (pick-same (in_channels p d port) (known k port) (is_ready p d n t s i port) (s.turn port) (s.turn port)
      (λ c less. let in_lanes = input-within p d port c less in
      let a = place-below p d port c inside in_lanes in
      let b : place p d port c < k = omega (arith, a, past) in
      let e : nat_lt (place p d port c) k ≡ true = grind (arith, nat_tests) in ap (λ b. b && is_ready p d n t s i port c) e) refl)

  -- an input of another place: the set stays there
  same-there : (k port c : ℕ) → place p d port c ≢ k → known k port c ≡ known (k + 1) port c
  same-there k port c apart = let e : nat_lt (place p d port c) k ≡ nat_lt (place p d port c) (k + 1) = grind (arith, nat_tests) in ap (λ b. b && is_ready p d n t s i port c) e

  below-same : (k port : ℕ) → ((c : ℕ) → c < in_channels p d port → known k port c ≡ known (k + 1) port c) → asked_below k p d n t s i port ≡ asked_below (k + 1) p d n t s i port
  below-same k port same = ap (option_and_then (grants port)) (pick-same (in_channels p d port) (known k port) (known (k + 1) port) (s.turn port) (s.turn port) same refl)

  -- another port
  below-other : (k port : ℕ) → port ≢ input_port p d k → asked_below k p d n t s i port ≡ asked_below (k + 1) p d n t s i port
  below-other k port apart = below-same k port (λ c less. same-there k port c (λ e. apart (sym (port-place p d port c (input-within p d port c less)) ∙ ap (input_port p d) e)))

  module _ (k : ℕ) where
    abbrev its_port : ℕ
    its_port = input_port p d k

    abbrev its_channel : ℕ
    its_channel = input_channel p d k

    abbrev test : Bool
    test = nat_lt its_channel (in_channels p d its_port) && is_ready p d n t s i its_port its_channel

    other-channel : (c : ℕ) → c < in_channels p d its_port → c ≢ its_channel → place p d its_port c ≢ k
    other-channel c less apart = λ e. apart (sym (channel-place p d its_port c (input-within p d its_port c less)) ∙ ap (input_channel p d) e)

    -- the input may not send
    below-silent : test ≡ false → asked_below k p d n t s i its_port ≡ asked_below (k + 1) p d n t s i its_port
    below-silent silent = below-same k its_port (λ c less. ⊎_elim
        (λ z. let there : nat_lt its_channel (in_channels p d its_port) ≡ true = let a = z.1 in grind (arith, nat_tests) in
        let none : is_ready p d n t s i its_port its_channel ≡ false = sym (ap (λ b. b && is_ready p d n t s i its_port its_channel) there) ∙ silent in
        let here = ap (is_ready p d n t s i its_port) z.1 ∙ none in
        and-false (nat_lt (place p d its_port c) k) (is_ready p d n t s i its_port c) here ∙ sym (and-false (nat_lt (place p d its_port c) (k + 1)) (is_ready p d n t s i its_port c) here))
        (λ z. same-there k its_port c (other-channel c less z.1))
        (eqb_tells c its_channel))

    -- it may
    below-more : (g : Grant) → test ≡ true → grants its_port its_channel ≡ Some g
        → Some (better_ask (s.turn its_port) (asked_below k p d n t s i its_port) g) ≡ asked_below (k + 1) p d n t s i its_port
    below-more g sends is =
        let both = and-both (nat_lt its_channel (in_channels p d its_port)) (is_ready p d n t s i its_port its_channel) sends in
        let inside : its_channel < in_channels p d its_port = let a = both.0 in grind (arith, nat_tests) in
        one-more (in_channels p d its_port) (s.turn its_port) its_channel (known k its_port) (grants its_port) g inside
        (λ j less e. ready-grant p d n t s i j (s.queue its_port j) (s.stage its_port j) (and-both (nat_lt (place p d its_port j) k) (is_ready p d n t s i its_port j) e).1)
        is (ready-grant p d n t s i its_channel (s.queue its_port its_channel) (s.stage its_port its_channel) both.1)
        ∙ ap (option_and_then (grants its_port))
        (pick-same (in_channels p d its_port) (with_member (known k its_port) its_channel) (known (k + 1) its_port) (s.turn its_port) (s.turn its_port)
        (λ c less. ⊎_elim
        (λ z. let at : place p d its_port c ≡ k = ap (place p d its_port) z.1 ∙ place-input p d k in
        let e : nat_lt (place p d its_port c) (k + 1) ≡ true = grind (arith, nat_tests) in
        ap (λ b. known k its_port c || b) z.0 ∙ or-true (known k its_port c)
        ∙ sym (ap (λ b. b && is_ready p d n t s i its_port c) e ∙ ap (is_ready p d n t s i its_port) z.1 ∙ both.1))
        (λ z. ap (λ b. known k its_port c || b) z.0 ∙ or-false (known k its_port c) ∙ same-there k its_port c (other-channel c less z.1))
        (eqb_tells c its_channel))
        refl)

-- ---- the switch

asking-has : (p : Plan) (x : Switch) (d port : ℕ) (g : Option Grant) → d < length p.domains → HasSwitch p x → HasSwitch p (asking x d port g)
asking-has p x d port None there h = h
asking-has p x d port (Some g) there h = record { port_count = h.port_count; asks = has-ports p x.asks d port _ there h.asks; turns = h.turns; switches = h.switches }

asking-turns : (x : Switch) (d port : ℕ) (g : Option Grant) → (asking x d port g).turns ≡ x.turns
asking-turns x d port None = refl
asking-turns x d port (Some g) = refl

asking-switches : (x : Switch) (d port : ℕ) (g : Option Grant) → (asking x d port g).switches ≡ x.switches
asking-switches x d port None = refl
asking-switches x d port (Some g) = refl

asking-others : (x : Switch) (d port e : ℕ) (g : Option Grant) → e ≢ d → lane (asking x d port g).asks e ≡ lane x.asks e
asking-others x d port e None apart = refl
asking-others x d port e (Some g) apart = lanes-other x.asks d e port _ apart

asking-other : (x : Switch) (d port q : ℕ) (g : Option Grant) → d < length x.asks → q ≢ port → ask_at (asking x d port g) d q ≡ ask_at x d q
asking-other x d port q None there apart = refl
asking-other x d port q (Some g) there apart = lane-other x.asks d port q _ None there apart

pub asks-none : (p : Plan) (d : ℕ) (r : Parts) → HasSwitch p r.switch → ((port : ℕ) → ask_at r.switch d port ≡ None) → AsksBelow 0 p d r r.switch
asks-none p d r has quiet = record {
  has = has;
  turns = refl;
  switches = refl;
  others = λ e apart. refl;
  asks = λ s t port shown stands inside. quiet port ∙ below-none p d r.tile (pos t) s (outside (told_at r.told d)) port;
}

pub asks-more : (k : ℕ) (p : Plan) (d : ℕ) (r : Parts) (x : Switch) (g : Option Grant) → d < length p.domains → k < input_count p d → AsksBelow k p d r x
    → ((s : Tile) (t : ℕ) → Shows r p d s → Stands r.wheel p r.tile t → g ≡ requested p d r.tile (pos t) s (outside (told_at r.told d)) k)
    → AsksBelow (k + 1) p d r (asking x d (input_port p d k) g)
asks-more k p d r x g there k_in before is = record {
  has = asking-has p x d (input_port p d k) g there before.has;
  turns = asking-turns x d (input_port p d k) g ∙ before.turns;
  switches = asking-switches x d (input_port p d k) g ∙ before.switches;
  others = λ e apart. asking-others x d (input_port p d k) e g apart ∙ before.others e apart;
  asks = λ s t port shown stands inside. ⊎_elim
      (λ z. ap (ask_at (asking x d (input_port p d k) g) d) z.1 ∙ own s t shown stands ∙ ap (asked_below (k + 1) p d r.tile (pos t) s (outside (told_at r.told d))) (sym z.1))
      (λ z. asking-other x d (input_port p d k) port g has-lane z.1 ∙ before.asks s t port shown stands inside
      ∙ below-other p d r.tile (pos t) s (outside (told_at r.told d)) k port z.1)
      (eqb_tells port (input_port p d k));
}
  where
    has-lane : d < length x.asks
    has-lane = let a = before.has.asks.domains in omega (arith, a, there)

    q_in : input_port p d k < ports p
    q_in = port-below p d k k_in

    own : (s : Tile) (t : ℕ) → Shows r p d s → Stands r.wheel p r.tile t
        → ask_at (asking x d (input_port p d k) g) d (input_port p d k) ≡ asked_below (k + 1) p d r.tile (pos t) s (outside (told_at r.told d)) (input_port p d k)
    own s t shown stands = go (test p d r.tile (pos t) s (outside (told_at r.told d)) k) refl
      where
        now : ask_at x d (input_port p d k) ≡ asked_below k p d r.tile (pos t) s (outside (told_at r.told d)) (input_port p d k)
        now = before.asks s t (input_port p d k) shown stands q_in

        turn : turn_at x d (input_port p d k) ≡ s.turn (input_port p d k)
        turn = ap (λ v. get_or (lane v d) (input_port p d k) 0) before.turns ∙ shown.turn (input_port p d k) q_in

        go : (b : Bool) → test p d r.tile (pos t) s (outside (told_at r.told d)) k ≡ b
            → ask_at (asking x d (input_port p d k) g) d (input_port p d k) ≡ asked_below (k + 1) p d r.tile (pos t) s (outside (told_at r.told d)) (input_port p d k)
        go false e =
            let none : g ≡ None = is s t shown stands ∙ ap (λ b. if b then grant_at (input_channel p d k) (s.stage (input_port p d k) (input_channel p d k)) else None) e in
            ap (λ z. ask_at (asking x d (input_port p d k) z) d (input_port p d k)) none ∙ now ∙ below-silent p d r.tile (pos t) s (outside (told_at r.told d)) k e
        go true e =
            let ready = (and-both (nat_lt (input_channel p d k) (in_channels p d (input_port p d k))) (is_ready p d r.tile (pos t) s (outside (told_at r.told d)) (input_port p d k) (input_channel p d k)) e).1 in
            let some = some-grant (input_channel p d k) (grant_at (input_channel p d k) (s.stage (input_port p d k) (input_channel p d k)))
            (ready-grant p d r.tile (pos t) s (outside (told_at r.told d)) (input_channel p d k) (s.queue (input_port p d k) (input_channel p d k)) (s.stage (input_port p d k) (input_channel p d k)) ready) in
            let is_some : g ≡ Some some.0 = is s t shown stands ∙ ap (λ b. if b then grant_at (input_channel p d k) (s.stage (input_port p d k) (input_channel p d k)) else None) e ∙ some.1 in
            ap (λ z. ask_at (asking x d (input_port p d k) z) d (input_port p d k)) is_some
            ∙ lane-written x.asks d (input_port p d k) _ None has-lane (let a = before.has.asks.ports d there in omega (arith, a, q_in))
            ∙ ap (λ z. Some (better_ask z (ask_at x d (input_port p d k)) some.0)) turn
            ∙ ap (λ z. Some (better_ask (s.turn (input_port p d k)) z some.0)) now
            ∙ below-more p d r.tile (pos t) s (outside (told_at r.told d)) k some.0 e some.1

pub asks-all : (k : ℕ) (p : Plan) (d : ℕ) (r : Parts) (x : Switch) → input_count p d ≤ k → AsksBelow k p d r x → (s : Tile) (t port : ℕ) → Shows r p d s → Stands r.wheel p r.tile t → port < ports p
    → ask_at x d port ≡ asked p d r.tile (pos t) s (outside (told_at r.told d)) port
asks-all k p d r x past knows s t port shown stands inside = knows.asks s t port shown stands inside ∙ below-all p d r.tile (pos t) s (outside (told_at r.told d)) k port past inside

-- ---- the router

-- the router with this switch
abbrev pub asking_parts : Parts → Switch → Parts
asking_parts r x = record r { switch = x }

pub asking-made : (k : ℕ) (p : Plan) (d : ℕ) (r : Parts) (x : Switch) → IsMade r p → AsksBelow k p d r x → IsMade (asking_parts r x) p
asking-made k p d r x made knows = record {
  tile = made.tile;
  buffers = made.buffers;
  stages = made.stages;
  pulses = made.pulses;
  allocator = made.allocator;
  switch = knows.has;
  credits = made.credits;
  attachments = made.attachments;
  told = made.told;
  wheel = made.wheel;
}

pub asking-shows : (k : ℕ) (p : Plan) (d : ℕ) (r : Parts) (x : Switch) (e : ℕ) (s : Tile) → AsksBelow k p d r x → Shows r p e s → Shows (asking_parts r x) p e s
asking-shows k p d r x e s knows shown = record {
  queue = shown.queue;
  stage = shown.stage;
  pulse = shown.pulse;
  held = shown.held;
  credits = shown.credits;
  allocation = shown.allocation;
  switch = λ o o_in. ap (λ v. get_or (lane v e) o 0) knows.switches ∙ shown.switch o o_in;
  turn = λ port port_in. ap (λ v. get_or (lane v e) port 0) knows.turns ∙ shown.turn port port_in;
  packet = shown.packet;
  current = shown.current;
  dropped = shown.dropped;
  ejected = shown.ejected;
}
