-- What a router shows after a flit went through its switch.
use Rattle.std.proofs.Common.{◌≡◌, ◌≢◌, ℕ, zero, suc, ◌+◌, ◌-◌, ◌*◌, ◌<◌, Bool, true, false, List, length, get_or, drop, refl, sym, ap, ◌∙◌, arith, ⊎_elim, Some, None}
use Rattle.std.specs.Prelude.{◌==◌, ◌&&◌, not, is_some, if◌then◌else◌}
use Rattle.std.proofs.lemmas.Bool.Decides.{eqb_tells}
use Rattle.noc_model.specs.declared.Flit.{Flit}
use Rattle.noc_model.specs.declared.Grant.{Grant}
use Rattle.noc_model.specs.declared.Stage.{Stage}
use Rattle.noc_model.specs.declared.Stage.TheVariants.{Idle}
use Rattle.noc_model.specs.Plan.{Plan, ports, link_channels, at_local}
use Rattle.noc_model.specs.Inputs.{place}
use Rattle.noc_model.specs.Tile.{Tile}
use Rattle.noc_model.specs.Step.{front, is_tail}
use Rattle.noc_model.proofs.Inputs.{place-below}
use Rattle.flit_pool.specs.Lists.{Lists, list_at}
use Rattle.vc_partition.specs.Lanes.{lane}
use Rattle.vc_partition.proofs.Cuts.{lane-written, lane-other, lanes-other}
use Rattle.route_stage.specs.Routed.{stage_at, HasInputs}
use Rattle.credit_links.specs.Counts.{count_at, with_count}
use Rattle.vc_alloc.specs.Allocator.{spot, held_at}
use Rattle.router_core.specs.Buffers.{lists_at, flits_at, with_flits}
use Rattle.router_core.specs.Pulses.{pulse_at, is_pulse}
use Rattle.router_core.specs.Parts.{Parts}
use Rattle.router_core.specs.Sizes.{HasAllocator, HasCredits, HasPorts, IsMade}
use Rattle.router_core.specs.Shown.{Shows}
use Rattle.router_core.specs.Sends.{pulsed, spent, finished, freed, ends, passed_parts, is_at, passed}
use Rattle.router_core.proofs.Frames.{same-place, flits-written, flits-other, lists-other, has-buffers, has-inputs, has-ports, has-credits}

and-false : (a : Bool) → (a && false) ≡ false
and-false true = refl
and-false false = refl

and-true : (a : Bool) → (a && true) ≡ a
and-true true = refl
and-true false = refl

-- nothing but the local port is at 0
not-zero : (q : ℕ) (b : Bool) → q ≢ 0 → ((q == 0) && b) ≡ false
not-zero q b apart = ⊎_elim (λ z. absurd (apart z.1)) (λ z. ap (λ w. w && b) z.0) (eqb_tells q 0)

local-pulse : (q : ℕ) (x y : Bool) → (if q == 0 then at_local q x y else x) ≡ x
local-pulse q x y = ⊎_elim
    (λ z. ap (λ b. if b then at_local q x y else x) z.0 ∙ ap (λ j. at_local j x y) z.1)
    (λ z. ap (λ b. if b then at_local q x y else x) z.0)
    (eqb_tells q 0)

module _ (r : Parts) (p : Plan) (d port : ℕ) (g : Grant) (made : IsMade r p) (there : d < length p.domains) (port_in : port < ports p) (ch_in : g.channel < link_channels p d) (out_in : g.out < ports p)
    (to_in : g.to < link_channels p d) where
  abbrev k : ℕ
  k = place p d port g.channel

  finished-has : (b : Bool) → HasInputs p (finished r.stages d k b)
  finished-has false = made.stages
  finished-has true = has-inputs p r.stages d k Idle there made.stages

  freed-has : (b : Bool) → HasAllocator p r.tile (freed r.allocator d g.out g.to b)
  freed-has false = made.allocator
  freed-has true = record {
    tile = made.allocator.tile;
    domains = λ e inside. let f = made.allocator.domains e inside in record {
      domain = f.domain;
      port_count = f.port_count;
      class = f.class;
      link = f.link;
    };
    holders = has-inputs p r.allocator.holders d _ _ there made.allocator.holders;
    pointers = made.allocator.pointers;
  }

  pulsed-has : (q : ℕ) → HasPorts p (pulsed r.pulses d q g.channel)
  pulsed-has zero = made.pulses
  pulsed-has (suc q) = has-ports p r.pulses d (suc q) (Some g.channel) there made.pulses

  spent-has : (o : ℕ) → HasCredits p (spent r.credits p d o g.to)
  spent-has zero = made.credits
  spent-has (suc o) = has-credits p r.credits d _ _ there made.credits

  pub passed-made : IsMade (passed_parts r p d port g) p
  passed-made = record {
    tile = made.tile;
    buffers = has-buffers p r.buffers d _ _ there made.buffers;
    stages = finished-has (ends r p d port g);
    pulses = pulsed-has port;
    allocator = freed-has (ends r p d port g);
    switch = made.switch;
    credits = spent-has g.out;
    attachments = made.attachments;
    told = made.told;
    wheel = made.wheel;
  }

  module _ (s : Tile) (shown : Shows r p d s) where
    in-buffers : d < length r.buffers
    in-buffers = let a = made.buffers.domains in omega (arith, a, there)

    in-list : k < length (lists_at r.buffers d).lists
    in-list = let a = place-below p d port g.channel port_in ch_in in let b = made.buffers.inputs d there in omega (arith, a, b)

    queue-is : (q c : ℕ) → q < ports p → c < link_channels p d → flits_at (passed_parts r p d port g).buffers d (place p d q c) ≡ (passed s port g).queue q c
    queue-is q c q_in c_in =
        let new = drop 1 (flits_at r.buffers d k) in
        let f : Bool → List Flit = λ b. if b then drop 1 (s.queue q c) else s.queue q c in
        ⊎_elim
        (λ z. ap (flits_at (with_flits r.buffers d k new) d) z.1 ∙ flits-written r.buffers d k new in-buffers in-list
        ∙ ap (λ j. drop 1 (flits_at r.buffers d j)) (sym z.1) ∙ ap (drop 1) (shown.queue q c q_in c_in) ∙ ap f (sym z.0))
        (λ z. flits-other r.buffers d k (place p d q c) new in-buffers z.1 ∙ shown.queue q c q_in c_in ∙ ap f (sym z.0))
        (same-place p d q c port g.channel c_in ch_in)

    ends-is : ends r p d port g ≡ is_tail (front (s.queue port g.channel))
    ends-is = ap (λ fs. is_tail (front fs)) (shown.queue port g.channel port_in ch_in)

    in-stages : d < length r.stages
    in-stages = let a = made.stages.domains in omega (arith, a, there)

    in-lane : k < length (lane r.stages d)
    in-lane = let a = place-below p d port g.channel port_in ch_in in let b = made.stages.inputs d there in omega (arith, a, b)

    stage-by : (b : Bool) (q c : ℕ) → q < ports p → c < link_channels p d
        → stage_at (finished r.stages d k b) d (place p d q c) ≡ (if is_at q c port g.channel && b then Idle else s.stage q c)
    stage-by false q c q_in c_in = shown.stage q c q_in c_in ∙ sym (ap (λ z. if z then Idle else s.stage q c) (and-false (is_at q c port g.channel)))
    stage-by true q c q_in c_in =
        let f : Bool → Stage = λ b. if b && true then Idle else s.stage q c in
        ⊎_elim
        (λ z. ap (stage_at (finished r.stages d k true) d) z.1 ∙ lane-written r.stages d k Idle Idle in-stages in-lane ∙ ap f (sym z.0))
        (λ z. lane-other r.stages d k (place p d q c) Idle Idle in-stages z.1 ∙ shown.stage q c q_in c_in ∙ ap f (sym z.0))
        (same-place p d q c port g.channel c_in ch_in)

    in-pulses : d < length r.pulses
    in-pulses = let a = made.pulses.domains in omega (arith, a, there)

    pulse-by : (m q c : ℕ) → m < ports p → q < ports p → c < link_channels p d
        → is_pulse (pulse_at (pulsed r.pulses d m g.channel) d q) c ≡ (if q == m then at_local q (s.pulse q c) (g.channel == c) else s.pulse q c)
    pulse-by zero q c m_in q_in c_in = shown.pulse q c q_in c_in ∙ sym (local-pulse q (s.pulse q c) (g.channel == c))
    pulse-by (suc m) q c m_in q_in c_in =
        let f : Bool → Bool = λ b. if b then at_local q (s.pulse q c) (g.channel == c) else s.pulse q c in
        ⊎_elim
        (λ z. ap (λ j. is_pulse (pulse_at (pulsed r.pulses d (suc m) g.channel) d j) c) z.1
        ∙ ap (λ o. is_pulse o c) (lane-written r.pulses d (suc m) (Some g.channel) None in-pulses (let a = made.pulses.ports d there in omega (arith, a, m_in)))
        ∙ ap (λ j. at_local j (s.pulse q c) (g.channel == c)) (sym z.1) ∙ ap f (sym z.0))
        (λ z. ap (λ o. is_pulse o c) (lane-other r.pulses d (suc m) q (Some g.channel) None in-pulses z.1) ∙ shown.pulse q c q_in c_in ∙ ap f (sym z.0))
        (eqb_tells q (suc m))

    in-holders : d < length r.allocator.holders
    in-holders = let a = made.allocator.holders.domains in omega (arith, a, there)

    spot-is : (o w : ℕ) → spot r.allocator d o w ≡ place p d o w
    spot-is o w = ap (λ l. o * l + w) (made.allocator.domains d there).link

    in-spots : spot r.allocator d g.out g.to < length (lane r.allocator.holders d)
    in-spots =
        let a = place-below p d g.out g.to out_in to_in in
        let b = made.allocator.holders.inputs d there in
        let e = spot-is g.out g.to in
        omega (arith, a, b, e)

    held-by : (b : Bool) (q u : ℕ) → q < ports p → u < link_channels p d
        → held_at (freed r.allocator d g.out g.to b) d q u ≡ (s.held q u && not (b && is_at q u g.out g.to))
    held-by false q u q_in u_in = shown.held q u q_in u_in ∙ sym (and-true (s.held q u))
    held-by true q u q_in u_in =
        let f : Bool → Bool = λ b. s.held q u && not b in
        ⊎_elim
        (λ z. ap (λ j. is_some (get_or (lane (freed r.allocator d g.out g.to true).holders d) j None)) (spot-is q u ∙ z.1 ∙ sym (spot-is g.out g.to))
        ∙ ap is_some (lane-written r.allocator.holders d (spot r.allocator d g.out g.to) None None in-holders in-spots) ∙ sym (ap f z.0 ∙ and-false (s.held q u)))
        (λ z. ap is_some (lane-other r.allocator.holders d (spot r.allocator d g.out g.to) (spot r.allocator d q u) None None in-holders
        (λ e. z.1 (sym (spot-is q u) ∙ e ∙ spot-is g.out g.to))) ∙ shown.held q u q_in u_in ∙ sym (ap f z.0 ∙ and-true (s.held q u)))
        (same-place p d q u g.out g.to u_in to_in)

    in-credits : d < length r.credits.lanes
    in-credits = let a = made.credits.counts.domains in omega (arith, a, there)

    credits-by : (m q u : ℕ) → m < ports p → q ≢ 0 → q < ports p → u < link_channels p d
        → count_at (spent r.credits p d m g.to) d (place p d q u) ≡ (if is_at q u m g.to then s.credits q u - 1 else s.credits q u)
    credits-by zero q u m_in linked q_in u_in =
        shown.credits q u linked q_in u_in ∙ sym (ap (λ b. if b then s.credits q u - 1 else s.credits q u) (not-zero q (u == g.to) linked))
    credits-by (suc m) q u m_in linked q_in u_in =
        let j = place p d (suc m) g.to in
        let n = count_at r.credits d j - 1 in
        let f : Bool → ℕ = λ b. if b then s.credits q u - 1 else s.credits q u in
        let inside : j < length (lane r.credits.lanes d) = let a = place-below p d (suc m) g.to m_in to_in in let b = made.credits.counts.inputs d there in omega (arith, a, b) in
        ⊎_elim
        (λ z. ap (count_at (with_count r.credits d j n) d) z.1 ∙ lane-written r.credits.lanes d j n 0 in-credits inside
        ∙ ap (λ i. count_at r.credits d i - 1) (sym z.1) ∙ ap (λ i. i - 1) (shown.credits q u linked q_in u_in) ∙ ap f (sym z.0))
        (λ z. lane-other r.credits.lanes d j (place p d q u) n 0 in-credits z.1 ∙ shown.credits q u linked q_in u_in ∙ ap f (sym z.0))
        (same-place p d q u (suc m) g.to u_in to_in)

    pub passed-own : Shows (passed_parts r p d port g) p d (passed s port g)
    passed-own = record {
      queue = queue-is;
      stage = λ q c q_in c_in. stage-by (ends r p d port g) q c q_in c_in ∙ ap (λ b. if is_at q c port g.channel && b then Idle else s.stage q c) ends-is;
      pulse = λ q c q_in c_in. pulse-by port q c port_in q_in c_in;
      held = λ q u q_in u_in. held-by (ends r p d port g) q u q_in u_in ∙ ap (λ b. s.held q u && not (b && is_at q u g.out g.to)) ends-is;
      credits = λ q u linked q_in u_in. credits-by g.out q u out_in linked q_in u_in;
      allocation = λ o o_in. pointer-by (ends r p d port g) o o_in;
      switch = shown.switch;
      turn = shown.turn;
      packet = shown.packet;
      current = shown.current;
      dropped = shown.dropped;
      ejected = shown.ejected;
    }
      where
        pointer-by : (b : Bool) (o : ℕ) → o < ports p → get_or (lane (freed r.allocator d g.out g.to b).pointers d) o 0 ≡ s.allocation o
        pointer-by false o o_in = shown.allocation o o_in
        pointer-by true o o_in = shown.allocation o o_in

module _ (r : Parts) (p : Plan) (d port e : ℕ) (g : Grant) (s : Tile) (apart : e ≢ d) (shown : Shows r p e s) where
  stage-other : (b : Bool) (j : ℕ) → stage_at (finished r.stages d (place p d port g.channel) b) e j ≡ stage_at r.stages e j
  stage-other false j = refl
  stage-other true j = ap (λ l. get_or l j Idle) (lanes-other r.stages d e (place p d port g.channel) Idle apart)

  pulse-other : (m q : ℕ) → pulse_at (pulsed r.pulses d m g.channel) e q ≡ pulse_at r.pulses e q
  pulse-other zero q = refl
  pulse-other (suc m) q = ap (λ l. get_or l q None) (lanes-other r.pulses d e (suc m) (Some g.channel) apart)

  held-other : (b : Bool) (o w : ℕ) → held_at (freed r.allocator d g.out g.to b) e o w ≡ held_at r.allocator e o w
  held-other false o w = refl
  held-other true o w = ap (λ l. is_some (get_or l (spot r.allocator e o w) None)) (lanes-other r.allocator.holders d e (spot r.allocator d g.out g.to) None apart)

  pointer-other : (b : Bool) (o : ℕ) → get_or (lane (freed r.allocator d g.out g.to b).pointers e) o 0 ≡ get_or (lane r.allocator.pointers e) o 0
  pointer-other false o = refl
  pointer-other true o = refl

  count-other : (m j : ℕ) → count_at (spent r.credits p d m g.to) e j ≡ count_at r.credits e j
  count-other zero j = refl
  count-other (suc m) j = ap (λ l. get_or l j 0) (lanes-other r.credits.lanes d e (place p d (suc m) g.to) _ apart)

  pub passed-others : Shows (passed_parts r p d port g) p e s
  passed-others = record {
    queue = λ q c q_in c_in. ap (λ (xs : Lists). list_at xs (place p e q c)) (lists-other r.buffers d e (place p d port g.channel) _ apart) ∙ shown.queue q c q_in c_in;
    stage = λ q c q_in c_in. stage-other (ends r p d port g) (place p e q c) ∙ shown.stage q c q_in c_in;
    pulse = λ q c q_in c_in. ap (λ o. is_pulse o c) (pulse-other port q) ∙ shown.pulse q c q_in c_in;
    held = λ o w o_in w_in. held-other (ends r p d port g) o w ∙ shown.held o w o_in w_in;
    credits = λ o w linked o_in w_in. count-other g.out (place p e o w) ∙ shown.credits o w linked o_in w_in;
    allocation = λ o o_in. pointer-other (ends r p d port g) o ∙ shown.allocation o o_in;
    switch = shown.switch;
    turn = shown.turn;
    packet = shown.packet;
    current = shown.current;
    dropped = shown.dropped;
    ejected = shown.ejected;
  }
