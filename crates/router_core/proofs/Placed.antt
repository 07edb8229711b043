-- What a router shows after the heads of a domain were placed.
use Rattle.std.proofs.Common.{◌≡◌, ◌≢◌, ℕ, ◌<◌, true, false, List, [], ◌∷◌, length, get_or, refl, sym, ap, ◌∙◌, subst, arith, ⊎_elim, Option, Some, None}
use Rattle.std.specs.Prelude.{◌&&◌, ◌||◌, nat_lt, slice_get, is_some, if◌then◌else◌}
use Rattle.std.proofs.lemmas.Bool.{eqb-true}
use Rattle.std.proofs.lemmas.Bool.Decides.{nat_tests, eqb_tells}
use Rattle.noc_model.specs.declared.Flit.{Flit}
use Rattle.noc_model.specs.declared.Stage.{Stage}
use Rattle.noc_model.specs.declared.Stage.TheVariants.{Idle, Routed, Active}
use Rattle.noc_model.specs.Plan.{Plan, ports, link_channels, in_channels}
use Rattle.noc_model.specs.Inputs.{place, input_count, input_port, input_channel}
use Rattle.noc_model.specs.Tile.{Tile}
use Rattle.noc_model.specs.Step.{routed, activated, waits_for, is_candidate, winner, taken_channel, is_place, after, free_for}
use Rattle.noc_model.proofs.Least.{pick-member}
use Rattle.noc_model.proofs.Inputs.{port-place, channel-place, place-input, place-below, port-below, channel-below}
use Rattle.vc_partition.specs.Lanes.{lane}
use Rattle.route_stage.specs.Routed.{stage_at}
use Rattle.vc_alloc.specs.declared.Winner.{Winner}
use Rattle.vc_alloc.specs.Allocator.{Allocator, held_at, pointer_at, best_at}
use Rattle.vc_alloc.specs.Chosen.{winner_with, free_at}
use Rattle.vc_alloc.specs.Shown.{GoesBelow}
use Rattle.vc_alloc.specs.Shown as alloc
use Rattle.vc_alloc.specs.Progress.{KnowsBelow}
use Rattle.vc_alloc.proofs.Wanted.{and-both, knows-all}
use Rattle.vc_alloc.proofs.Chosen.{winner-place, winner-channel}
use Rattle.router_core.specs.Parts.{Parts}
use Rattle.router_core.specs.Sizes.{IsMade, HasAllocator}
use Rattle.router_core.specs.Shown.{Shows}
use Rattle.router_core.specs.Heads.{front_of, headed, headed_to, place_of, to_of, WinsNone, GivesBelow, placed_stage, placed}

headed-idle : (p : Plan) (n : ℕ) (fs : List Flit) → headed p n (slice_get fs 0) Idle ≡ routed p n fs Idle
headed-idle p n [] = refl
headed-idle p n (f ∷ fs) = refl

headed-routed : (p : Plan) (n o : ℕ) (front : Option Flit) → headed p n front (Routed o) ≡ Routed o
headed-routed p n o None = refl
headed-routed p n o (Some f) = refl

headed-active : (p : Plan) (n o w : ℕ) (front : Option Flit) → headed p n front (Active o w) ≡ Active o w
headed-active p n o w None = refl
headed-active p n o w (Some f) = refl

winner-waits : (p : Plan) (d n : ℕ) (s : Tile) (o k : ℕ) → winner p d n s o ≡ Some k → waits_for (s.stage (input_port p d k) (input_channel p d k)) o ≡ true
unfolding winner
winner-waits p d n s o k e =
    let member = pick-member (input_count p d) (is_candidate p d n s o) (s.allocation o) k e in
    let rest = and-both (nat_lt (input_channel p d k) (in_channels p d (input_port p d k)))
    (waits_for (s.stage (input_port p d k) (input_channel p d k)) o && is_some (free_for p d n s o (input_port p d k) (input_channel p d k))) member.1 in
    (and-both (waits_for (s.stage (input_port p d k) (input_channel p d k)) o) (is_some (free_for p d n s o (input_port p d k) (input_channel p d k))) rest.1).0

-- the router after the step
abbrev pub placed_parts : Parts → Allocator → List (List Stage) → Parts
placed_parts r y u = record r { allocator = y; stages = u }

module _ (p : Plan) (d : ℕ) (r : Parts) (x1 y : Allocator) (v1 u : List (List Stage)) (made : IsMade r p) (there : d < length p.domains)
    (knows : KnowsBelow (input_count p d) r.allocator x1 p d r.stages)
    (heads : (k : ℕ) → stage_at v1 d k ≡ headed_to (input_count p d) p r.tile r.buffers r.stages d k)
    (kept : (e : ℕ) → e ≢ d → lane v1 e ≡ lane r.stages e)
    (outs : (k : ℕ) → GoesBelow (ports p) (stage_at r.stages d k))
    (g : GivesBelow (ports p) p d x1 y v1 u) where
  abbrev n : ℕ
  n = r.tile

  tile-same : x1.tile ≡ r.tile
  tile-same = ap (λ (x : Allocator). x.tile) knows.rest ∙ made.allocator.tile

  pub placed-made : IsMade (placed_parts r y u) p
  placed-made = record {
    tile = made.tile;
    buffers = made.buffers;
    stages = g.inputs;
    pulses = made.pulses;
    allocator = let P : ℕ → Type 0 = λ k. HasAllocator p k y in subst P tile-same g.made;
    switch = made.switch;
    credits = made.credits;
    attachments = made.attachments;
    told = made.told;
    wheel = made.wheel;
  }

  held-before : (e q w : ℕ) → held_at x1 e q w ≡ held_at r.allocator e q w
  held-before e q w = ap (λ (x : Allocator). held_at x e q w) knows.rest

  pointer-before : (e q : ℕ) → pointer_at x1 e q ≡ pointer_at r.allocator e q
  pointer-before e q = ap (λ (x : Allocator). pointer_at x e q) knows.rest

  pub placed-others : (e : ℕ) (s : Tile) → e ≢ d → Shows r p e s → Shows (placed_parts r y u) p e s
  placed-others e s apart shown = record {
    queue = shown.queue;
    stage = λ port c port_in c_in. ap (λ l. get_or l (place p e port c) Idle) (g.other_stages e apart ∙ kept e apart) ∙ shown.stage port c port_in c_in;
    pulse = shown.pulse;
    held = λ o w o_in w_in. g.other_held e o w apart ∙ held-before e o w ∙ shown.held o w o_in w_in;
    credits = shown.credits;
    allocation = λ o o_in. g.other_pointers e o apart ∙ pointer-before e o ∙ shown.allocation o o_in;
    switch = shown.switch;
    turn = shown.turn;
    packet = shown.packet;
    current = shown.current;
    dropped = shown.dropped;
    ejected = shown.ejected;
  }

  module _ (s : Tile) (shown : Shows r p d s) where
    alloc-shows : alloc.Shows r.allocator r.stages p d s
    alloc-shows = record {
      held = shown.held;
      pointers = shown.allocation;
      inputs = λ k k_in. ap (stage_at r.stages d) (sym (place-input p d k)) ∙ shown.stage (input_port p d k) (input_channel p d k) (port-below p d k k_in) (channel-below p d k k_in);
    }

    best-is : (o : ℕ) → o < ports p → best_at x1 o ≡ winner_with (free_at p d n s o) (winner p d n s o)
    best-is o o_in = knows-all p d (input_count p d) r.allocator x1 r.stages (omega arith) knows s o alloc-shows o_in
        ∙ ap (λ m. winner_with (free_at p d m s o) (winner p d m s o)) made.allocator.tile

    place-is : (o : ℕ) → o < ports p → place_of (best_at x1 o) ≡ winner p d n s o
    place-is o o_in = ap place_of (best-is o o_in) ∙ winner-place p d n o s

    to-is : (o : ℕ) → o < ports p → to_of (best_at x1 o) ≡ taken_channel p d n s o
    to-is o o_in = ap to_of (best-is o o_in) ∙ winner-channel p d n o s

    module _ (port c : ℕ) (port_in : port < ports p) (c_in : c < link_channels p d) where
      abbrev k : ℕ
      k = place p d port c

      abbrev front : Option Flit
      front = slice_get (s.queue port c) 0

      waits : (o : ℕ) → winner p d n s o ≡ Some k → waits_for (s.stage port c) o ≡ true
      waits o e = ap (λ q. waits_for (s.stage q c) o) (sym (port-place p d port c c_in))
          ∙ ap (λ ch. waits_for (s.stage (input_port p d k) ch) o) (sym (channel-place p d port c c_in)) ∙ winner-waits p d n s o k e

      wins-none : (q : ℕ) → ((o : ℕ) → o ≢ q → winner p d n s o ≡ Some k → ⊥) → WinsNone x1 (ports p) q k
      wins-none q never o w less apart e at = never o apart (sym (place-is o less) ∙ ap place_of e ∙ ap Some at)

      before : stage_at v1 d k ≡ headed p n front (s.stage port c)
      before =
          let k_in = place-below p d port c port_in c_in in
          let less : nat_lt k (input_count p d) ≡ true = grind (arith, nat_tests) in
          heads k ∙ ap (λ b. if b then headed p n (front_of r.buffers d k) (stage_at r.stages d k) else stage_at r.stages d k) less
          ∙ ap (λ f. headed p n f (stage_at r.stages d k)) (ap (λ fs. slice_get fs 0) (shown.queue port c port_in c_in))
          ∙ ap (headed p n front) (shown.stage port c port_in c_in)

      only : (o q : ℕ) → s.stage port c ≡ Routed o → winner p d n s q ≡ Some k → o ≡ q
      only o q e wins = eqb-true o q (sym (ap (λ t. waits_for t q) e) ∙ waits q wins)

      stays : (o : ℕ) → s.stage port c ≡ Routed o → (winner p d n s o ≡ Some k → ⊥) → stage_at u d k ≡ Routed o
      stays o e lost = g.lost k (wins-none (ports p) (λ q apart wins. lost (ap (winner p d n s) (only o q e wins) ∙ wins)))
          ∙ before ∙ ap (headed p n front) e ∙ headed-routed p n o front

      taken : (o : ℕ) → s.stage port c ≡ Routed o → winner p d n s o ≡ Some k → stage_at u d k ≡ activated true o (taken_channel p d n s o)
      taken o e wins = go (best_at x1 o) refl
        where
          o_in : o < ports p
          o_in = let P : Stage → Type 0 = GoesBelow (ports p) in subst P (shown.stage port c port_in c_in ∙ e) (outs k)

          go : (b : Option Winner) → best_at x1 o ≡ b → stage_at u d k ≡ activated true o (taken_channel p d n s o)
          go None is = absurd (let bad : None ≡ Some k = sym (ap place_of is) ∙ place-is o o_in ∙ wins in cc bad)
          go (Some w) is =
              let both : Some w.place ≡ Some k = sym (ap place_of is) ∙ place-is o o_in ∙ wins in
              let at : w.place ≡ k = cc both in
              let to : taken_channel p d n s o ≡ Some w.to = sym (to-is o o_in) ∙ ap to_of is in
              g.won o k w o_in (place-below p d port c port_in c_in) is at (wins-none o (λ q apart other. apart (sym (only o q e other))))
              ∙ sym (ap (activated true o) to)

      routed-stage : (o : ℕ) → s.stage port c ≡ Routed o → stage_at u d k ≡ placed_stage p d n s port c (Routed o)
      routed-stage o e = go (winner p d n s o) refl
        where
          go : (z : Option ℕ) → winner p d n s o ≡ z → stage_at u d k ≡ placed_stage p d n s port c (Routed o)
          go None is = stays o e (λ wins. let bad : None ≡ Some k = sym is ∙ wins in absurd (cc bad))
              ∙ sym (ap (λ t. activated (is_place t k) o (taken_channel p d n s o)) is)
          go (Some j) is = ⊎_elim
              (λ z. taken o e (is ∙ ap Some z.1) ∙ sym (ap (λ t. activated (is_place t k) o (taken_channel p d n s o)) is ∙ ap (λ b. activated b o (taken_channel p d n s o)) z.0))
              (λ z. stays o e (λ wins. z.1 (let both : Some j ≡ Some k = sym is ∙ wins in let at : j ≡ k = cc both in at))
              ∙ sym (ap (λ t. activated (is_place t k) o (taken_channel p d n s o)) is ∙ ap (λ b. activated b o (taken_channel p d n s o)) z.0))
              (eqb_tells j k)

      never : (t : Stage) → s.stage port c ≡ t → ((o : ℕ) → waits_for t o ≡ false) → stage_at u d k ≡ headed p n front t
      never t e idle = g.lost k (wins-none (ports p) (λ q apart wins. let bad : true ≡ false = sym (waits q wins) ∙ ap (λ z. waits_for z q) e ∙ idle q in absurd (cc bad)))
          ∙ before ∙ ap (headed p n front) e

      placed-stage : (t : Stage) → s.stage port c ≡ t → stage_at u d k ≡ placed_stage p d n s port c t
      placed-stage Idle e = never Idle e (λ o. refl) ∙ headed-idle p n (s.queue port c)
      placed-stage (Routed o) e = routed-stage o e
      placed-stage (Active o w) e = never (Active o w) e (λ q. refl) ∙ headed-active p n o w front

    pub placed-own : Shows (placed_parts r y u) p d (placed p d n s)
    placed-own = record {
      queue = shown.queue;
      stage = λ port c port_in c_in. placed-stage port c port_in c_in (s.stage port c) refl;
      pulse = shown.pulse;
      held = λ o w o_in w_in. g.held o w o_in o_in w_in ∙ ap (λ b. b || is_place (to_of (best_at x1 o)) w) (held-before d o w ∙ shown.held o w o_in w_in)
          ∙ ap (λ z. s.held o w || is_place z w) (to-is o o_in);
      credits = shown.credits;
      allocation = λ o o_in. g.pointers o o_in ∙ ap (after (place_of (best_at x1 o))) (pointer-before d o ∙ shown.allocation o o_in)
          ∙ ap (λ z. after z (s.allocation o)) (place-is o o_in);
      switch = shown.switch;
      turn = shown.turn;
      packet = shown.packet;
      current = shown.current;
      dropped = shown.dropped;
      ejected = shown.ejected;
    }
