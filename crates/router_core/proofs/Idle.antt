-- A tile that has nothing to do, and to which nothing comes, is as before after a cycle, and sends nothing.
use Rattle.std.proofs.Common.{◌≡◌, ℕ, zero, suc, ◌+◌, ◌-◌, ◌<◌, Bool, true, false, Option, List, [], ◌∷◌, refl, sym, ap, ◌∙◌, arith, ℤ, ◌&&◌, ◌||◌}
use Rattle.std.specs.Prelude.{Some, None, ◌==◌, nat_lt, is_some, not, if◌then◌else◌, option_to_list, option_and_then}
use Rattle.noc_model.specs.declared.Flit.{Flit}
use Rattle.noc_model.specs.declared.Grant.{Grant}
use Rattle.noc_model.specs.declared.Offer.{Offer}
use Rattle.noc_model.specs.declared.Stage.{Stage}
use Rattle.noc_model.specs.declared.Stage.TheVariants.{Idle, Routed, Active}
use Rattle.noc_model.specs.Plan.{Plan, ports, link_channels, in_channels}
use Rattle.noc_model.specs.Inputs.{place, input_count, input_port, input_channel}
use Rattle.noc_model.specs.Pick.{pick}
use Rattle.noc_model.specs.Tile.{Tile, TileIn}
use Rattle.noc_model.specs.Step.{waits_for, free_for, is_candidate, winner, taken_channel, is_place, is_ready, is_ready_at, grant_at, asked, asks_for, chosen, granted_to, grant, sent, with_channel, front, is_on, is_tail_on, one_if, is_open, word_in, entry, comes_in, flit_on, after, after_grant, next_ejected, next_packet, next_current, is_dropped, tile_step}
use Rattle.noc_model.proofs.Inputs.{input-within, place-below, port-below, channel-below}
use Rattle.noc_model.proofs.Least.{pick-member}
use Rattle.noc_model.proofs.Quiet.{IsQuiet, quiet-stays}
use Rattle.route_stage.specs.Routed.{stage_at}
use Rattle.router_core.specs.declared.attachments.Told.{Told}
use Rattle.router_core.specs.Attachments.{outside}
use Rattle.router_core.specs.Buffers.{flits_at}
use Rattle.router_core.specs.Pulses.{is_pulse}
use Rattle.router_core.specs.Parts.{Parts}
use Rattle.router_core.specs.Shown.{Shows}
use Rattle.router_core.specs.Idle.{is_busy, IsIdleFor}

-- ---- a choice of nothing

pub clash : true ≡ false → ⊥
clash e = cc e

pub pick-none : (n : ℕ) (set : ℕ → Bool) (pointer : ℕ) → ((k : ℕ) → k < n → set k ≡ false) → pick n set pointer ≡ None
pick-none n set pointer none = go (pick n set pointer) refl
  where
    go : (o : Option ℕ) → pick n set pointer ≡ o → o ≡ None
    go None e = refl
    go (Some k) e = let found = pick-member n set pointer k e in absurd (clash (sym found.1 ∙ none k found.0))

pub and-false : (a b c : Bool) → b ≡ false → (a && (b && c)) ≡ false
and-false true true c e = absurd (clash e)
and-false true false c e = refl
and-false false b c e = refl

nothing-in : (b : Bool) (x : Option Offer) → x ≡ None → (if b then x else None) ≡ None
nothing-in true x e = e
nothing-in false x e = refl

no-list : (b : Bool) (fs : List Flit) → fs ≡ [] → (if b then fs else []) ≡ []
no-list true fs e = e
no-list false fs e = refl

kept-held : (b : Bool) → ((b && true) || false) ≡ b
kept-held true = refl
kept-held false = refl

-- an input that isn't busy has no flit, and no packet
idle-input : (fs : List Flit) (stage : Stage) → is_busy fs stage ≡ false → (fs ≡ []) × (stage ≡ Idle)
idle-input [] Idle e = (refl, refl)
idle-input [] (Routed o) e = absurd (clash e)
idle-input [] (Active o w) e = absurd (clash e)
idle-input (f ∷ fs) stage e = absurd (clash e)

-- ---- a tile whose inputs are idle

-- nothing comes into the tile
pub record ComesNothing (p : Plan) (d : ℕ) (i : TileIn) : Type 0 where
  pub arrives : (port : ℕ) → port < ports p → i.arrives port ≡ None
  pub returns : (o w : ℕ) → o < ports p → w < link_channels p d → i.returns o w ≡ false
  pub offer : i.offer ≡ None

module _ (p : Plan) (d n : ℕ) (t : ℤ) (s : Tile) (i : TileIn)
    (empty : (port c : ℕ) → port < ports p → c < link_channels p d → s.queue port c ≡ [])
    (idle : (port c : ℕ) → port < ports p → c < link_channels p d → s.stage port c ≡ Idle) where
  no-winner : (o : ℕ) → winner p d n s o ≡ None
  unfolding winner
  no-winner o =
      pick-none (input_count p d) (is_candidate p d n s o) (s.allocation o)
      (λ k k_in. and-false (nat_lt (input_channel p d k) (in_channels p d (input_port p d k))) (waits_for (s.stage (input_port p d k) (input_channel p d k)) o)
      (is_some (free_for p d n s o (input_port p d k) (input_channel p d k)))
      (ap (λ st. waits_for st o) (idle (input_port p d k) (input_channel p d k) (port-below p d k k_in) (channel-below p d k k_in))))

  none-taken : (o : ℕ) → taken_channel p d n s o ≡ None
  unfolding taken_channel
  none-taken o = ap (λ x. option_and_then (λ k. free_for p d n s o (input_port p d k) (input_channel p d k)) x) (no-winner o)

  none-asked : (port : ℕ) → port < ports p → asked p d n t s i port ≡ None
  unfolding asked
  none-asked port inside =
      ap (λ x. option_and_then (λ c. grant_at c (s.stage port c)) x)
      (pick-none (in_channels p d port) (is_ready p d n t s i port) (s.turn port)
      (λ c c_in. ap (is_ready_at p d n t s i (s.queue port c)) (idle port c inside (input-within p d port c c_in))))

  none-chosen : (o : ℕ) → chosen p d n t s i o ≡ None
  unfolding chosen
  none-chosen o = pick-none (ports p) (λ port. asks_for (asked p d n t s i port) o) (s.switch o) (λ port inside. ap (λ x. asks_for x o) (none-asked port inside))

  none-granted : (port : ℕ) → port < ports p → grant p d n t s i port ≡ None
  unfolding grant
  none-granted port inside = ap (λ x. option_and_then (λ (g : Grant). granted_to (chosen p d n t s i g.out) port g) x) (none-asked port inside)

  pub idle-sends : (o : ℕ) → sent p d n t s i o ≡ None
  unfolding sent
  idle-sends o =
      ap (λ x. option_and_then (λ port. option_and_then (λ (g : Grant). with_channel g.to (front (s.queue port g.channel))) (grant p d n t s i port)) x) (none-chosen o)

  module _ (comes : ComesNothing p d i) where
    no-word : word_in p s i ≡ None
    unfolding word_in
    no-word = nothing-in (is_open p s) i.offer comes.offer

    no-comer : (port c : ℕ) → port < ports p → comes_in p d s i port c ≡ []
    no-comer zero c inside = no-list (s.current == c) (option_to_list (entry p d s.packet (word_in p s i))) (ap (λ x. option_to_list (entry p d s.packet x)) no-word)
    no-comer (suc port) c inside = ap (λ x. flit_on x c) (comes.arrives (suc port) inside)

    quiet : (port c : ℕ) → port < ports p → c < link_channels p d → IsQuiet p d s i port c
    quiet port c inside few = record { empty = empty port c inside few; idle = idle port c inside few; nothing_comes = no-comer port c inside }

-- ---- a router with nothing to do

module _ (r : Parts) (p : Plan) (d n : ℕ) (t : ℤ) (s : Tile) (i : TileIn) (at_rest : IsIdleFor p r d) (shown : Shows r p d s) where
  input : (port c : ℕ) → port < ports p → c < link_channels p d → (s.queue port c ≡ []) × (s.stage port c ≡ Idle)
  input port c inside few =
      let k = place p d port c in
      let own = idle-input (flits_at r.buffers d k) (stage_at r.stages d k) (at_rest.inputs k (place-below p d port c inside few)) in
      (sym (shown.queue port c inside few) ∙ own.0, sym (shown.stage port c inside few) ∙ own.1)

  empties : (port c : ℕ) → port < ports p → c < link_channels p d → s.queue port c ≡ []
  empties port c inside few = (input port c inside few).0

  idles : (port c : ℕ) → port < ports p → c < link_channels p d → s.stage port c ≡ Idle
  idles port c inside few = (input port c inside few).1

  -- it sends nothing
  pub rest-sends : (o : ℕ) → sent p d n t s i o ≡ None
  rest-sends o = idle-sends p d n t s i empties idles o

  -- it stays as it is where nothing comes
  pub rest-steps : ComesNothing p d i → Shows r p d (tile_step p d n t s i)
  unfolding tile_step
  rest-steps comes = record {
    queue = λ port c inside few. shown.queue port c inside few ∙ empties port c inside few ∙ sym (stays port c inside few).0;
    stage = λ port c inside few. shown.stage port c inside few ∙ idles port c inside few ∙ sym (stays port c inside few).1;
    pulse = λ port c inside few. ap (λ x. is_pulse x c) (at_rest.pulses port inside) ∙ sym (stays port c inside few).2;
    held = λ o w inside few.
        shown.held o w inside few ∙ sym (kept-held (s.held o w)) ∙ ap (λ x. (s.held o w && not (is_tail_on x w)) || false) (sym (rest-sends o))
        ∙ ap (λ x. (s.held o w && not (is_tail_on (sent p d n t s i o) w)) || is_place x w) (sym (none-taken p d n t s i empties idles o));
    credits = λ o w link inside few.
        shown.credits o w link inside few ∙ no-credit (s.credits o w) ∙ ap (λ b. s.credits o w + one_if b - 0) (sym (comes.returns o w inside few))
        ∙ ap (λ x. s.credits o w + one_if (i.returns o w) - one_if (is_on x w)) (sym (rest-sends o));
    allocation = λ o inside. shown.allocation o inside ∙ ap (λ x. after x (s.allocation o)) (sym (no-winner p d n t s i empties idles o));
    switch = λ o inside. shown.switch o inside ∙ ap (λ x. after x (s.switch o)) (sym (none-chosen p d n t s i empties idles o));
    turn = λ port inside. shown.turn port inside ∙ ap (λ x. after_grant x (s.turn port)) (sym (none-granted p d n t s i empties idles port inside));
    packet = shown.packet ∙ ap (next_packet p d s.packet) (sym word);
    current = shown.current ∙ ap (λ x. next_current p d s.current (entry p d s.packet x)) (sym word);
    dropped = at_rest.dropped ∙ ap (is_dropped p d s.packet) (sym word);
    ejected = shown.ejected ∙ none ∙ sym (unheard i.hears) ∙ ap (λ e. next_ejected None i.hears e) (sym none) ∙ ap (λ x. next_ejected x i.hears s.ejected) (sym (rest-sends 0));
  }
    where
      word : word_in p s i ≡ None
      word = no-word p d n t s i empties idles comes

      none : s.ejected ≡ None
      none = sym shown.ejected ∙ at_rest.ejected

      stays : (port c : ℕ) → port < ports p → c < link_channels p d
          → ((tile_step p d n t s i).queue port c ≡ []) × ((tile_step p d n t s i).stage port c ≡ Idle) × ((tile_step p d n t s i).pulse port c ≡ false)
      stays port c inside few = quiet-stays p d n t s i port c (quiet p d n t s i empties idles comes port c inside few)

      no-credit : (k : ℕ) → k ≡ k + 0 - 0
      no-credit k = omega arith

      unheard : (b : Bool) → next_ejected None b None ≡ None
      unheard true = refl
      unheard false = refl

-- the buffers of the tile are empty
pub rest-empty : (r : Parts) (p : Plan) (d : ℕ) (s : Tile) → IsIdleFor p r d → Shows r p d s → (port c : ℕ) → port < ports p → c < link_channels p d
    → s.queue port c ≡ []
rest-empty r p d s at_rest shown port c inside few =
    let k = place p d port c in
    sym (shown.queue port c inside few) ∙ (idle-input (flits_at r.buffers d k) (stage_at r.stages d k) (at_rest.inputs k (place-below p d port c inside few))).0

-- where no word is offered and nothing comes from the neighbours, nothing comes
pub resting : (p : Plan) (d : ℕ) (told : Told) → is_some told.offer ≡ false → ComesNothing p d (outside told)
resting p d told e = record { arrives = λ port inside. refl; returns = λ o w inside few. refl; offer = none-is told.offer e }
  where
    none-is : (o : Option Offer) → is_some o ≡ false → o ≡ None
    none-is None e = refl
    none-is (Some x) e = absurd (clash e)
