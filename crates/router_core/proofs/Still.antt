-- A tile at which no head waits is as before after its heads were placed.
use Rattle.std.proofs.Common.{◌≡◌, ℕ, ◌<◌, Bool, true, false, List, [], ◌∷◌, refl, sym, ap, ◌∙◌, ◌||◌}
use Rattle.std.specs.Prelude.{None, nat_lt, is_some, option_and_then}
use Rattle.noc_model.specs.declared.Flit.{Flit}
use Rattle.noc_model.specs.declared.Stage.{Stage}
use Rattle.noc_model.specs.declared.Stage.TheVariants.{Idle, Routed, Active}
use Rattle.noc_model.specs.Plan.{Plan, ports, link_channels, in_channels}
use Rattle.noc_model.specs.Inputs.{place, input_count, input_port, input_channel}
use Rattle.noc_model.specs.Tile.{Tile}
use Rattle.noc_model.specs.Step.{waits_for, free_for, is_candidate, winner, taken_channel, is_place, routed, after}
use Rattle.noc_model.proofs.Inputs.{place-below, port-below, channel-below}
use Rattle.route_stage.specs.Routed.{stage_at}
use Rattle.router_core.specs.Buffers.{flits_at}
use Rattle.router_core.specs.Heads.{placed_stage, placed}
use Rattle.router_core.specs.Idle.{has_head}
use Rattle.router_core.specs.Parts.{Parts}
use Rattle.router_core.specs.Shown.{Shows}
use Rattle.router_core.proofs.Idle.{clash, pick-none, and-false}

or-false : (a : Bool) → a ≡ (a || false)
or-false true = refl
or-false false = refl

-- an input at which no head waits waits for no output
waits-none : (stage : Stage) (fs : List Flit) (o : ℕ) → has_head stage fs ≡ false → waits_for stage o ≡ false
waits-none Idle fs o e = refl
waits-none (Routed q) fs o e = absurd (clash e)
waits-none (Active q w) fs o e = refl

-- its stage stays
stage-still : (p : Plan) (d n port c : ℕ) (s : Tile) (stage : Stage) → has_head stage (s.queue port c) ≡ false → placed_stage p d n s port c stage ≡ stage
stage-still p d n port c s Idle e = go (s.queue port c) e
  where
    go : (fs : List Flit) → has_head Idle fs ≡ false → routed p n fs Idle ≡ Idle
    go [] e = refl
    go (f ∷ fs) e = absurd (clash e)
stage-still p d n port c s (Routed o) e = absurd (clash e)
stage-still p d n port c s (Active o w) e = refl

module _ (r : Parts) (p : Plan) (d : ℕ) (s : Tile) (shown : Shows r p d s)
    (none : (k : ℕ) → k < input_count p d → has_head (stage_at r.stages d k) (flits_at r.buffers d k) ≡ false) (n : ℕ) where
  input : (port c : ℕ) → port < ports p → c < link_channels p d → has_head (s.stage port c) (s.queue port c) ≡ false
  input port c inside few =
      let k = place p d port c in
      ap (λ stage. has_head stage (s.queue port c)) (sym (shown.stage port c inside few)) ∙ ap (has_head (stage_at r.stages d k)) (sym (shown.queue port c inside few))
      ∙ none k (place-below p d port c inside few)

  no-winner : (o : ℕ) → winner p d n s o ≡ None
  unfolding winner
  no-winner o =
      pick-none (input_count p d) (is_candidate p d n s o) (s.allocation o)
      (λ k k_in. and-false (nat_lt (input_channel p d k) (in_channels p d (input_port p d k))) (waits_for (s.stage (input_port p d k) (input_channel p d k)) o)
      (is_some (free_for p d n s o (input_port p d k) (input_channel p d k)))
      (waits-none (s.stage (input_port p d k) (input_channel p d k)) (s.queue (input_port p d k) (input_channel p d k)) o
      (input (input_port p d k) (input_channel p d k) (port-below p d k k_in) (channel-below p d k k_in))))

  none-taken : (o : ℕ) → taken_channel p d n s o ≡ None
  unfolding taken_channel
  none-taken o = ap (λ x. option_and_then (λ k. free_for p d n s o (input_port p d k) (input_channel p d k)) x) (no-winner o)

  pub placed-still : Shows r p d (placed p d n s)
  placed-still = record {
    queue = shown.queue;
    stage = λ port c port_in c_in. shown.stage port c port_in c_in ∙ sym (stage-still p d n port c s (s.stage port c) (input port c port_in c_in));
    pulse = shown.pulse;
    held = λ o w o_in w_in. shown.held o w o_in w_in ∙ or-false (s.held o w) ∙ ap (λ x. s.held o w || is_place x w) (sym (none-taken o));
    credits = shown.credits;
    allocation = λ o o_in. shown.allocation o o_in ∙ ap (λ x. after x (s.allocation o)) (sym (no-winner o));
    switch = shown.switch;
    turn = shown.turn;
    packet = shown.packet;
    current = shown.current;
    dropped = shown.dropped;
    ejected = shown.ejected;
  }
