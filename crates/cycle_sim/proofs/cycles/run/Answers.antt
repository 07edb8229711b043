use Rattle.std.proofs.Common.{◌≡◌, ◌<◌, ◌++◌, ℕ, List, length, sym, ap, ◌∙◌, subst, arith}
use Rattle.std.specs.Prelude.{filter, ◌==◌, slice_get, Some}
use Rattle.noc_model.specs.declared.Event.{Event}
use Rattle.noc_model.specs.declared.Host.{Host}
use Rattle.noc_model.specs.Plan.{Plan}
use Rattle.noc_model.specs.Sound.{IsSound}
use Rattle.noc_model.specs.Run.{start}
use Rattle.noc_model.specs.Driver.{Driver, driven_events, driven_state, driver_states}
use Rattle.cycle_sim.specs.Net.{Kept, Shows}
use Rattle.tile_drive.specs.SeenEvents.{events_seen}
use Rattle.cycle_sim.proofs.Turns.{HasStepped, turn, turn-events}
use Rattle.cycle_sim.proofs.cycles.run.Goals as goal

pub returns-in_err-push_seen-clause-states : goal.returns-in_err-push_seen-clause-states
returns-in_err-push_seen-clause-states g c =
    let p : Plan = c.args.net.now.plan in
    let v : Driver = g.D.Driving.driver c.args.drive.now in
    let first : ℕ → List ℕ = g.D.Driving.state c.args.drive.now in
    let ran = turn _ _ _ _ _ _ c.step.new.self _ (g.D.Driving.state c.step.new.drive) c.step.new.seen
    (subst IsSound c.plan.ensures c.known-2.ensures) c.loop-t.invariant.ran c.loop-t.invariant.driver
    (record {
      plan = c.step.ensures.plan;
      cycle = c.step.ensures.cycle;
      steps = c.step.ensures.steps;
      states_are = c.step.ensures.states;
      seen_are = c.step.ensures.seen;
    }) in
    subst (λ (k : ℕ). (d : ℕ) → d < length p.domains → Shows c.step.new.self d (driven_state p d v k 0 (start p) first)) (sym ran.cycle) ran.shows

pub returns-in_err-push_seen-clause-attached : goal.returns-in_err-push_seen-clause-attached
returns-in_err-push_seen-clause-attached g c =
    let p : Plan = c.args.net.now.plan in
    let v : Driver = g.D.Driving.driver c.args.drive.now in
    let first : ℕ → List ℕ = g.D.Driving.state c.args.drive.now in
    let ran = turn _ _ _ _ _ _ c.step.new.self _ (g.D.Driving.state c.step.new.drive) c.step.new.seen
    (subst IsSound c.plan.ensures c.known-2.ensures) c.loop-t.invariant.ran c.loop-t.invariant.driver
    (record {
      plan = c.step.ensures.plan;
      cycle = c.step.ensures.cycle;
      steps = c.step.ensures.steps;
      states_are = c.step.ensures.states;
      seen_are = c.step.ensures.seen;
    }) in
    subst (λ (k : ℕ). (j : ℕ) (h : Host) → slice_get p.hosts j ≡ Some h → g.D.Driving.state c.step.new.drive j ≡ driver_states p h.domain v k 0 (start p) first j)
    (sym ran.cycle) ran.attached

pub loop-t-preserved : goal.loop-t-preserved
loop-t-preserved g c =
    let p : Plan = c.args.net.now.plan in
    let t = c.loop-t.t in
    let net : Kept = c.loop-t.net in
    let inv = c.loop-t.invariant in
    let sound : IsSound p = subst IsSound c.plan.ensures c.known-2.ensures in
    let stepped : HasStepped net.plan (g.D.Driving.driver c.loop-t.drive) net.cycle net c.step.new.self (g.D.Driving.state c.loop-t.drive)
    (g.D.Driving.state c.step.new.drive) c.step.new.seen = record {
      plan = c.step.ensures.plan;
      cycle = c.step.ensures.cycle;
      steps = c.step.ensures.steps;
      states_are = c.step.ensures.states;
      seen_are = c.step.ensures.seen;
    } in
    let same : c.plan-in-loop-t.result.now ≡ p = c.plan-in-loop-t.ensures ∙ c.step.ensures.plan ∙ inv.ran.plan in
    record {
      ran = turn _ _ _ _ _ _ _ _ _ _ sound inv.ran inv.driver stepped;
      count = c.step.ensures.count ∙ inv.count;
      driver = c.step.ensures.driver ∙ inv.driver;
      seen_len = c.step.ensures.seen_len ∙ inv.seen_len;
      own = λ d less.
          ap (λ (es : List Event). filter (λ (e : Event). e.domain == d) es)
          (c.in_ok-push_seen.ensures.ok ∙ ap (λ (q : Plan). c.loop-t.events ++ events_seen t c.step.new.seen 0 q.hosts) same)
          ∙ turn-events _ _ _ _ _ d _ _ _ _ _ c.loop-t.events sound inv.ran inv.driver stepped (inv.own d less);
      follows = λ f later. c.in_ok-push_seen.ensures.follows f (omega arith);
    }

pub returns-clause-events : goal.returns-clause-events
returns-clause-events g c = λ d less.
    let p : Plan = c.args.net.now.plan in
    let end : c.loop-t.t ≡ c.args.cycles = omega arith in
    c.loop-t.invariant.own d less
    ∙ ap (λ n. driven_events p d (g.D.Driving.driver c.args.drive.now) n 0 (start p) (g.D.Driving.state c.args.drive.now)) end
