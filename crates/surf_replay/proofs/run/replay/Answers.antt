use Rattle.std.proofs.Common.{◌≡◌, ℕ, ◌+◌, ◌-◌, ◌<◌, ◌≤◌, List, [], ◌∷◌, ◌++◌, length, refl, sym, ◌∙◌, ap, subst, arith}
use Rattle.std.specs.Prelude.{Some, None, slice_get, filter, ◌==◌}
use Rattle.std.proofs.lemmas.Option.{none-some}
use Rattle.std.proofs.lemmas.List.Elements.{filter-append}
use Rattle.vl_tree.specs.Values.{Design}
use Rattle.vl_tree.specs.Read.{read_design}
use Rattle.vl_rules.specs.Answer.{design_of}
use Rattle.vl_model.specs.Settle.{inside_reset}
use Rattle.noc_model.specs.declared.Event.{Event}
use Rattle.noc_model.specs.Plan.{Plan}
use Rattle.noc_model.specs.Driver.{Driver}
use Rattle.tile_drive.specs.SeenEvents.{events_seen}
use Rattle.tile_drive.specs.Order.{MayFollow, IsNotAfter}
use Rattle.gen_kit.specs.Replayed.{Going, at_start, going_next, nets_in, text_events, replayed, states_after}
use Rattle.vl_run.specs.Running.{running}
use Rattle.vl_run.specs.Stands.{Running, Stands}
use Rattle.surf_replay.specs.Going.{IsGoing}
use Rattle.surf_replay.proofs.Cycles.{gone, next-gone, next-replayed, states-gone, ports-are}
use Rattle.surf_replay.proofs.run.replay.Goals as goal

pub loop-t-init : goal.loop-t-init
loop-t-init g c =
    let p : Plan = c.args.plan.now in
    let d : Design = read_design (design_of c.args.sound) in
    let m : Running = running c.in_ok-machine.machine in
    let same : m.design ≡ d = c.in_ok-machine.ensures.design in
    record {
      design = same;
      going = record {
        stands = subst (λ (z : Design). Stands m (inside_reset z.leaves z.top.items (λ i n k. 0))) same c.in_ok-machine.ensures.reset;
        ports = ap (λ (z : Design). z.top.ports) same ∙ ports-are p d c.requires.fit;
        attached = refl;
      };
      count = refl;
      driver = refl;
      seen_len = c.in_ok-seen.ensures.count;
      own = λ k less. ap (filter (λ (e : Event). e.domain == k)) c.new-events.ensures;
      follows = λ f le x at. absurd (none-some x (ap (λ (es : List Event). slice_get es (length c.new-events.result - 1)) (sym c.new-events.ensures) ∙ at));
    }

pub loop-t-preserved : goal.loop-t-preserved
loop-t-preserved g c =
    let p : Plan = c.args.plan.now in
    let d : Design = read_design (design_of c.args.sound) in
    let v : Driver = g.D.Driving.driver c.args.drive.now in
    let start : Going = at_start d (g.D.Driving.state c.args.drive.now) in
    let t : ℕ = c.loop-t.t in
    let i = c.loop-t.invariant in
    let now' : Going = gone p d v t 0 start in
    let next : IsGoing (running c.one_cycle.new.machine) p (g.D.Driving.state c.one_cycle.new.drive) (going_next p (running c.loop-t.machine).design (g.D.Driving.driver c.loop-t.drive) t now') =
    c.in_ok-one_cycle.ensures.goes now' i.going in
    record {
      design = c.one_cycle.ensures.design ∙ i.design;
      going = subst (IsGoing (running c.one_cycle.new.machine) p (g.D.Driving.state c.one_cycle.new.drive))
          (ap (λ (z : Design). going_next p z (g.D.Driving.driver c.loop-t.drive) t now') i.design ∙ ap (λ (w : Driver). going_next p d w t now') i.driver ∙ next-gone p d v t start) next;
      count = c.one_cycle.ensures.count ∙ i.count;
      driver = c.one_cycle.ensures.driver ∙ i.driver;
      seen_len = c.one_cycle.ensures.seen_len ∙ i.seen_len;
      own = λ k less.
          ap (filter (λ (e : Event). e.domain == k)) c.in_ok-push_seen.ensures.ok
          ∙ filter-append (λ (e : Event). e.domain == k) c.loop-t.events (events_seen t c.one_cycle.new.seen 0 p.hosts)
          ∙ ap (λ (es : List Event). es ++ filter (λ (e : Event). e.domain == k) (events_seen t c.one_cycle.new.seen 0 p.hosts)) (i.own k less)
          ∙ ap (λ (es : List Event). replayed p d v k t 0 start ++ es)
          (c.in_ok-one_cycle.ensures.events now' i.going k ∙ ap (λ (z : Design). text_events p k t (nets_in p z (g.D.Driving.driver c.loop-t.drive) t now')) i.design
          ∙ ap (λ (w : Driver). text_events p k t (nets_in p d w t now')) i.driver)
          ∙ next-replayed p d v k t start;
      follows = λ f le. c.in_ok-push_seen.ensures.follows f (omega arith);
    }

pub returns-clause-states : goal.returns-clause-states
returns-clause-states g c =
    let p : Plan = c.args.plan.now in
    let d : Design = read_design (design_of c.args.sound) in
    let v : Driver = g.D.Driving.driver c.args.drive.now in
    let start : Going = at_start d (g.D.Driving.state c.args.drive.now) in
    let all : c.loop-t.t ≡ c.args.cycles = omega arith in
    c.loop-t.invariant.going.attached ∙ ap (λ (n : ℕ). (gone p d v n 0 start).states) all
    ∙ sym (states-gone p d v c.args.cycles 0 start)

pub returns-clause-events : goal.returns-clause-events
returns-clause-events g c = λ k less. (
    let p : Plan = c.args.plan.now in
    let d : Design = read_design (design_of c.args.sound) in
    let v : Driver = g.D.Driving.driver c.args.drive.now in
    let start : Going = at_start d (g.D.Driving.state c.args.drive.now) in
    let all : c.loop-t.t ≡ c.args.cycles = omega arith in
    c.loop-t.invariant.own k less ∙ ap (λ (n : ℕ). replayed p d v k n 0 start) all)

pub returns-clause-whole : goal.returns-clause-whole
returns-clause-whole g c = (c.args.cycles, omega arith, returns-clause-states g c)

pub returns-in_err-one_cycle-clause-whole : goal.returns-in_err-one_cycle-clause-whole
returns-in_err-one_cycle-clause-whole g c =
    let p : Plan = c.args.plan.now in
    let d : Design = read_design (design_of c.args.sound) in
    let v : Driver = g.D.Driving.driver c.args.drive.now in
    let start : Going = at_start d (g.D.Driving.state c.args.drive.now) in
    let t : ℕ = c.loop-t.t in
    (t, omega arith, c.in_err-one_cycle.ensures.refused ∙ c.loop-t.invariant.going.attached ∙ sym (states-gone p d v t 0 start))

pub returns-in_err-push_seen-clause-whole : goal.returns-in_err-push_seen-clause-whole
returns-in_err-push_seen-clause-whole g c =
    let p : Plan = c.args.plan.now in
    let d : Design = read_design (design_of c.args.sound) in
    let v : Driver = g.D.Driving.driver c.args.drive.now in
    let start : Going = at_start d (g.D.Driving.state c.args.drive.now) in
    let t : ℕ = c.loop-t.t in
    let i = c.loop-t.invariant in
    let now' : Going = gone p d v t 0 start in
    let next = c.in_ok-one_cycle.ensures.goes now' i.going in (
      t + 1,
      omega arith,
      next.attached
          ∙ ap (λ (q : Going). q.states) (ap (λ (z : Design). going_next p z (g.D.Driving.driver c.loop-t.drive) t now') i.design ∙ ap (λ (w : Driver). going_next p d w t now') i.driver ∙ next-gone p d v t start)
          ∙ sym (states-gone p d v (t + 1) 0 start),
    )
