use Rattle.std.proofs.Common.{◌≡◌, ◌<◌, length, sym, ap, ◌∙◌, subst, arith}
use Rattle.noc_model.specs.Plan.{ports}
use Rattle.wave_sched.specs.Wheels.{Stands}
use Rattle.router_core.specs.Parts.{Parts}
use Rattle.router_core.specs.Shown.{Shows}
use Rattle.cycle_sim.specs.Links.{arrival_at, received}
use Rattle.cycle_sim.proofs.Comings.{with_buffers, received-first, received-next, received-ahead, past}
use Rattle.cycle_sim.proofs.links.receive.Goals as goal

pub loop-port-init : goal.loop-port-init
loop-port-init c = record {
  within = omega arith;
  rest = λ i. c.args.router.now;
  made = c.requires.made;
  shows = λ d s there shown. received-first c.args.router.now c.args.plan.now d (arrival_at c.args.plan.now d c.args.tile c.args.cycle c.args.rows.now) s shown;
}

pub receive_at-requires-clause-port : goal.receive_at-requires-clause-port
receive_at-requires-clause-port c = let e = c.ports-port-end.ensures.value in omega (arith, e, c.loop-port-test.true)

pub receive_at-requires-clause-made : goal.receive_at-requires-clause-made
receive_at-requires-clause-made c = c.loop-port.invariant.made

pub receive_at-requires-clause-stands : goal.receive_at-requires-clause-stands
receive_at-requires-clause-stands c =
    subst (λ (r : Parts). Stands r.wheel c.args.plan.now c.args.tile c.args.cycle) (sym c.loop-port.invariant.rest) c.requires.stands

pub receive_at-requires-clause-room : goal.receive_at-requires-clause-room
receive_at-requires-clause-room c = λ d x there here.
    let p = c.args.plan.now in
    let k = c.loop-port.port in
    let room = c.requires.room d k x there here in
    let e = c.ports-port-end.ensures.value in
    let inside : k < ports p = omega (arith, e, c.loop-port-test.true) in
    let same = received-ahead c.args.router.now c.loop-port.router p d k k x.channel (arrival_at p d c.args.tile c.args.cycle c.args.rows.now) inside room.0 (past k)
    (λ s shown. c.loop-port.invariant.shows d s there shown) in
    (room.0, let few = room.1 in omega (arith, few, ap length same))

pub loop-port-preserved : goal.loop-port-preserved
loop-port-preserved c =
    let p = c.args.plan.now in
    let k = c.loop-port.port in
    record {
      within = let e = c.ports-port-end.ensures.value in omega (arith, e, c.loop-port-test.true);
      rest = c.receive_at.ensures.rest ∙ ap (λ (r : Parts). with_buffers r c.receive_at.new.router.buffers) c.loop-port.invariant.rest;
      made = c.receive_at.ensures.made;
      shows = λ d s there shown.
          (let x = arrival_at p d c.args.tile c.args.cycle c.args.rows.now in
          received-next c.receive_at.new.router p d k x s (c.receive_at.ensures.shows d (received x k s) there (c.loop-port.invariant.shows d s there shown)));
    }

pub returns-clause-shows : goal.returns-clause-shows
returns-clause-shows c = λ d s there shown.
    let p = c.args.plan.now in
    let e = c.ports-port-end.ensures.value in
    let end : c.loop-port.port ≡ ports p = omega (arith, e, c.loop-port-test.false, c.loop-port.invariant.within) in
    subst (λ k. Shows c.loop-port.router p d (received (arrival_at p d c.args.tile c.args.cycle c.args.rows.now) k s)) end (c.loop-port.invariant.shows d s there shown)
