use Rattle.std.proofs.Common.{◌≡◌, ◌<◌, ap, ◌∙◌, subst, arith}
use Rattle.noc_model.specs.Plan.{ports}
use Rattle.router_core.specs.Parts.{Parts}
use Rattle.router_core.specs.Shown.{Shows}
use Rattle.cycle_sim.specs.Links.{credit_at, repaid}
use Rattle.cycle_sim.proofs.Numbers.{credit-port}
use Rattle.cycle_sim.proofs.Comings.{with_credits, repaid-first, repaid-next, repaid-ahead, past}
use Rattle.cycle_sim.proofs.links.give_back.Goals as goal

pub loop-port-init : goal.loop-port-init
loop-port-init c = record {
  within = omega arith;
  rest = λ i. c.args.router.now;
  made = c.requires.made;
  shows = λ d s there shown. repaid-first c.args.router.now c.args.plan.now d (credit_at c.args.plan.now d c.args.tile c.args.pulses.now) s shown;
}

pub give_back_by-requires-clause-port : goal.give_back_by-requires-clause-port
give_back_by-requires-clause-port c = let e = c.ports-port-end.ensures.value in omega (arith, e, c.loop-port-test.true)

pub give_back_by-requires-clause-made : goal.give_back_by-requires-clause-made
give_back_by-requires-clause-made c = c.loop-port.invariant.made

pub give_back_by-requires-clause-room : goal.give_back_by-requires-clause-room
give_back_by-requires-clause-room c = λ d w there here.
    let p = c.args.plan.now in
    let k = c.loop-port.port in
    let e = c.ports-port-end.ensures.value in
    let inside : k < ports p = omega (arith, e, c.loop-port-test.true) in
    let room = c.requires.room d k w there inside here in
    let same = repaid-ahead c.args.router.now c.loop-port.router p d k k w (credit_at p d c.args.tile c.args.pulses.now)
    (credit-port p d c.args.tile c.args.pulses.now k w here) inside room.0 (past k) (λ s shown. c.loop-port.invariant.shows d s there shown) in
    (room.0, let few = room.1 in omega (arith, few, same))

pub loop-port-preserved : goal.loop-port-preserved
loop-port-preserved c =
    let p = c.args.plan.now in
    let k = c.loop-port.port in
    record {
      within = let e = c.ports-port-end.ensures.value in omega (arith, e, c.loop-port-test.true);
      rest = c.give_back_by.ensures.rest ∙ ap (λ (r : Parts). with_credits r c.give_back_by.new.router.credits) c.loop-port.invariant.rest;
      made = c.give_back_by.ensures.made;
      shows = λ d s there shown.
          (let x = credit_at p d c.args.tile c.args.pulses.now in
          repaid-next c.give_back_by.new.router p d k x s (c.give_back_by.ensures.shows d (repaid x k s) there (c.loop-port.invariant.shows d s there shown)));
    }

pub returns-clause-shows : goal.returns-clause-shows
returns-clause-shows c = λ d s there shown.
    let p = c.args.plan.now in
    let e = c.ports-port-end.ensures.value in
    let end : c.loop-port.port ≡ ports p = omega (arith, e, c.loop-port-test.false, c.loop-port.invariant.within) in
    subst (λ k. Shows c.loop-port.router p d (repaid (credit_at p d c.args.tile c.args.pulses.now) k s)) end (c.loop-port.invariant.shows d s there shown)
