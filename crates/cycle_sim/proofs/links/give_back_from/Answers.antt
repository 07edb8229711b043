use Rattle.std.proofs.Common.{sym, ap, ◌∙◌, subst, arith, ⊎_elim}
use Rattle.std.proofs.lemmas.Bool.Decides.{eqb_tells}
use Rattle.router_core.specs.Parts.{Parts}
use Rattle.router_core.specs.Shown.{Shows}
use Rattle.cycle_sim.specs.Links.{credit_at, returned}
use Rattle.cycle_sim.proofs.Numbers.{credit-port}
use Rattle.cycle_sim.proofs.Comings.{with_credits, mirror, mirror-shows}
use Rattle.cycle_sim.proofs.links.give_back_from.Goals as goal

pub loop-d-init : goal.loop-d-init
loop-d-init c = record {
  rest = λ i. c.args.router.now;
  made = c.requires.made;
  done = λ e s less shown. absurd (omega arith);
  left = λ e s more shown. shown;
}

pub give_back_at-requires-clause-made : goal.give_back_at-requires-clause-made
give_back_at-requires-clause-made c = c.loop-d.invariant.made

pub give_back_at-requires-clause-room : goal.give_back_at-requires-clause-room
give_back_at-requires-clause-room c = λ w here.
    let p = c.args.plan.now in
    let d = c.loop-d.d in
    let port = c.args.port in
    let room = c.requires.room d w (omega (arith, c.domains-d-end.ensures, c.loop-d-test.true)) here in
    let shown = c.loop-d.invariant.left d (mirror c.args.router.now p d) (omega arith) (mirror-shows c.args.router.now p d) in
    let same = shown.credits port w (credit-port p d c.args.tile c.args.pulses.now port w here) c.requires.port room.0 in
    (room.0, let few = room.1 in omega (arith, few, same))

pub loop-d-preserved : goal.loop-d-preserved
loop-d-preserved c =
    let p = c.args.plan.now in
    let d = c.loop-d.d in
    let port = c.args.port in
    let new = c.give_back_at.new.router in
    record {
      rest = c.give_back_at.ensures.rest ∙ ap (λ (r : Parts). with_credits r new.credits) c.loop-d.invariant.rest;
      made = c.give_back_at.ensures.made;
      done = λ e s less shown. ⊎_elim
          (λ same. subst (λ k. Shows new p k (returned port (credit_at p k c.args.tile c.args.pulses.now port) s)) (sym same.1)
          (c.give_back_at.ensures.own s (c.loop-d.invariant.left d s (omega arith) (subst (λ k. Shows c.args.router.now p k s) same.1 shown))))
          (λ other. let apart = other.1 in c.give_back_at.ensures.others e (returned port (credit_at p e c.args.tile c.args.pulses.now port) s) apart (c.loop-d.invariant.done e s (grind (arith, less, apart)) shown))
          (eqb_tells e d);
      left = λ e s more shown. c.give_back_at.ensures.others e s (λ same. absurd (omega (arith, more, same))) (c.loop-d.invariant.left e s (omega (arith, more)) shown);
    }

pub returns-clause-shows : goal.returns-clause-shows
returns-clause-shows c = λ d s there shown.
    c.loop-d.invariant.done d s (omega (arith, there, c.domains-d-end.ensures, c.loop-d-test.false)) shown
