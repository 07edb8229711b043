use Rattle.std.proofs.Common.{◌≡◌, ◌<◌, sym, subst, arith, ⊎_elim, ap, ◌∙◌}
use Rattle.std.proofs.lemmas.Bool.Decides.{eqb_tells}
use Rattle.noc_model.specs.Place.{neighbour}
use Rattle.cycle_sim.specs.Asleep.{SendsNothing}
use Rattle.cycle_sim.proofs.wake.wake_from.Goals as goal

pub loop-port-preserved : goal.loop-port-preserved
loop-port-preserved c = record {
  count = c.wake_by.ensures.count;
  asleep = λ n down. c.loop-port.invariant.asleep n (c.wake_by.ensures.asleep n down);
  nothing = λ n q less linked down. ⊎_elim
      (λ same.
      subst (SendsNothing c.args.plan.now c.args.rows.now c.args.pulses.now c.args.m) (sym same.1)
      (c.wake_by.ensures.nothing n (ap (neighbour c.args.plan.now c.args.m) (sym same.1) ∙ linked) down))
      (λ other. let apart = other.1 in c.loop-port.invariant.nothing n q (grind (arith, less, apart)) linked (c.wake_by.ensures.asleep n down))
      (eqb_tells q c.loop-port.port);
}

pub returns-clause-nothing : goal.returns-clause-nothing
returns-clause-nothing c = λ n port inside linked down.
    c.loop-port.invariant.nothing n port (omega (arith, inside, c.ports-port-end.ensures.value, c.loop-port-test.false)) linked down
