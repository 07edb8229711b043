use Rattle.std.proofs.Common.{◌≡◌, ◌<◌, Bool, true, false, length, sym, subst, arith, ⊎_elim, ap, ◌∙◌, refl}
use Rattle.std.proofs.lemmas.List.{get_or_read}
use Rattle.std.proofs.lemmas.Bool.Decides.{eqb_tells}
use Rattle.noc_model.specs.Place.{neighbour}
use Rattle.cycle_sim.specs.Asleep.{is_awake, SendsNothing}
use Rattle.cycle_sim.proofs.Cycle.{either_way}
use Rattle.cycle_sim.proofs.wake.wake_near.Goals as goal

unlike : false ≡ true → ⊥
unlike e = cc e

pub loop-m-preserved : goal.loop-m-preserved
loop-m-preserved c =
    let m = c.loop-m.m in
    let olds = c.loop-m.awake.items in
    let inv = c.loop-m.invariant in
    let below : m < length olds = omega (arith, inv.count, c.tiles-m-end.ensures, c.loop-m-test.true) in
    let flag : c.index.result.now ≡ is_awake olds m = get_or_read olds _ _ below c.index.ensures false in
    record {
      count = c.wake_from_if.ensures.count;
      asleep = λ n down. inv.asleep n (c.wake_from_if.ensures.asleep n down);
      nothing = λ k n port less inside up linked down. ⊎_elim
          (λ same.
          let still : is_awake olds m ≡ true = either_way (is_awake olds m) (λ e. e) (λ e. absurd (unlike (sym (inv.asleep m e) ∙ ap (is_awake c.args.awake.now.items) (sym same.1) ∙ up))) in
          subst (λ j. SendsNothing c.args.plan.now c.args.rows.now c.args.pulses.now j port) (sym same.1)
          (c.wake_from_if.ensures.nothing (flag ∙ still) n port inside (ap (λ j. neighbour c.args.plan.now j port) (sym same.1) ∙ linked) down))
          (λ other. let apart = other.1 in inv.nothing k n port (grind (arith, less, apart)) inside up linked (c.wake_from_if.ensures.asleep n down))
          (eqb_tells k m);
    }

pub returns-clause-nothing : goal.returns-clause-nothing
returns-clause-nothing c = λ m n port there inside up linked down.
    c.loop-m.invariant.nothing m n port (omega (arith, there, c.tiles-m-end.ensures, c.loop-m-test.false)) inside up linked down
