use Rattle.std.proofs.Common.{◌≡◌, ◌<◌, length, set, length-set, get_or-set_same, get_or-set_other, refl, false, sym, ap, ◌∙◌, subst, arith, ⊎_elim}
use Rattle.std.specs.Prelude.{slice_get}
use Rattle.std.proofs.lemmas.List.{get_or_read}
use Rattle.std.proofs.lemmas.Option.{slice_get_read}
use Rattle.std.proofs.lemmas.Bool.Decides.{eqb_tells}
use Rattle.router_core.specs.Parts.{Parts}
use Rattle.cycle_sim.specs.Asleep.{is_awake, IsAsleep}
use Rattle.cycle_sim.proofs.Written.{same-read}
use Rattle.cycle_sim.proofs.wake.sleep_quiet.Goals as goal

pub stays_awake-requires-clause-made : goal.stays_awake-requires-clause-made
stays_awake-requires-clause-made c =
    let n = c.loop-n.n in
    let below : n < length c.args.routers.now = omega (arith, c.requires.routers, c.tiles-n-end.ensures, c.loop-n-test.true) in
    c.requires.made n c.index-routers-n.result (slice_get_read c.args.routers.now (length c.args.routers.now) n c.index-routers-n.result refl below c.index-routers-n.is)

pub stays_awake-requires-clause-asleep : goal.stays_awake-requires-clause-asleep
stays_awake-requires-clause-asleep c = λ down.
    let n = c.loop-n.n in
    let olds = c.loop-n.awake.items in
    let below : n < length c.args.routers.now = omega (arith, c.requires.routers, c.tiles-n-end.ensures, c.loop-n-test.true) in
    let at = slice_get_read c.args.routers.now (length c.args.routers.now) n c.index-routers-n.result refl below c.index-routers-n.is in
    let in_flags : n < length olds = omega (arith, c.loop-n.invariant.count, c.tiles-n-end.ensures, c.loop-n-test.true) in
    let flag : c.index.result.now ≡ is_awake olds n = get_or_read olds _ _ in_flags c.index.ensures false in
    c.loop-n.invariant.each n c.index-routers-n.result at (sym flag ∙ down)

pub loop-n-preserved : goal.loop-n-preserved
loop-n-preserved c =
    let n = c.loop-n.n in
    let p = c.args.plan.now in
    let rows = c.args.rows.now in
    let pulses = c.args.pulses.now in
    let olds = c.loop-n.awake.items in
    let x = c.stays_awake.result in
    let below : n < length c.args.routers.now = omega (arith, c.requires.routers, c.tiles-n-end.ensures, c.loop-n-test.true) in
    let at = slice_get_read c.args.routers.now (length c.args.routers.now) n c.index-routers-n.result refl below c.index-routers-n.is in
    let in_flags : n < length olds = omega (arith, c.loop-n.invariant.count, c.tiles-n-end.ensures, c.loop-n-test.true) in
    record {
      count = length-set olds n x ∙ c.loop-n.invariant.count;
      each = λ k r is down. ⊎_elim
          (λ same.
          let r_is : c.index-routers-n.result ≡ r = same-read c.index-routers-n.result r (sym at ∙ ap (slice_get c.args.routers.now) (sym same.1) ∙ is) in
          subst (λ j. IsAsleep p j r rows pulses) (sym same.1)
          (subst (λ (z : Parts). IsAsleep p n z rows pulses) r_is
          (c.stays_awake.ensures (sym (ap (is_awake (set olds n x)) same.1 ∙ get_or-set_same olds n x false in_flags) ∙ down))))
          (λ other. c.loop-n.invariant.each k r is (sym (get_or-set_other olds n k x false other.1) ∙ down))
          (eqb_tells k n);
    }
