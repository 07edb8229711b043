use Rattle.std.proofs.Common.{◌≡◌, ◌<◌, ℕ, refl, false, Some, length, set, length-set, sym, ap, ◌∙◌, subst, arith, ⊎_elim}
use Rattle.std.specs.Prelude.{slice_get}
use Rattle.std.proofs.lemmas.List.{get_or_read}
use Rattle.std.proofs.lemmas.Bool.Decides.{eqb_tells}
use Rattle.std.proofs.lemmas.Option.{slice_get_read}
use Rattle.router_core.specs.declared.router.RouterOut.{RouterOut}
use Rattle.router_core.specs.Parts.{Parts}
use Rattle.cycle_sim.specs.Asleep.{is_awake, HasSlept}
use Rattle.cycle_sim.specs.TileCycle.{HasStepped}
use Rattle.cycle_sim.proofs.Written.{get-set_same, get-set_other, get-below, same-read}
use Rattle.cycle_sim.proofs.tiles.step_tiles.Goals as goal

pub step_or_sleep-requires-clause-router : goal.step_or_sleep-requires-clause-router
step_or_sleep-requires-clause-router c =
    let n = c.loop-n.n in
    let below : n < length c.loop-n.routers.items = omega (arith, c.loop-n.invariant.routers, c.tiles-n-end.ensures, c.loop-n-test.true) in
    let at = slice_get_read c.loop-n.routers.items (length c.loop-n.routers.items) n c.index_mut.result.now refl below c.index_mut.ensures.value in
    c.requires.router n c.index_mut.result.now (sym (c.loop-n.invariant.left n (omega arith)) ∙ at)

pub step_or_sleep-requires-clause-links : goal.step_or_sleep-requires-clause-links
step_or_sleep-requires-clause-links c =
    let n = c.loop-n.n in
    let below : n < length c.loop-n.outs.items = omega (arith, c.loop-n.invariant.outs, c.tiles-n-end.ensures, c.loop-n-test.true) in
    let at = slice_get_read c.loop-n.outs.items (length c.loop-n.outs.items) n c.index_mut-in-loop-n.result.now refl below c.index_mut-in-loop-n.ensures.value in
    c.loop-n.invariant.links n c.index_mut-in-loop-n.result.now at

pub step_or_sleep-requires-clause-may : goal.step_or_sleep-requires-clause-may
step_or_sleep-requires-clause-may c = λ up d there.
    let n = c.loop-n.n in
    let below : n < length c.loop-n.routers.items = omega (arith, c.loop-n.invariant.routers, c.tiles-n-end.ensures, c.loop-n-test.true) in
    let at = slice_get_read c.loop-n.routers.items (length c.loop-n.routers.items) n c.index_mut.result.now refl below c.index_mut.ensures.value in
    c.requires.may n d c.index_mut.result.now (sym (c.loop-n.invariant.left n (omega arith)) ∙ at) up there

pub loop-n-preserved : goal.loop-n-preserved
loop-n-preserved c =
    let n = c.loop-n.n in
    let p = c.args.plan.now in
    let t = c.args.cycle in
    let rows = c.args.rows.now in
    let pulses = c.args.pulses.now in
    let olds = c.loop-n.routers.items in
    let outs = c.loop-n.outs.items in
    let old : Parts = c.index_mut.result.now in
    let new : Parts = c.step_or_sleep.new.router in
    let sent : RouterOut = c.step_or_sleep.new.out in
    let below : n < length olds = omega (arith, c.loop-n.invariant.routers, c.tiles-n-end.ensures, c.loop-n-test.true) in
    let below' : n < length outs = omega (arith, c.loop-n.invariant.outs, c.tiles-n-end.ensures, c.loop-n-test.true) in
    let at = sym (c.loop-n.invariant.left n (omega arith)) ∙ slice_get_read olds (length olds) n old refl below c.index_mut.ensures.value in
    let old-is : (k : ℕ) (r : Parts) → k ≡ n → slice_get c.args.routers.now.items k ≡ Some r → old ≡ r =
    λ k r same was. same-read old r (sym at ∙ ap (slice_get c.args.routers.now.items) (sym same) ∙ was) in
    let new-is : (k : ℕ) (r : Parts) → k ≡ n → slice_get (set olds n new) k ≡ Some r → new ≡ r =
    λ k r same is. same-read new r (sym (get-set_same olds n new below) ∙ ap (slice_get (set olds n new)) (sym same) ∙ is) in
    let out-is : (k : ℕ) (r : RouterOut) → k ≡ n → slice_get (set outs n sent) k ≡ Some r → sent ≡ r =
    λ k r same is. same-read sent r (sym (get-set_same outs n sent below') ∙ ap (slice_get (set outs n sent)) (sym same) ∙ is) in
    record {
      routers = length-set olds n new ∙ c.loop-n.invariant.routers;
      outs = length-set outs n sent ∙ c.loop-n.invariant.outs;
      stepped = λ k r q out less was is gone up. ⊎_elim
          (λ same.
          subst (λ m. HasStepped p m t rows pulses r q out.links.items) (sym same.1)
          (subst (λ (z : Parts). HasStepped p n t rows pulses z q out.links.items) (old-is k r same.1 was)
          (subst (λ (z : Parts). HasStepped p n t rows pulses old z out.links.items) (new-is k q same.1 is)
          (subst (λ (z : RouterOut). HasStepped p n t rows pulses old new z.links.items) (out-is k out same.1 gone)
          (c.step_or_sleep.ensures.stepped (ap (is_awake c.args.awake.now) (sym same.1) ∙ up))))))
          (λ other.
          let apart = other.1 in
          c.loop-n.invariant.stepped k r q out (grind (arith, less, apart)) was (sym (get-set_other olds n k new apart) ∙ is)
          (sym (get-set_other outs n k sent apart) ∙ gone) up)
          (eqb_tells k n);
      slept = λ k r q less was is down. ⊎_elim
          (λ same.
          subst (λ m. HasSlept p m t r q) (sym same.1)
          (subst (λ (z : Parts). HasSlept p n t z q) (old-is k r same.1 was)
          (subst (λ (z : Parts). HasSlept p n t old z) (new-is k q same.1 is)
          (c.step_or_sleep.ensures.slept (ap (is_awake c.args.awake.now) (sym same.1) ∙ down)))))
          (λ other.
          let apart = other.1 in
          c.loop-n.invariant.slept k r q (grind (arith, less, apart)) was (sym (get-set_other olds n k new apart) ∙ is) down)
          (eqb_tells k n);
      links = λ k out gone. ⊎_elim
          (λ same. ap (λ (z : RouterOut). length z.links.items) (sym (out-is k out same.1 gone)) ∙ c.step_or_sleep.ensures.links)
          (λ other. c.loop-n.invariant.links k out (sym (get-set_other outs n k sent other.1) ∙ gone))
          (eqb_tells k n);
      left = λ k more. get-set_other olds n k new (λ e. absurd (omega (arith, more, e))) ∙ c.loop-n.invariant.left k (omega (arith, more));
    }

pub returns-clause-stepped : goal.returns-clause-stepped
returns-clause-stepped c = λ n r new out was is sent up.
    let below = get-below c.loop-n.routers.items n new is in
    c.loop-n.invariant.stepped n r new out (omega (arith, below, c.loop-n.invariant.routers, c.tiles-n-end.ensures, c.loop-n-test.false)) was is sent up

pub returns-clause-slept : goal.returns-clause-slept
returns-clause-slept c = λ n r new was is down.
    let below = get-below c.loop-n.routers.items n new is in
    c.loop-n.invariant.slept n r new (omega (arith, below, c.loop-n.invariant.routers, c.tiles-n-end.ensures, c.loop-n-test.false)) was is down
