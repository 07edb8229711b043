use Rattle.std.proofs.Common.{length, arith, ap, ◌∙◌, sym}
use Rattle.std.specs.Prelude.{slice_get}
use Rattle.noc_model.specs.declared.Stage.TheVariants.{Active}
use Rattle.noc_model.specs.Plan.{ports}
use Rattle.noc_model.specs.Inputs.{input_count}
use Rattle.wave_sched.proofs.Standing.{wheel_ports-is}
use Rattle.slot_switch.proofs.Filled.{filled-is, filled-places, filled-lane, filled-get, two-channels, two-routed, two-domains}
use Rattle.slot_switch.proofs.tests.the_owner_of_the_slot_is_granted.Goals as goal

pub step-requires-clause-wheel : goal.step-requires-clause-wheel
step-requires-clause-wheel g c = wheel_ports-is c.in_ok-wheel.wheel c.in_ok-plan.plan 0 0 c.in_ok-wheel.ensures

pub step-requires-clause-stages : goal.step-requires-clause-stages
step-requires-clause-stages g c = λ d there.
    filled-places _ (input_count c.in_ok-plan.plan) (length c.in_ok-plan.plan.domains) c.deref.result.now c.in_ok-stages.stages d c.in_ok-stages.ensures
    (c.deref.ensures.value ∙ c.in_ok-inputs.ensures.value) there

pub step-requires-clause-fronts : goal.step-requires-clause-fronts
step-requires-clause-fronts g c = λ d there.
    filled-places _ (input_count c.in_ok-plan.plan) (length c.in_ok-plan.plan.domains) c.deref-2.result.now c.in_ok-fronts.fronts d c.in_ok-fronts.ensures
    (c.deref-2.ensures.value ∙ c.in_ok-inputs.ensures.value) there

pub step-requires-clause-credits : goal.step-requires-clause-credits
step-requires-clause-credits g c = λ d there.
    filled-places _ (input_count c.in_ok-plan.plan) (length c.in_ok-plan.plan.domains) c.deref-3.result.now c.in_ok-credits.credits d c.in_ok-credits.ensures
    (c.deref-3.ensures.value ∙ c.in_ok-inputs.ensures.value) there

pub step-requires-clause-grants : goal.step-requires-clause-grants
step-requires-clause-grants g c = λ d there.
    filled-places _ (λ e. ports c.in_ok-plan.plan) (length c.in_ok-plan.plan.domains) c.deref-4.result.now c.in_ok-grants.grants d c.in_ok-grants.ensures
    (c.deref-4.ensures.value ∙ c.in_ok-ports.ensures.value) there

pub step-requires-clause-routed : goal.step-requires-clause-routed
step-requires-clause-routed g c = λ d there k o w at.
    let p = c.in_ok-plan.plan in
    let is =
    filled-is _ (input_count p) (length p.domains) c.deref.result.now c.in_ok-stages.stages c.in_ok-stages.ensures (c.deref.ensures.value ∙ c.in_ok-inputs.ensures.value) in
    let same = filled-get (input_count p d) k (Active 1 0) (Active o w)
    (sym (ap (λ l. slice_get l k) (filled-lane _ (input_count p) (length p.domains) c.in_ok-stages.stages d is there)) ∙ at) in
    two-routed p d o w (two-channels p c.in_ok-plan.ensures d there) same

pub at-requires-clause-lane : goal.at-requires-clause-lane
at-requires-clause-lane g c =
    let two = two-domains c.in_ok-plan.plan c.in_ok-plan.ensures in
    let has = c.step.ensures.grants 0 (omega (arith, two.0)) in
    has.0

pub at-requires-clause-place : goal.at-requires-clause-place
at-requires-clause-place g c =
    let two = two-domains c.in_ok-plan.plan c.in_ok-plan.ensures in
    let has = c.step.ensures.grants 0 (omega (arith, two.0)) in
    omega (arith, has.1, two.1)

pub at-requires-2-clause-place : goal.at-requires-2-clause-place
at-requires-2-clause-place g c =
    let two = two-domains c.in_ok-plan.plan c.in_ok-plan.ensures in
    let has = c.step.ensures.grants 0 (omega (arith, two.0)) in
    omega (arith, has.1, two.1)

pub at-requires-3-clause-lane : goal.at-requires-3-clause-lane
at-requires-3-clause-lane g c =
    let two = two-domains c.in_ok-plan.plan c.in_ok-plan.ensures in
    let has = c.step.ensures.grants 1 (omega (arith, two.0)) in
    has.0

pub at-requires-3-clause-place : goal.at-requires-3-clause-place
at-requires-3-clause-place g c =
    let two = two-domains c.in_ok-plan.plan c.in_ok-plan.ensures in
    let has = c.step.ensures.grants 1 (omega (arith, two.0)) in
    omega (arith, has.1, two.1)
