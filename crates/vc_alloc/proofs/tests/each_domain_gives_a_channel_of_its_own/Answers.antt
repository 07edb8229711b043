use Rattle.std.proofs.Common.{◌<◌, arith, ◌∙◌}
use Rattle.noc_model.specs.Plan.{ports}
use Rattle.vc_alloc.proofs.Filled.{filled-inputs, filled-goes, two-domains, two-inputs}
use Rattle.vc_alloc.proofs.tests.each_domain_gives_a_channel_of_its_own.Goals as goal

pub step-requires-clause-inputs : goal.step-requires-clause-inputs
step-requires-clause-inputs g c =
    filled-inputs c.in_ok-plan.plan _ c.deref.result.now c.in_ok-stages.stages c.in_ok-stages.ensures (c.deref.ensures.value ∙ c.in_ok-counts.ensures.value)

pub step-requires-clause-outs : goal.step-requires-clause-outs
step-requires-clause-outs g c = λ d k there.
    let three = (two-domains c.in_ok-plan.plan c.in_ok-plan.ensures).1 in
    let goes : 1 < ports c.in_ok-plan.plan = omega (arith, three) in
    filled-goes c.in_ok-plan.plan _ c.deref.result.now c.in_ok-stages.stages c.in_ok-stages.ensures (c.deref.ensures.value ∙ c.in_ok-counts.ensures.value) d k there goes

pub step-requires-clause-places : goal.step-requires-clause-places
step-requires-clause-places g c =
    filled-inputs c.in_ok-plan.plan _ c.deref-2.result.now c.in_ok-next.next c.in_ok-next.ensures (c.deref-2.ensures.value ∙ c.in_ok-counts.ensures.value)

pub at-requires-clause-place : goal.at-requires-clause-place
at-requires-clause-place g c =
    let two = two-domains c.in_ok-plan.plan c.in_ok-plan.ensures in
    let has = c.step.ensures.places 0 (omega (arith, two.0)) in
    let many = two-inputs c.in_ok-plan.plan c.in_ok-plan.ensures in
    omega (arith, has, many.0)

pub at-requires-2-clause-place : goal.at-requires-2-clause-place
at-requires-2-clause-place g c =
    let two = two-domains c.in_ok-plan.plan c.in_ok-plan.ensures in
    let has = c.step.ensures.places 0 (omega (arith, two.0)) in
    let many = two-inputs c.in_ok-plan.plan c.in_ok-plan.ensures in
    omega (arith, has, many.0)

pub at-requires-3-clause-place : goal.at-requires-3-clause-place
at-requires-3-clause-place g c =
    let two = two-domains c.in_ok-plan.plan c.in_ok-plan.ensures in
    let has = c.step.ensures.places 1 (omega (arith, two.0)) in
    let many = two-inputs c.in_ok-plan.plan c.in_ok-plan.ensures in
    omega (arith, has, many.1)
