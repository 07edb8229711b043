use Rattle.std.proofs.Common.{◌≡◌, ap, ◌∙◌, arith, length}
use Rattle.noc_model.specs.Plan.{Plan, tiles}
use Rattle.noc_model.specs.Inputs.{input_count}
use Rattle.route_stage.proofs.Routes.{made-inputs, made-goes, still-inputs}
use Rattle.route_stage.proofs.tests.a_front_flit_routes_its_channel.Goals as goal

pub set-requires-clause-place : goal.set-requires-clause-place
set-requires-clause-place g c =
    let has =
    made-inputs c.in_ok-plan.plan _ c.in_ok-stages.stages _ c.in_ok-stages.ensures (c.deref-2.ensures.value ∙ c.in_ok-counts.ensures.value) in
    let e = c.in_ok-plan.ensures in
    let two : length c.in_ok-plan.plan.domains ≡ 2 = ap (λ (p : Plan). length p.domains) e in
    let three : input_count c.in_ok-plan.plan 1 ≡ 3 = ap (λ (p : Plan). input_count p 1) e in
    let at = has.inputs 1 (omega (arith, two)) in
    omega (arith, at, three)

pub step-requires-clause-fronts : goal.step-requires-clause-fronts
step-requires-clause-fronts g c =
    made-inputs c.in_ok-plan.plan _ c.in_ok-fronts.fronts _ c.in_ok-fronts.ensures (c.deref.ensures.value ∙ c.in_ok-counts.ensures.value)

pub step-requires-clause-stages : goal.step-requires-clause-stages
step-requires-clause-stages g c =
    let e = c.in_ok-plan.ensures in
    let two : length c.in_ok-plan.plan.domains ≡ 2 = ap (λ (p : Plan). length p.domains) e in
    rw c.set.ensures
    (still-inputs c.in_ok-plan.plan c.in_ok-stages.stages 1 0 _ (omega (arith, two))
    (made-inputs c.in_ok-plan.plan _ c.in_ok-stages.stages _ c.in_ok-stages.ensures (c.deref-2.ensures.value ∙ c.in_ok-counts.ensures.value)))

pub step-requires-clause-next : goal.step-requires-clause-next
step-requires-clause-next g c =
    made-inputs c.in_ok-plan.plan _ c.in_ok-next.next _ c.in_ok-next.ensures (c.deref-3.ensures.value ∙ c.in_ok-counts.ensures.value)

pub step-requires-clause-dest : goal.step-requires-clause-dest
step-requires-clause-dest g c =
    let two : tiles c.in_ok-plan.plan ≡ 2 = ap (λ (p : Plan). tiles p) c.in_ok-plan.ensures in
    made-goes c.in_ok-plan.plan _ c.in_ok-fronts.fronts _ c.in_ok-fronts.ensures (omega (arith, two))

pub at-requires-clause-place : goal.at-requires-clause-place
at-requires-clause-place g c =
    let e = c.in_ok-plan.ensures in
    let two : length c.in_ok-plan.plan.domains ≡ 2 = ap (λ (p : Plan). length p.domains) e in
    let three : input_count c.in_ok-plan.plan 0 ≡ 3 = ap (λ (p : Plan). input_count p 0) e in
    let at = c.step.ensures.inputs.inputs 0 (omega (arith, two)) in
    omega (arith, at, three)

pub at-requires-2-clause-place : goal.at-requires-2-clause-place
at-requires-2-clause-place g c =
    let e = c.in_ok-plan.ensures in
    let two : length c.in_ok-plan.plan.domains ≡ 2 = ap (λ (p : Plan). length p.domains) e in
    let three : input_count c.in_ok-plan.plan 1 ≡ 3 = ap (λ (p : Plan). input_count p 1) e in
    let at = c.step.ensures.inputs.inputs 1 (omega (arith, two)) in
    omega (arith, at, three)
