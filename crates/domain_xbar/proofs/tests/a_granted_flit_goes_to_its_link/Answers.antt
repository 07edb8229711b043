use Rattle.std.proofs.Common.{length, arith, ◌∙◌, None}
use Rattle.noc_model.specs.Plan.{ports}
use Rattle.noc_model.specs.Inputs.{input_count}
use Rattle.domain_xbar.proofs.Filled.{filled-places, put-places, is-one, one-single, one-within, two-domains}
use Rattle.domain_xbar.proofs.tests.a_granted_flit_goes_to_its_link.Goals as goal

pub set-requires-clause-lane : goal.set-requires-clause-lane
set-requires-clause-lane g c =
    let p = c.in_ok-plan.plan in
    let two = two-domains p c.in_ok-plan.ensures in
    let has = filled-places None (λ e. ports p) (length p.domains) c.deref-2.result.now c.in_ok-grants.grants 1 c.in_ok-grants.ensures
    (c.deref-2.ensures.value ∙ c.in_ok-ports.ensures.value) (omega (arith, two.0)) in
    has.0

pub set-requires-clause-place : goal.set-requires-clause-place
set-requires-clause-place g c =
    let p = c.in_ok-plan.plan in
    let two = two-domains p c.in_ok-plan.ensures in
    let has = filled-places None (λ e. ports p) (length p.domains) c.deref-2.result.now c.in_ok-grants.grants 1 c.in_ok-grants.ensures
    (c.deref-2.ensures.value ∙ c.in_ok-ports.ensures.value) (omega (arith, two.0)) in
    omega (arith, has.1, two.1)

pub step-requires-clause-grants : goal.step-requires-clause-grants
step-requires-clause-grants g c = λ d there.
    let p = c.in_ok-plan.plan in
    let two = two-domains p c.in_ok-plan.ensures in
    let own = filled-places None (λ e. ports p) (length p.domains) c.deref-2.result.now c.in_ok-grants.grants 1 c.in_ok-grants.ensures
    (c.deref-2.ensures.value ∙ c.in_ok-ports.ensures.value) (omega (arith, two.0)) in
    let has = filled-places None (λ e. ports p) (length p.domains) c.deref-2.result.now c.in_ok-grants.grants d c.in_ok-grants.ensures
    (c.deref-2.ensures.value ∙ c.in_ok-ports.ensures.value) there in
    put-places c.in_ok-grants.grants c.set.new.self 1 0 d (ports p) _ c.set.ensures own.0 has

pub step-requires-clause-fronts : goal.step-requires-clause-fronts
step-requires-clause-fronts g c = λ d there.
    let p = c.in_ok-plan.plan in
    filled-places _ (input_count p) (length p.domains) c.deref.result.now c.in_ok-fronts.fronts d c.in_ok-fronts.ensures
    (c.deref.ensures.value ∙ c.in_ok-inputs.ensures.value) there

pub step-requires-clause-within : goal.step-requires-clause-within
step-requires-clause-within g c =
    let p = c.in_ok-plan.plan in
    let two = two-domains p c.in_ok-plan.ensures in
    let own = filled-places None (λ e. ports p) (length p.domains) c.deref-2.result.now c.in_ok-grants.grants 1 c.in_ok-grants.ensures
    (c.deref-2.ensures.value ∙ c.in_ok-ports.ensures.value) (omega (arith, two.0)) in
    let one =
    is-one c.deref-2.result.now c.in_ok-grants.grants c.set.new.self 1 0 _ c.in_ok-grants.ensures c.set.ensures own.0 (omega (arith, own.1, two.1)) in
    one-within p c.set.new.self 1 0 _ one (omega (arith, two.1)) (omega (arith, two.2))

pub step-requires-clause-single : goal.step-requires-clause-single
step-requires-clause-single g c =
    let p = c.in_ok-plan.plan in
    let two = two-domains p c.in_ok-plan.ensures in
    let own = filled-places None (λ e. ports p) (length p.domains) c.deref-2.result.now c.in_ok-grants.grants 1 c.in_ok-grants.ensures
    (c.deref-2.ensures.value ∙ c.in_ok-ports.ensures.value) (omega (arith, two.0)) in
    let one =
    is-one c.deref-2.result.now c.in_ok-grants.grants c.set.new.self 1 0 _ c.in_ok-grants.ensures c.set.ensures own.0 (omega (arith, own.1, two.1)) in
    one-single p c.set.new.self 1 0 _ one
