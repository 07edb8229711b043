use Rattle.std.proofs.Common.{◌≡◌, ℕ, ◌-◌, [], ◌∷◌, ◌++◌, ◌∙◌, ap, sym, subst}
use Rattle.label_audit.specs.Whole.{phase_in, next_in}
use Rattle.label_audit.specs.Walks.{phase_at, AreFirst}
use Rattle.label_audit.proofs.Walks.{first-one, first-more}
use Rattle.label_audit.proofs.walk.first_phases.Goals as goal

pub loop-f-init : goal.loop-f-init
loop-f-init c =
    let p = c.in_ok-first.field-0 in
    subst (AreFirst c.args.shape.now 1) (sym (c.in_ok-push.ensures.items ∙ ap (λ z. z ++ p ∷ []) c.new-phases.ensures.items)) (first-one c.args.shape.now c.requires.shape p c.in_ok-first.ensures)

pub loop-f-preserved : goal.loop-f-preserved
loop-f-preserved c =
    let s = c.args.shape.now in
    let f : ℕ = c.loop-f.f in
    let phases = c.loop-f.phases.items in
    let next = c.in_ok-next.ensures ∙ ap (λ z. next_in s (phase_in z)) (c.of_phase.ensures ∙ ap (λ z. phase_at z (f - 1)) c.as_slice.ensures.value) in
    subst (AreFirst s _) (sym c.in_ok-push-2.ensures.items) (first-more s c.requires.shape f c.loop-f.auto.f phases c.loop-f.invariant c.in_ok-next.next next)
