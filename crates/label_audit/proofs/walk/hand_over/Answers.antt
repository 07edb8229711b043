use Rattle.std.proofs.Common.{◌≡◌, ℕ, ◌+◌, ◌%◌, ◌<◌, ◌∙◌, ap, sym, subst, arith}
use Rattle.std.specs.Prelude.{Some, slice_set}
use Rattle.label_audit.specs.Rises.{phase_left, walk_left, IsRaised}
use Rattle.label_audit.specs.Whole.{phase_in, joined_in, next_in}
use Rattle.label_audit.specs.Walks.{phase_count, phase_at, IsWalk}
use Rattle.label_audit.proofs.Walks.{still, rises, less-left}
use Rattle.label_audit.proofs.walk.hand_over.Goals as goal

pub returns-then-not-rose : goal.returns-then-not-rose
returns-then-not-rose c =
    let s = c.args.shape.now in
    let phases = c.args.phases.now.items in
    let f : ℕ = c.args.f in
    let w = c.requires.walk in
    let long = w.long in
    let counted = c.len.ensures in
    let kept = c.args.phases.now.ok.0 in
    let size : phase_count s ≡ c.len.result = omega (arith, long, counted, kept) in
    let at : c.of_phase-old.result.now ≡ phase_at phases ((f + 1) % phase_count s) = c.of_phase-old.ensures ∙ ap (λ z. phase_at z ((f + 1) % c.len.result)) c.as_slice.ensures.value ∙ ap (λ n. phase_at phases ((f + 1) % n)) (sym size) in
    let next = ap phase_in c.as_slice-3.ensures ∙ c.in_ok-next.ensures ∙ ap (λ z. next_in s (phase_in z)) (c.of_phase.ensures ∙ ap (λ z. phase_at z f) c.as_slice-2.ensures.value) in
    let is = c.in_ok-up.ensures.above ∙ ap (λ z. joined_in (phase_in z) (phase_in c.as_slice-3.result.now)) at ∙ ap (joined_in (phase_in (phase_at phases ((f + 1) % phase_count s)))) next in
    let same = subst (IsRaised phase_left c.of_phase-old.result.now c.in_ok-up.up) c.if-not-rose.true c.in_ok-up.ensures.rises in
    record {
      walk = still s c.requires.shape phases f w c.in_ok-up.up is (same ∙ at);
      less = omega arith;
    }

pub returns : goal.returns
returns c =
    let s = c.args.shape.now in
    let phases = c.args.phases.now.items in
    let f : ℕ = c.args.f in
    let w = c.requires.walk in
    let long = w.long in
    let counted = c.len.ensures in
    let kept = c.args.phases.now.ok.0 in
    let size : phase_count s ≡ c.len.result = omega (arith, long, counted, kept) in
    let at : c.of_phase-old.result.now ≡ phase_at phases ((f + 1) % phase_count s) = c.of_phase-old.ensures ∙ ap (λ z. phase_at z ((f + 1) % c.len.result)) c.as_slice.ensures.value ∙ ap (λ n. phase_at phases ((f + 1) % n)) (sym size) in
    let next = ap phase_in c.as_slice-3.ensures ∙ c.in_ok-next.ensures ∙ ap (λ z. next_in s (phase_in z)) (c.of_phase.ensures ∙ ap (λ z. phase_at z f) c.as_slice-2.ensures.value) in
    let is = c.in_ok-up.ensures.above ∙ ap (λ z. joined_in (phase_in z) (phase_in c.as_slice-3.result.now)) at ∙ ap (joined_in (phase_in (phase_at phases ((f + 1) % phase_count s)))) next in
    let less = subst (λ z. phase_left c.in_ok-up.up < phase_left z) at (subst (IsRaised phase_left c.of_phase-old.result.now c.in_ok-up.up) c.if-not-rose.false c.in_ok-up.ensures.rises) in
    record {
      walk = subst (λ n. IsWalk s (slice_set phases ((f + 1) % n) c.in_ok-up.up) (Some ((f + 1) % n))) size (rises s c.requires.shape phases f w c.in_ok-up.up is);
      less = subst (λ n. walk_left (slice_set phases ((f + 1) % n) c.in_ok-up.up) (Some ((f + 1) % n)) < walk_left phases (Some f)) size (less-left s c.requires.shape phases f w c.in_ok-up.up is less);
    }
