use Rattle.std.proofs.Common.{◌≡◌}
use Rattle.label_audit.specs.Rows.{firsts}
use Rattle.label_audit.specs.Whole.{phase_in, tops_in}
use Rattle.label_audit.specs.Walks.{phase_at}
use Rattle.label_audit.proofs.auditing.tops.Given as goal

abbrev pub invariant-loop-f : goal.invariant-loop-f
invariant-loop-f l = phase_in l.tops.items ≡ firsts (λ f. tops_in l.shape (phase_in (phase_at l.phases f))) l.f
