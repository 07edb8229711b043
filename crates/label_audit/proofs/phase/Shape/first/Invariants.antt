use Rattle.std.proofs.Common.{◌≡◌}
use Rattle.std.specs.Prelude.{slice_get}
use Rattle.label_audit.specs.Rows.{firsts}
use Rattle.label_audit.specs.Whole.{phase_in, first_at}
use Rattle.label_audit.proofs.phase.Shape.first.Given as goal

abbrev pub invariant-loop-i : goal.invariant-loop-i
invariant-loop-i l = phase_in l.phase.items ≡ firsts (λ i. first_at (slice_get l.self.parts.now i)) l.i
