use Rattle.std.proofs.Common.{◌≡◌, [], get_or}
use Rattle.std.specs.Prelude.{slice_get}
use Rattle.vl_run.specs.Emit.{place_in}
use Rattle.label_audit.specs.Rows.{firsts}
use Rattle.label_audit.specs.Whole.{phase_in, next_at, tops_in}
use Rattle.label_audit.proofs.phase.Shape.next.Given as goal

abbrev pub invariant-loop-i : goal.invariant-loop-i
invariant-loop-i l = phase_in l.phase.items ≡ firsts (λ i. next_at (place_in l.self.declared.now) (tops_in l.self (phase_in l.kept)) (slice_get l.self.parts.now i) (get_or (phase_in l.kept) i [])) l.i
