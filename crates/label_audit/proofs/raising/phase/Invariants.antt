use Rattle.std.proofs.Common.{◌≡◌, [], get_or, take}
use Rattle.label_audit.specs.Rises.{phase_left, IsRaised}
use Rattle.label_audit.specs.Rows.{joined_rows, firsts}
use Rattle.label_audit.specs.Whole.{phase_in}
use Rattle.label_audit.proofs.raising.phase.Given as goal

abbrev pub invariant-loop-i : goal.invariant-loop-i
invariant-loop-i l = (phase_in l.phase.items ≡ firsts (λ i. joined_rows (get_or (phase_in l.old) i []) (get_or (phase_in l.new) i [])) l.i) × IsRaised phase_left (take l.i l.old) l.phase.items l.rose
