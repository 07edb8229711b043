use Rattle.std.proofs.Common.{◌≡◌, take}
use Rattle.label_model.specs.Labels.{join}
use Rattle.label_audit.specs.Rises.{row_left, IsRaised}
use Rattle.label_audit.specs.Rows.{row_in, bit_in, first_bits}
use Rattle.label_audit.proofs.raising.row.Given as goal

abbrev pub invariant-loop-i : goal.invariant-loop-i
invariant-loop-i l = (row_in l.row ≡ first_bits (λ i. join (bit_in (row_in l.old) i) (bit_in (row_in l.new) i)) l.i) × IsRaised row_left (take l.i l.old) l.row l.rose
