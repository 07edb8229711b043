use Rattle.std.proofs.Common.{◌≡◌}
use Rattle.label_model.specs.Labels.{not_label}
use Rattle.label_audit.specs.Rows.{row_in, bit_in, first_bits}
use Rattle.label_audit.proofs.row.complement.Given as goal

abbrev pub invariant-loop-i : goal.invariant-loop-i
invariant-loop-i l = row_in l.bits ≡ first_bits (λ i. not_label (bit_in (row_in l.row) i)) l.i
