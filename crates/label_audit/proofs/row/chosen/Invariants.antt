use Rattle.std.proofs.Common.{◌≡◌}
use Rattle.label_model.specs.Labels.{choice_label}
use Rattle.label_audit.specs.Bits.{label_in}
use Rattle.label_audit.specs.Rows.{row_in, bit_in, first_bits}
use Rattle.label_audit.proofs.row.chosen.Given as goal

abbrev pub invariant-loop-i : goal.invariant-loop-i
invariant-loop-i l = row_in l.bits ≡ first_bits (λ i. choice_label (label_in l.test) (bit_in (row_in l.x) i) (bit_in (row_in l.y) i)) l.i
