use Rattle.std.proofs.Common.{◌≡◌}
use Rattle.label_audit.specs.Rows.{row_in, bit_in, first_bits, bitwise_label}
use Rattle.label_audit.proofs.operator.bitwise.Given as goal

abbrev pub invariant-loop-i : goal.invariant-loop-i
invariant-loop-i l = row_in l.bits ≡ first_bits (λ i. bitwise_label l.op (bit_in (row_in l.x) i) (bit_in (row_in l.y) i)) l.i
