use Rattle.std.proofs.Common.{◌≡◌}
use Rattle.label_audit.specs.Bits.{label_in}
use Rattle.label_audit.specs.Rows.{row_in, first_bits}
use Rattle.label_audit.proofs.row.like.Given as goal

abbrev pub invariant-loop-i : goal.invariant-loop-i
invariant-loop-i l = row_in l.bits ≡ first_bits (λ i. label_in l.bit) l.i
