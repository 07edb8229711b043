use Rattle.std.proofs.Common.{◌≡◌}
use Rattle.label_model.specs.Labels.{from, either, sources}
use Rattle.label_model.specs.Phase.{write_label}
use Rattle.label_audit.specs.Bits.{label_in}
use Rattle.label_audit.specs.Rows.{row_in, bit_in, first_bits, row_sources}
use Rattle.label_audit.proofs.row.stored.Given as goal

abbrev pub invariant-loop-i : goal.invariant-loop-i
invariant-loop-i l = row_in l.bits ≡ first_bits (λ i. write_label (label_in l.enable) (bit_in (row_in l.memory) i) (from (either (row_sources (row_in l.index)) (sources (bit_in (row_in l.value) i))))) l.i
