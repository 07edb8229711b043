use Rattle.std.proofs.Common.{◌≡◌}
use Rattle.label_model.specs.Labels.{from, either, sources}
use Rattle.label_audit.specs.Rows.{row_in, bit_in, first_bits, row_sources}
use Rattle.label_audit.proofs.row.word.Given as goal

abbrev pub invariant-loop-i : goal.invariant-loop-i
invariant-loop-i l = row_in l.bits ≡ first_bits (λ i. from (either (sources (bit_in (row_in l.memory) i)) (row_sources (row_in l.index)))) l.i
