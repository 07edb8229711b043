use Rattle.std.proofs.Common.{◌≡◌}
use Rattle.label_model.specs.Labels.{all_sources}
use Rattle.label_audit.specs.Bits.{domains_in}
use Rattle.label_audit.specs.Rows.{row_in, bit_in}
use Rattle.label_audit.proofs.row.all_domains.Given as goal

abbrev pub invariant-loop-i : goal.invariant-loop-i
invariant-loop-i l = domains_in l.mask ≡ all_sources (bit_in (row_in l.row)) l.i
