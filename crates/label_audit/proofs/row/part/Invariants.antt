use Rattle.std.proofs.Common.{◌≡◌}
use Rattle.label_audit.specs.Rows.{row_in, part_row}
use Rattle.label_audit.proofs.row.part.Given as goal

abbrev pub invariant-loop-i : goal.invariant-loop-i
invariant-loop-i l = row_in l.bits ≡ part_row (row_in l.row) l.low l.i
