use Rattle.std.proofs.Common.{◌≡◌}
use Rattle.label_audit.specs.Rows.{row_in, constant_row}
use Rattle.label_audit.proofs.row.constant.Given as goal

abbrev pub invariant-loop-i : goal.invariant-loop-i
invariant-loop-i l = row_in l.bits ≡ constant_row l.value l.i
