use Rattle.std.proofs.Common.{◌≡◌, map}
use Rattle.label_audit.specs.Rows.{row_in}
use Rattle.label_audit.specs.Instances.{no_rows}
use Rattle.label_audit.proofs.part.no_rows.Given as goal

abbrev pub invariant-loop-i : goal.invariant-loop-i
invariant-loop-i l = map row_in l.rows.items ≡ no_rows l.i
