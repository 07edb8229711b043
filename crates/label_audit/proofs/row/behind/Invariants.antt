use Rattle.std.proofs.Common.{◌≡◌, ◌++◌, take}
use Rattle.label_audit.specs.Rows.{row_in}
use Rattle.label_audit.proofs.row.behind.Given as goal

abbrev pub invariant-loop-i : goal.invariant-loop-i
invariant-loop-i l = l.all ≡ l.initial.all ++ take l.i l.more
