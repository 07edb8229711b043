use Rattle.std.proofs.Common.{◌≡◌, ◌++◌, drop, map}
use Rattle.vl_tree.specs.Read.{reads}
use Rattle.vl_run.specs.Emit.{place_in}
use Rattle.label_audit.specs.Rows.{row_in, rows_of, rows_by}
use Rattle.label_audit.proofs.expr.+bits.Given as goal

abbrev pub invariant-in_a_row-loop-e : goal.invariant-in_a_row-loop-e
invariant-in_a_row-loop-e l = rows_of (rows_by (place_in l.scope.declared.now) (map row_in l.scope.rows.now)) (reads l.es)
    ≡ rows_of (rows_by (place_in l.scope.declared.now) (map row_in l.scope.rows.now)) (reads (drop l.e-index l.es)) ++ row_in l.row
