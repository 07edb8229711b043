use Rattle.std.proofs.Common.{◌≡◌, [], map, get_or, take}
use Rattle.label_audit.specs.Rises.{rows_left, IsRaised}
use Rattle.label_audit.specs.Rows.{row_in, joined_row, firsts}
use Rattle.label_audit.proofs.raising.instance.Given as goal

abbrev pub invariant-loop-i : goal.invariant-loop-i
invariant-loop-i l = (map row_in l.rows.items ≡ firsts (λ i. joined_row (get_or (map row_in l.old) i []) (get_or (map row_in l.new) i [])) l.i) × IsRaised rows_left (take l.i l.old) l.rows.items l.rose
