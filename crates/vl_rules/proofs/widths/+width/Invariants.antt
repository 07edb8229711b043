use Rattle.std.proofs.Common.{◌≡◌, ◌≤◌, drop}
use Rattle.vl_tree.specs.Read.{reads}
use Rattle.vl_rules.specs.Scope.{widths_at}
use Rattle.vl_rules.specs.Widths.{parts_width}
use Rattle.vl_rules.proofs.widths.+width.Given as goal

abbrev pub invariant-in_a_row-loop-e : goal.invariant-in_a_row-loop-e
invariant-in_a_row-loop-e l = record {
  rest : parts_width (widths_at l.table l.number) 0 (reads l.es) ≡ parts_width (widths_at l.table l.number) l.total (reads (drop l.e-index l.es));
  most : l.total ≤ 64;
}
