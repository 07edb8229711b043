use Rattle.std.proofs.Common.{◌≡◌, ◌+◌, ◌≤◌, drop, min}
use Rattle.vl_tree.specs.Read.{reads}
use Rattle.vl_model.specs.Meaning.{widths_of}
use Rattle.vl_rules.specs.Scope.{widths_at}
use Rattle.vl_rules.proofs.uses.+bits.Given as goal

abbrev pub invariant-bits_in-loop-e : goal.invariant-bits_in-loop-e
invariant-bits_in-loop-e l = record {
  all : min 64 (l.total + widths_of (widths_at l.table l.number) (reads (drop l.e-index l.es))) ≡ min 64 (widths_of (widths_at l.table l.number) (reads l.es));
  most : l.total ≤ 64;
}
