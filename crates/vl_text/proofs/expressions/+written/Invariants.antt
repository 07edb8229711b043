use Rattle.std.proofs.Common.{◌≡◌, ◌++◌, drop}
use Rattle.vl_tree.specs.Values.{cat}
use Rattle.vl_tree.specs.Read.{reads}
use Rattle.vl_tree.specs.Layout.{expr_text}
use Rattle.vl_text.proofs.Tails.{tail_text}
use Rattle.vl_text.proofs.expressions.+written.Given as goal

abbrev pub invariant-exprs-loop-e : goal.invariant-exprs-loop-e
invariant-exprs-loop-e l =
    l.out.items ++ tail_text l.first (reads (drop l.e-index l.es)) ≡ l.fn.out.items ++ expr_text (cat (reads l.es))
