use Rattle.std.proofs.Common.{◌≡◌, drop}
use Rattle.vl_tree.specs.Read.{reads}
use Rattle.vl_tree.specs.Plain.{plain_exprs}
use Rattle.vl_tree.proofs.plain.+plain.Given as goal

abbrev pub invariant-exprs-loop-e : goal.invariant-exprs-loop-e
invariant-exprs-loop-e l = plain_exprs l.depth (reads l.es) ≡ plain_exprs l.depth (reads (drop l.e-index l.es))
