use Rattle.std.proofs.Common.{◌≡◌, take, map}
use Rattle.vl_tree.specs.Read.{read}
use Rattle.vl_tree.proofs.copy.+copied.Given as goal

abbrev pub invariant-exprs-loop-e : goal.invariant-exprs-loop-e
invariant-exprs-loop-e l = map read l.copies ≡ map read (take l.e-index l.es)
