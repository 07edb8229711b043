use Rattle.std.proofs.Common.{◌≡◌, drop}
use Rattle.std.specs.Prelude.{slice_get}
use Rattle.vl_run.specs.Put.{instances}
use Rattle.vl_run.proofs.put.leaf_name.Given as goal

abbrev pub invariant-loop-item : goal.invariant-loop-item
invariant-loop-item l = slice_get (instances (drop l.item-index l.items)) l.left ≡ slice_get (instances l.items) l.instance
