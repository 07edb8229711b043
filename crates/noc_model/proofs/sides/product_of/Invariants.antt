use Rattle.std.proofs.Common.{◌≡◌, take}
use Rattle.noc_model.specs.Plan.{product}
use Rattle.noc_model.proofs.sides.product_of.Given as goal

abbrev pub invariant-loop-k : goal.invariant-loop-k
invariant-loop-k l = l.count ≡ product (take l.k-index l.sides)
