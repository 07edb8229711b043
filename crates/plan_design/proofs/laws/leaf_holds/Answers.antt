use Rattle.plan_design.proofs.Held.{leaf-holds}
use Rattle.plan_design.proofs.laws.leaf_holds.Goals as goal

pub returns : goal.returns
returns c = leaf-holds
