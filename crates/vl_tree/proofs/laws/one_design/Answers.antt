use Rattle.vl_tree.proofs.Designs.{one_spelled}
use Rattle.vl_tree.proofs.laws.one_design.Goals as goal

pub returns : goal.returns
returns c = one_spelled
