use Rattle.leaf_tie.proofs.Outs.{outs-shown}
use Rattle.leaf_tie.proofs.laws.outs_shown.Goals as goal

pub returns : goal.returns
returns c = outs-shown
