use Rattle.leaf_tie.proofs.Outs.{credits-shown}
use Rattle.leaf_tie.proofs.laws.credits_shown.Goals as goal

pub returns : goal.returns
returns c = credits-shown
