use Rattle.leaf_tie.proofs.Enough.{sizes-fit}
use Rattle.leaf_tie.proofs.laws.sizes_fit.Goals as goal

pub returns : goal.returns
returns c = sizes-fit
