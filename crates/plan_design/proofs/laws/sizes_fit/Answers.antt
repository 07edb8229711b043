use Rattle.plan_design.proofs.Credits.{sizes-fit}
use Rattle.plan_design.proofs.laws.sizes_fit.Goals as goal

pub returns : goal.returns
returns c = sizes-fit
