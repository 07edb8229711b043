use Rattle.leaf_sound.proofs.Running.{module-run}
use Rattle.leaf_sound.proofs.laws.module_run.Goals as goal

pub returns : goal.returns
returns c = module-run
