use Rattle.leaf_tie.proofs.Grouped.{text-run}
use Rattle.leaf_tie.proofs.laws.text_run.Goals as goal

pub returns : goal.returns
returns c = text-run
