use Rattle.leaf_tie.proofs.Grouped.{groups-run}
use Rattle.leaf_tie.proofs.laws.groups_run.Goals as goal

pub returns : goal.returns
returns c = groups-run
