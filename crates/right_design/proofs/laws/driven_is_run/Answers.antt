use Rattle.right_design.proofs.Driven.{driven-is-run}
use Rattle.right_design.proofs.laws.driven_is_run.Goals as goal

pub returns : goal.returns
returns c = driven-is-run
