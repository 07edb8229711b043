use Rattle.std.proofs.Common.{refl}
use Rattle.surf_cli.specs.Spoken.{command}
use Rattle.surf_cli.proofs.Runnings.{Runs-none}
use Rattle.surf_cli.proofs.run.run.Goals as goal

pub returns-in-Err-clause-runs : goal.returns-in-Err-clause-runs
returns-in-Err-clause-runs g c = Runs-none (command c.args.asked) c.in-Err.fault c.of.result _ _ c.of.ensures c.in-Err.ensures.err refl refl
