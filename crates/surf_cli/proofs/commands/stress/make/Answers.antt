use Rattle.std.proofs.Common.{refl}
use Rattle.surf_cli.specs.Stress.{stress_text}
use Rattle.surf_cli.proofs.Makings.{Makes-exactly}
use Rattle.surf_cli.proofs.commands.stress.make.Goals as goal

pub returns-clause-ok : goal.returns-clause-ok
returns-clause-ok c = Makes-exactly _ (stress_text c.args.number c.args.cycles) _ refl c.in_ok-summary.ensures
