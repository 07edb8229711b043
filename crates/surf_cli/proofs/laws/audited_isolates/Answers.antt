use Rattle.surf_cli.proofs.Audited.{audited-isolates}
use Rattle.surf_cli.proofs.laws.audited_isolates.Goals as goal

pub returns : goal.returns
returns c = audited-isolates
