use Rattle.surf_cli.proofs.TextReads.{read-spelled, spelled-back}
use Rattle.surf_cli.proofs.laws.texts_as_spelled.Goals as goal

pub returns : goal.returns
returns c bytes d = (spelled-back bytes d, read-spelled bytes d)
