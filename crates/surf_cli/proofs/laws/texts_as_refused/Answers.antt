use Rattle.surf_cli.proofs.TextReads.{read-first, fault-back}
use Rattle.surf_cli.proofs.laws.texts_as_refused.Goals as goal

pub returns : goal.returns
returns c bytes f = (fault-back bytes f, read-first bytes f)
