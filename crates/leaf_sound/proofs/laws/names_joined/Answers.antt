use Rattle.leaf_sound.proofs.Joint.{names-joined}
use Rattle.leaf_sound.proofs.laws.names_joined.Goals as goal

pub returns : goal.returns
returns c = names-joined
