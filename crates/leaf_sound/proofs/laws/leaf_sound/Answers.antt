use Rattle.leaf_sound.proofs.Sounded.{leaf-sound}
use Rattle.leaf_sound.proofs.laws.leaf_sound.Goals as goal

pub returns : goal.returns
returns c = leaf-sound
