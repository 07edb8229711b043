use Rattle.shape_sound.proofs.Shaped.{shape-is-sound}
use Rattle.shape_sound.proofs.laws.shape_is_sound.Goals as goal

pub returns : goal.returns
returns c = shape-is-sound
