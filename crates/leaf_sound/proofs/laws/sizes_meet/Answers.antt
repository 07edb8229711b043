use Rattle.leaf_sound.proofs.Bits.{sizes-meet}
use Rattle.leaf_sound.proofs.laws.sizes_meet.Goals as goal

pub returns : goal.returns
returns c = sizes-meet
