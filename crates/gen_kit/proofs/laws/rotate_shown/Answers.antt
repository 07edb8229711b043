use Rattle.gen_kit.proofs.Rotated.{rotate-shown}
use Rattle.gen_kit.proofs.laws.rotate_shown.Goals as goal

pub returns : goal.returns
returns c = rotate-shown
