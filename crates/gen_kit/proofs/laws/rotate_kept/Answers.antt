use Rattle.gen_kit.proofs.Rotated.{rotate-kept}
use Rattle.gen_kit.proofs.laws.rotate_kept.Goals as goal

pub returns : goal.returns
returns c = rotate-kept
