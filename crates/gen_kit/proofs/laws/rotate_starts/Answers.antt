use Rattle.gen_kit.proofs.Rotated.{rotate-starts}
use Rattle.gen_kit.proofs.laws.rotate_starts.Goals as goal

pub returns : goal.returns
returns c = rotate-starts
