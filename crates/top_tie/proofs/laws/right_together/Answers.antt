use Rattle.top_tie.proofs.Right.{right-together}
use Rattle.top_tie.proofs.laws.right_together.Goals as goal

pub returns : goal.returns
returns c = right-together
