use Rattle.right_design.proofs.Apart.{domains-apart}
use Rattle.right_design.proofs.laws.domains_apart.Goals as goal

pub returns : goal.returns
returns c = domains-apart
