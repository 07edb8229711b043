use Rattle.aig_design.proofs.Plain.{codes-are-plain}
use Rattle.aig_design.proofs.laws.codes_are_plain.Goals as goal

pub returns : goal.returns
returns c = codes-are-plain
