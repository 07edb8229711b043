use Rattle.aig_design.proofs.Given.{inputs-have-numbers}
use Rattle.aig_design.proofs.laws.inputs_have_numbers.Goals as goal

pub returns : goal.returns
returns c = inputs-have-numbers
