use Rattle.label_model.proofs.First.{leak-is-first}
use Rattle.label_model.proofs.laws.leak_is_first.Goals as goal

pub returns : goal.returns
returns c = leak-is-first
