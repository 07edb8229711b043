use Rattle.label_model.proofs.Existence.{labels-exist}
use Rattle.label_model.proofs.laws.labels_exist.Goals as goal

pub returns : goal.returns
returns c = labels-exist
