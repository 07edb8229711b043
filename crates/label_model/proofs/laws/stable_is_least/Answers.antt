use Rattle.label_model.proofs.Stable.{stable-is-least}
use Rattle.label_model.proofs.laws.stable_is_least.Goals as goal

pub returns : goal.returns
returns c = stable-is-least
