use Rattle.label_audit.proofs.Sayings.{leak-is-unclean}
use Rattle.label_audit.proofs.laws.leak_is_unclean.Goals as goal

pub returns : goal.returns
returns c = leak-is-unclean
