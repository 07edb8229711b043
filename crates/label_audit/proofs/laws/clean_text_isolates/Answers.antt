use Rattle.label_audit.proofs.Sayings.{clean-text-isolates}
use Rattle.label_audit.proofs.laws.clean_text_isolates.Goals as goal

pub returns : goal.returns
returns c = clean-text-isolates
