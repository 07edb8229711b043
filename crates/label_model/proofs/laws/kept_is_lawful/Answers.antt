use Rattle.label_model.proofs.Stable.{kept-is-lawful, first-is-below, next-is-below}
use Rattle.label_model.proofs.laws.kept_is_lawful.Goals as goal

pub returns-clause-lawful : goal.returns-clause-lawful
returns-clause-lawful c = kept-is-lawful

pub returns-clause-first : goal.returns-clause-first
returns-clause-first c = first-is-below

pub returns-clause-next : goal.returns-clause-next
returns-clause-next c = next-is-below
