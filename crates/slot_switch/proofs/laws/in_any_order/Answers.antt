use Rattle.slot_switch.proofs.Defined.{first-none, one-more}
use Rattle.slot_switch.proofs.laws.in_any_order.Goals as goal

pub returns-clause-first : goal.returns-clause-first
returns-clause-first c = first-none

pub returns-clause-more : goal.returns-clause-more
returns-clause-more c = one-more
