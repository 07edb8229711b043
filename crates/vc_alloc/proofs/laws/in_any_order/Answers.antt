use Rattle.vc_alloc.proofs.Chosen.{first-none, one-more}
use Rattle.vc_alloc.proofs.laws.in_any_order.Goals as goal

pub returns-clause-first : goal.returns-clause-first
returns-clause-first c = first-none

pub returns-clause-more : goal.returns-clause-more
returns-clause-more c = one-more
