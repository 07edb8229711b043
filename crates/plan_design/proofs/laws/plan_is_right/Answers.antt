use Rattle.plan_design.proofs.Whole.{plan-is-right}
use Rattle.plan_design.proofs.laws.plan_is_right.Goals as goal

pub returns : goal.returns
returns c = plan-is-right
