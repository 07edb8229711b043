use Rattle.gen_top.proofs.Whole.{is-design, is-right}
use Rattle.gen_top.proofs.design.design_of.Goals as goal

pub returns-clause-value : goal.returns-clause-value
returns-clause-value c =
    is-design c.args.plan.now c.in_ok-all_leaves.field-0 c.in_ok-top_of.field-0 c.in_ok-all_leaves.ensures c.in_ok-top_of.ensures

pub returns-clause-right : goal.returns-clause-right
returns-clause-right c =
    is-right c.args.plan.now c.in_ok-all_leaves.field-0 c.in_ok-top_of.field-0 c.in_ok-all_leaves.ensures c.in_ok-top_of.ensures
    c.known.ensures
