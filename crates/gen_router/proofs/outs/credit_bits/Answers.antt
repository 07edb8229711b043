use Rattle.std.proofs.Common.{ap, ◌∙◌}
use Rattle.leaf_tie.specs.Names.{credit_base}
use Rattle.gen_router.proofs.Credits.{base_whole}
use Rattle.gen_router.proofs.outs.credit_bits.Goals as goal

pub returns-clause-value : goal.returns-clause-value
returns-clause-value c =
    c.credit_base.ensures.value ∙ (ap (credit_base c.args.plan.now) c.domains.ensures ∙ base_whole c.args.plan.now)
