use Rattle.std.proofs.Common.{ap, ◌∙◌}
use Rattle.surf_cli.specs.Meaning.{if_found}
use Rattle.surf_cli.proofs.OneReport.{domain-found, domain-absent}
use Rattle.surf_cli.proofs.judging.judge_domain.Goals as goal

pub returns-in-Some-clause-ok : goal.returns-in-Some-clause-ok
returns-in-Some-clause-ok c =
    λ next. domain-found c.args.plan.now c.args.name.now c.find.result c.find.ensures.value next
    ∙ ap (λ r. if_found r next) c.in-Some.is

pub returns-in-None-clause-err : goal.returns-in-None-clause-err
returns-in-None-clause-err c =
    λ next. domain-absent c.args.plan.now c.args.name.now next
    (domain-found c.args.plan.now c.args.name.now c.find.result c.find.ensures.value next
    ∙ ap (λ r. if_found r next) c.in-None.is)
