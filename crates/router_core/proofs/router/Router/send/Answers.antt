use Rattle.std.proofs.Common.{sym, ap}
use Rattle.router_core.specs.Crossing.{sent_parts, sent_by}
use Rattle.router_core.proofs.router.Router.send.Goals as goal

pub returns-else-asked-clause-flit : goal.returns-else-asked-clause-flit
returns-else-asked-clause-flit c =
    sym (ap (λ x. sent_by c.args.self.now c.args.plan.now c.args.d x) (c.requires.asked c.if-asked.false))

pub returns-else-asked-clause-value : goal.returns-else-asked-clause-value
returns-else-asked-clause-value c =
    sym (ap (λ x. sent_parts c.args.self.now c.args.plan.now c.args.d c.args.out x) (c.requires.asked c.if-asked.false))
