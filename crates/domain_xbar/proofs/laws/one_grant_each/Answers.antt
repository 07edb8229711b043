use Rattle.domain_xbar.proofs.Sending.{one-domain, one-port}
use Rattle.domain_xbar.proofs.laws.one_grant_each.Goals as goal

pub returns-clause-domain : goal.returns-clause-domain
returns-clause-domain c = one-domain

pub returns-clause-port : goal.returns-clause-port
returns-clause-port c = one-port
