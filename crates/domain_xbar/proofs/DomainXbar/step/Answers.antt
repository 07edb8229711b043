use Rattle.std.proofs.Common.{◌≤◌, length, arith}
use Rattle.domain_xbar.proofs.Crossing.{crossed-end}
use Rattle.domain_xbar.proofs.Sending.{have-sent}
use Rattle.domain_xbar.proofs.DomainXbar.step.Goals as goal

pub returns-clause-sent : goal.returns-clause-sent
returns-clause-sent c = λ n t s i shown.
    let p = c.args.plan.now in
    let all : length p.domains ≤ c.loop-d.d = omega (arith, c.loop-d-test.false, c.domains-d-end.ensures) in
    have-sent p n t s i c.args.grants.now c.args.fronts.now c.loop-d.links c.loop-d.eject shown
    (crossed-end p c.args.grants.now c.args.fronts.now c.loop-d.links c.loop-d.eject c.loop-d.d all c.loop-d.invariant.2)
