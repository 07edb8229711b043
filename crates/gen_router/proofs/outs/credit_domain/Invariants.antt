use Rattle.std.proofs.Common.{◌≡◌, ◌≤◌, length}
use Rattle.leaf_tie.specs.Names.{credit_domain, credit_domain_below}
use Rattle.gen_router.proofs.outs.credit_domain.Given as goal

abbrev pub invariant-loop-domain : goal.invariant-loop-domain
invariant-loop-domain l = record {
  same : credit_domain_below l.plan l.domain l.credit ≡ credit_domain l.plan l.credit;
  within : l.domain ≤ length l.plan.domains;
}

abbrev pub decreases-loop-domain : goal.decreases-loop-domain
decreases-loop-domain l = l.domain
