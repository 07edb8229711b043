use Rattle.std.proofs.Common.{◌≡◌, map, take}
use Rattle.desc_check.specs.Upgrade.{domain_draft}
use Rattle.desc_check.proofs.upgrade.domains_of.Given as goal

abbrev pub invariant-loop-d : goal.invariant-loop-d
invariant-loop-d l = l.domains ≡ map domain_draft (take l.d l.plan.domains)
