use Rattle.std.proofs.Common.{◌≡◌, map, take}
use Rattle.desc_check.specs.Network.{domain_of}
use Rattle.desc_check.proofs.make.domains_of.Given as goal

abbrev pub invariant-loop-domain : goal.invariant-loop-domain
invariant-loop-domain l = l.parts.items ≡ map domain_of (take l.domain-index l.domains)
