use Rattle.std.proofs.Common.{◌≡◌, drop}
use Rattle.std.specs.Prelude.{not}
use Rattle.noc_desc.specs.declared.DescFault.TheVariants.{DomainName}
use Rattle.desc_check.specs.Words.{first_at, fault_if, is_name}
use Rattle.desc_check.proofs.domains.domain_name_fault.Given as goal

-- the elements that are left decide
abbrev pub invariant-loop-i : goal.invariant-loop-i
invariant-loop-i l =
    first_at (λ i x. fault_if (not (is_name x.name)) (DomainName i)) l.i (drop l.i l.domains) ≡ first_at (λ i x. fault_if (not (is_name x.name)) (DomainName i)) 0 l.domains
