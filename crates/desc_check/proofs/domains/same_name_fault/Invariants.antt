use Rattle.std.proofs.Common.{◌≡◌, drop}
use Rattle.std.specs.Prelude.{◌&&◌, nat_lt}
use Rattle.std.specs.Str.{bytes_eq}
use Rattle.noc_desc.specs.declared.DescFault.TheVariants.{DomainTwice}
use Rattle.desc_check.specs.Words.{first_at, fault_if}
use Rattle.desc_check.proofs.domains.same_name_fault.Given as goal

-- the elements that are left decide
abbrev pub invariant-loop-j : goal.invariant-loop-j
invariant-loop-j l =
    first_at (λ j y. fault_if (nat_lt l.i j && bytes_eq l.domain.name y.name) (DomainTwice l.i j)) l.j (drop l.j l.domains) ≡ first_at (λ j y. fault_if (nat_lt l.i j && bytes_eq l.domain.name y.name) (DomainTwice l.i j)) 0 l.domains
