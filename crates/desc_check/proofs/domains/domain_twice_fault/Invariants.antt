use Rattle.std.proofs.Common.{◌≡◌, drop}
use Rattle.desc_check.specs.Words.{first_at}
use Rattle.desc_check.specs.Faults.{same_name_fault}
use Rattle.desc_check.proofs.domains.domain_twice_fault.Given as goal

-- the elements that are left decide
abbrev pub invariant-loop-i : goal.invariant-loop-i
invariant-loop-i l =
    first_at (same_name_fault l.domains) l.i (drop l.i l.domains) ≡ first_at (same_name_fault l.domains) 0 l.domains
