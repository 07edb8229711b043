use Rattle.std.proofs.Common.{◌≡◌, drop}
use Rattle.std.specs.Prelude.{not}
use Rattle.noc_desc.specs.declared.DescFault.TheVariants.{HostUnknown}
use Rattle.desc_check.specs.Words.{first_at, fault_if, is_domain}
use Rattle.desc_check.proofs.tiles.unknown_name_fault.Given as goal

-- the elements that are left decide
abbrev pub invariant-loop-k : goal.invariant-loop-k
invariant-loop-k l =
    first_at (λ k name. fault_if (not (is_domain l.domains name)) (HostUnknown l.i k)) l.k (drop l.k l.name-items) ≡ first_at (λ k name. fault_if (not (is_domain l.domains name)) (HostUnknown l.i k)) 0 l.name-items
