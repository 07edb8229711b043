use Rattle.std.proofs.Common.{◌≡◌, drop}
use Rattle.std.specs.Prelude.{take}
use Rattle.noc_desc.specs.declared.DescFault.TheVariants.{HostTwice}
use Rattle.desc_check.specs.Words.{first_at, fault_if, is_among}
use Rattle.desc_check.proofs.tiles.repeated_name_fault.Given as goal

-- the elements that are left decide
abbrev pub invariant-loop-k : goal.invariant-loop-k
invariant-loop-k l =
    first_at (λ k name. fault_if (is_among (take k l.names) name) (HostTwice l.i k)) l.k (drop l.k l.names) ≡ first_at (λ k name. fault_if (is_among (take k l.names) name) (HostTwice l.i k)) 0 l.names
