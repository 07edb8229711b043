use Rattle.std.proofs.Common.{◌≡◌, drop}
use Rattle.std.specs.Prelude.{not}
use Rattle.noc_desc.specs.declared.DescFault.TheVariants.{Channels}
use Rattle.desc_check.specs.Words.{first_at, fault_if, is_within}
use Rattle.desc_check.proofs.domains.channels_fault.Given as goal

-- the elements that are left decide
abbrev pub invariant-loop-i : goal.invariant-loop-i
invariant-loop-i l =
    first_at (λ i x. fault_if (not (is_within 1 4 x.channels)) (Channels i)) l.i (drop l.i l.domains) ≡ first_at (λ i x. fault_if (not (is_within 1 4 x.channels)) (Channels i)) 0 l.domains
