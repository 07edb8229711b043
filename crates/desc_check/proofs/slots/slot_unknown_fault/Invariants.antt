use Rattle.std.proofs.Common.{◌≡◌, drop}
use Rattle.std.specs.Prelude.{not}
use Rattle.noc_desc.specs.declared.DescFault.TheVariants.{SlotUnknown}
use Rattle.desc_check.specs.Words.{first_at, fault_if, is_domain}
use Rattle.desc_check.proofs.slots.slot_unknown_fault.Given as goal

-- the elements that are left decide
abbrev pub invariant-loop-i : goal.invariant-loop-i
invariant-loop-i l =
    first_at (λ i name. fault_if (not (is_domain l.domains name)) (SlotUnknown i)) l.i (drop l.i l.slots) ≡ first_at (λ i name. fault_if (not (is_domain l.domains name)) (SlotUnknown i)) 0 l.slots
