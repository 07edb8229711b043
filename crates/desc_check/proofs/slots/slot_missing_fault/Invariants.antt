use Rattle.std.proofs.Common.{◌≡◌, drop}
use Rattle.std.specs.Prelude.{not, ◌&&◌}
use Rattle.std.specs.Ordering.{int_eq}
use Rattle.std.specs.Prelude.{pos}
use Rattle.noc_desc.specs.declared.DescFault.TheVariants.{SlotMissing}
use Rattle.desc_check.specs.Words.{first_at, fault_if, is_among}
use Rattle.desc_check.proofs.slots.slot_missing_fault.Given as goal

-- the elements that are left decide
abbrev pub invariant-loop-i : goal.invariant-loop-i
invariant-loop-i l =
    first_at (λ i x. fault_if (int_eq l.version (pos 2) && not (is_among l.slots x.name)) (SlotMissing i)) l.i (drop l.i l.domains) ≡ first_at (λ i x. fault_if (int_eq l.version (pos 2) && not (is_among l.slots x.name)) (SlotMissing i)) 0 l.domains
