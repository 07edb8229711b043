use Rattle.std.proofs.Common.{◌≡◌, drop}
use Rattle.std.specs.Prelude.{not}
use Rattle.noc_desc.specs.declared.DescFault.TheVariants.{RangeOrder}
use Rattle.desc_check.specs.Words.{first_at, fault_if}
use Rattle.desc_check.specs.Faults.{is_in_order}
use Rattle.desc_check.proofs.ranges.range_order_fault.Given as goal

-- the elements that are left decide
abbrev pub invariant-loop-i : goal.invariant-loop-i
invariant-loop-i l =
    first_at (λ i x. fault_if (not (is_in_order x)) (RangeOrder i)) l.i (drop l.i l.ranges) ≡ first_at (λ i x. fault_if (not (is_in_order x)) (RangeOrder i)) 0 l.ranges
