use Rattle.std.proofs.Common.{◌≡◌, drop}
use Rattle.noc_desc.specs.declared.DescFault.TheVariants.{RangeOverlap}
use Rattle.desc_check.specs.Words.{first_at, fault_if}
use Rattle.desc_check.specs.Faults.{overlaps_later}
use Rattle.desc_check.proofs.ranges.overlap_fault.Given as goal

-- the elements that are left decide
abbrev pub invariant-loop-j : goal.invariant-loop-j
invariant-loop-j l =
    first_at (λ j y. fault_if (overlaps_later l.i l.range j y) (RangeOverlap l.i j)) l.j (drop l.j l.ranges) ≡ first_at (λ j y. fault_if (overlaps_later l.i l.range j y) (RangeOverlap l.i j)) 0 l.ranges
