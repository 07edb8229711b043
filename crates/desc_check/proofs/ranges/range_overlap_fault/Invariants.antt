use Rattle.std.proofs.Common.{◌≡◌, drop}
use Rattle.desc_check.specs.Words.{first_at}
use Rattle.desc_check.specs.Faults.{overlap_fault}
use Rattle.desc_check.proofs.ranges.range_overlap_fault.Given as goal

-- the elements that are left decide
abbrev pub invariant-loop-i : goal.invariant-loop-i
invariant-loop-i l =
    first_at (overlap_fault l.ranges) l.i (drop l.i l.ranges) ≡ first_at (overlap_fault l.ranges) 0 l.ranges
