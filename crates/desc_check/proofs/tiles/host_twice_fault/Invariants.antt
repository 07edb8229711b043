use Rattle.std.proofs.Common.{◌≡◌, drop}
use Rattle.desc_check.specs.Words.{first_at}
use Rattle.desc_check.specs.Faults.{repeated_name_fault}
use Rattle.desc_check.proofs.tiles.host_twice_fault.Given as goal

-- the elements that are left decide
abbrev pub invariant-loop-i : goal.invariant-loop-i
invariant-loop-i l =
    first_at (repeated_name_fault) l.i (drop l.i l.elements) ≡ first_at (repeated_name_fault) 0 l.elements
