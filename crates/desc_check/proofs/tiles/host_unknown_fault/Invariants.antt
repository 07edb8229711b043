use Rattle.std.proofs.Common.{◌≡◌, drop}
use Rattle.desc_check.specs.Words.{first_at}
use Rattle.desc_check.specs.Faults.{unknown_name_fault}
use Rattle.desc_check.proofs.tiles.host_unknown_fault.Given as goal

-- the elements that are left decide
abbrev pub invariant-loop-i : goal.invariant-loop-i
invariant-loop-i l =
    first_at (unknown_name_fault l.domains) l.i (drop l.i l.elements) ≡ first_at (unknown_name_fault l.domains) 0 l.elements
