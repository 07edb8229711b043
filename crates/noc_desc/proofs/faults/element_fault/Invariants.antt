use Rattle.std.proofs.Common.{◌≡◌, drop}
use Rattle.toml.specs.View.{items_view}
use Rattle.noc_desc.specs.Faults.{first_some, place_fault, element_tables}
use Rattle.noc_desc.proofs.faults.element_fault.Given as goal

-- the elements that are left decide
abbrev pub invariant-loop-element : goal.invariant-loop-element
invariant-loop-element l =
    first_some (place_fault l.flaw) (element_tables l.kind l.element (items_view (drop l.element l.items))) ≡ first_some (place_fault l.flaw) (element_tables l.kind 0 (items_view l.items))
