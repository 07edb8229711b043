use Rattle.std.proofs.Common.{◌≡◌, drop}
use Rattle.std.specs.Prelude.{◌&&◌, nat_lt}
use Rattle.std.specs.Ordering.{int_eq}
use Rattle.noc_desc.specs.declared.DescFault.TheVariants.{TileTwice}
use Rattle.desc_check.specs.Words.{first_at, fault_if}
use Rattle.desc_check.proofs.tiles.same_tile_fault.Given as goal

-- the elements that are left decide
abbrev pub invariant-loop-j : goal.invariant-loop-j
invariant-loop-j l =
    first_at (λ j y. fault_if (nat_lt l.i j && int_eq l.element.at y.at) (TileTwice l.i j)) l.j (drop l.j l.elements) ≡ first_at (λ j y. fault_if (nat_lt l.i j && int_eq l.element.at y.at) (TileTwice l.i j)) 0 l.elements
