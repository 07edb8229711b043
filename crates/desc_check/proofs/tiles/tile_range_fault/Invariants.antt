use Rattle.std.proofs.Common.{◌≡◌, drop}
use Rattle.std.specs.Prelude.{not}
use Rattle.noc_desc.specs.declared.DescFault.TheVariants.{TileRange}
use Rattle.desc_check.specs.Words.{first_at, fault_if, is_below}
use Rattle.desc_check.proofs.tiles.tile_range_fault.Given as goal

-- the elements that are left decide
abbrev pub invariant-loop-i : goal.invariant-loop-i
invariant-loop-i l =
    first_at (λ i x. fault_if (not (is_below l.tiles x.at)) (TileRange i)) l.i (drop l.i l.elements) ≡ first_at (λ i x. fault_if (not (is_below l.tiles x.at)) (TileRange i)) 0 l.elements
