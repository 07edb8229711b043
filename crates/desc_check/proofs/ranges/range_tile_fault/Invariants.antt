use Rattle.std.proofs.Common.{◌≡◌, drop}
use Rattle.std.specs.Prelude.{not, ◌||◌, nat_le}
use Rattle.noc_desc.specs.declared.DescFault.TheVariants.{RangeTile}
use Rattle.desc_check.specs.Words.{first_at, fault_if, is_below}
use Rattle.desc_check.proofs.ranges.range_tile_fault.Given as goal

-- the elements that are left decide
abbrev pub invariant-loop-i : goal.invariant-loop-i
invariant-loop-i l =
    first_at (λ i x. fault_if (not (is_below l.tiles x.tile) || nat_le 1024 i) (RangeTile i)) l.i (drop l.i l.ranges) ≡ first_at (λ i x. fault_if (not (is_below l.tiles x.tile) || nat_le 1024 i) (RangeTile i)) 0 l.ranges
