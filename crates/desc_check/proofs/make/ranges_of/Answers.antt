use Rattle.desc_check.proofs.Judged.{good_tile, in_order}
use Rattle.desc_check.proofs.make.ranges_of.Goals as goal

pub range_of-requires-clause-tile : goal.range_of-requires-clause-tile
range_of-requires-clause-tile c =
    (good_tile c.args.tiles c.args.ranges.now c.requires.tile c.loop-range.range-index _ c.loop-range-test.true).0

pub range_of-requires-clause-order : goal.range_of-requires-clause-order
range_of-requires-clause-order c =
    in_order c.args.ranges.now c.requires.order c.loop-range.range-index _ c.loop-range-test.true
