use Rattle.vl_tree.specs.Read.{read_leaf}
use Rattle.leaf_parts.specs.Parts.{row_moves}
use Rattle.leaf_parts.proofs.Loops.{items_none, each_more}
use Rattle.leaf_parts.proofs.link.shifts.Goals as goal

pub loop-place-init : goal.loop-place-init
loop-place-init c = items_none (read_leaf c.args.work.now.leaf)

pub loop-place-preserved : goal.loop-place-preserved
loop-place-preserved c =
    each_more (row_moves c.args.out c.args.high) c.loop-place.place (read_leaf c.args.work.now.leaf) (read_leaf c.loop-place.work.leaf) (read_leaf c.row_move.new.work.leaf) c.loop-place.invariant c.in_ok-row_move.ensures
