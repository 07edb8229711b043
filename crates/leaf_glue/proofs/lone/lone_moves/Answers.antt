use Rattle.vl_tree.specs.Read.{read_leaf}
use Rattle.leaf_glue.specs.Lone.{output_moves}
use Rattle.leaf_parts.proofs.Loops.{items_none, each_more}
use Rattle.leaf_glue.proofs.lone.lone_moves.Goals as goal

pub loop-out-init : goal.loop-out-init
loop-out-init c = items_none (read_leaf c.args.work.now.leaf)

pub loop-out-preserved : goal.loop-out-preserved
loop-out-preserved c =
    each_more (output_moves c.args.plan.now c.args.tile c.args.domain) c.loop-out.out (read_leaf c.args.work.now.leaf) (read_leaf c.loop-out.work.leaf) (read_leaf c.output_move.new.work.leaf) c.loop-out.invariant c.in_ok-output_move.ensures
