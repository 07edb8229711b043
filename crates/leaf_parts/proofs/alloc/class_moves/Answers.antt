use Rattle.vl_tree.specs.Read.{read_leaf}
use Rattle.leaf_tie.specs.Names.{alloc_names}
use Rattle.leaf_tie.specs.Tie.{alloc_size}
use Rattle.leaf_tie.specs.Alloc.{active_move}
use Rattle.leaf_parts.proofs.Loops.{items_none, each_more}
use Rattle.leaf_parts.proofs.alloc.class_moves.Goals as goal

pub loop-j-init : goal.loop-j-init
loop-j-init c = items_none (read_leaf c.args.work.now.leaf)

pub loop-j-preserved : goal.loop-j-preserved
loop-j-preserved c =
    each_more (active_move (alloc_names c.args.domain c.args.out) (alloc_size c.args.plan.now c.args.domain c.args.out) c.args.class) c.loop-j.j (read_leaf c.args.work.now.leaf) (read_leaf c.loop-j.work.leaf) (read_leaf c.active_move.new.work.leaf) c.loop-j.invariant c.in_ok-active_move.ensures
