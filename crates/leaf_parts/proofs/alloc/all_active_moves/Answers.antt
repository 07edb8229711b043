use Rattle.std.proofs.Common.{◌+◌}
use Rattle.vl_tree.specs.Read.{read_leaf}
use Rattle.leaf_tie.specs.Names.{alloc_names}
use Rattle.leaf_tie.specs.Tie.{alloc_size}
use Rattle.leaf_tie.specs.Alloc.{active_move}
use Rattle.gen_kit.specs.Families.{for_each}
use Rattle.leaf_parts.proofs.Loops.{items_none, each_more}
use Rattle.leaf_parts.proofs.alloc.all_active_moves.Goals as goal

pub loop-class-init : goal.loop-class-init
loop-class-init c = items_none (read_leaf c.args.work.now.leaf)

pub loop-class-preserved : goal.loop-class-preserved
loop-class-preserved c =
    each_more (λ k. for_each ((alloc_size c.args.plan.now c.args.domain c.args.out).size + 1) (active_move (alloc_names c.args.domain c.args.out) (alloc_size c.args.plan.now c.args.domain c.args.out) k)) c.loop-class.class (read_leaf c.args.work.now.leaf) (read_leaf c.loop-class.work.leaf) (read_leaf c.class_moves.new.work.leaf) c.loop-class.invariant c.in_ok-class_moves.ensures
