use Rattle.vl_tree.specs.Read.{read_leaf}
use Rattle.leaf_parts.specs.Parts.{turn_moves}
use Rattle.leaf_parts.proofs.Loops.{items_none, each_more}
use Rattle.leaf_parts.proofs.switch.turn_moves.Goals as goal

pub loop-port-init : goal.loop-port-init
loop-port-init c = items_none (read_leaf c.args.work.now.leaf)

pub loop-port-preserved : goal.loop-port-preserved
loop-port-preserved c =
    each_more (turn_moves c.args.plan.now c.args.domain) c.loop-port.port (read_leaf c.args.work.now.leaf) (read_leaf c.loop-port.work.leaf) (read_leaf c.turn_move.new.work.leaf) c.loop-port.invariant c.in_ok-turn_move.ensures
