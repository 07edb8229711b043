use Rattle.std.proofs.Common.{arith}
use Rattle.vl_tree.specs.Read.{read_leaf}
use Rattle.vl_tree.specs.Layout.{leaf_text}
use Rattle.vl_text.proofs.Chains.{each_turn}
use Rattle.vl_text.proofs.modules.leaves.Goals as goal

pub loop-l-preserved : goal.loop-l-preserved
loop-l-preserved c =
    each_turn leaf_text read_leaf c.args.ls.now c.loop-l.l-index c.l-item.result _ (omega arith) c.l-item.is c.in_ok-leaf.ensures c.loop-l.invariant
