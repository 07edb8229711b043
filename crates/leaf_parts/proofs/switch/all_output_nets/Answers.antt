use Rattle.vl_tree.specs.Read.{read_leaf}
use Rattle.leaf_tie.specs.Glue.{switch_names, switch_size}
use Rattle.leaf_tie.specs.Names.{leaf_names, net_names}
use Rattle.leaf_tie.specs.Switch.{output_nets}
use Rattle.leaf_parts.proofs.Loops.{items_none, each_more}
use Rattle.leaf_parts.proofs.switch.all_output_nets.Goals as goal

pub loop-out-init : goal.loop-out-init
loop-out-init c = items_none (read_leaf c.args.work.now.leaf)

pub loop-out-preserved : goal.loop-out-preserved
loop-out-preserved c =
    each_more (output_nets (switch_names leaf_names net_names c.args.domain) (switch_size c.args.plan.now c.args.domain)) c.loop-out.out (read_leaf c.args.work.now.leaf) (read_leaf c.loop-out.work.leaf) (read_leaf c.output_nets.new.work.leaf) c.loop-out.invariant c.in_ok-output_nets.ensures
