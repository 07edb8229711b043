use Rattle.vl_tree.specs.Read.{read_leaf}
use Rattle.leaf_tie.specs.Glue.{switch_names, switch_size}
use Rattle.leaf_tie.specs.Names.{leaf_names, net_names}
use Rattle.leaf_tie.specs.Switch.{grant_nets}
use Rattle.leaf_parts.proofs.Loops.{items_none, each_more}
use Rattle.leaf_parts.proofs.switch.all_grant_nets.Goals as goal

pub loop-port-init : goal.loop-port-init
loop-port-init c = items_none (read_leaf c.args.work.now.leaf)

pub loop-port-preserved : goal.loop-port-preserved
loop-port-preserved c =
    each_more (grant_nets (switch_names leaf_names net_names c.args.domain) (switch_size c.args.plan.now c.args.domain)) c.loop-port.port (read_leaf c.args.work.now.leaf) (read_leaf c.loop-port.work.leaf) (read_leaf c.grant_nets.new.work.leaf) c.loop-port.invariant c.in_ok-grant_nets.ensures
