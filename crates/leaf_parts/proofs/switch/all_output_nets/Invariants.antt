use Rattle.std.proofs.Common.{◌≡◌}
use Rattle.vl_tree.specs.Read.{read_leaf}
use Rattle.vl_model.specs.Laws.{with_items}
use Rattle.gen_kit.specs.Families.{for_each}
use Rattle.leaf_tie.specs.Glue.{switch_names, switch_size}
use Rattle.leaf_tie.specs.Names.{leaf_names, net_names}
use Rattle.leaf_tie.specs.Switch.{output_nets}
use Rattle.leaf_parts.proofs.switch.all_output_nets.Given as goal

abbrev pub invariant-loop-out : goal.invariant-loop-out
invariant-loop-out l = read_leaf l.work.leaf ≡ with_items (read_leaf l.fn.work.leaf) (for_each l.out (output_nets (switch_names leaf_names net_names l.domain) (switch_size l.plan l.domain)))
