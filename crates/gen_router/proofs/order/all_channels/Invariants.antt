use Rattle.std.proofs.Common.{◌≡◌}
use Rattle.vl_tree.specs.Read.{read_leaf}
use Rattle.vl_model.specs.Laws.{with_items}
use Rattle.leaf_tie.specs.Whole.{each_group}
use Rattle.leaf_parts.specs.Phases.{all_of}
use Rattle.gen_router.specs.Ordered.{its_channel}
use Rattle.gen_router.proofs.order.all_channels.Given as goal

abbrev pub invariant-loop-channel : goal.invariant-loop-channel
invariant-loop-channel l = read_leaf l.work.leaf ≡ with_items (read_leaf l.fn.work.leaf) (all_of l.phase (each_group l.channel (its_channel l.plan l.tile l.domain l.out)))
