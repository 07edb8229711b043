use Rattle.std.proofs.Common.{◌≡◌}
use Rattle.vl_tree.specs.Read.{read_leaf}
use Rattle.vl_model.specs.Laws.{with_items}
use Rattle.leaf_tie.specs.Whole.{each_group}
use Rattle.leaf_parts.specs.Phases.{all_of}
use Rattle.gen_router.specs.Given.{buffer_part}
use Rattle.gen_router.proofs.order.all_buffers.Given as goal

abbrev pub invariant-loop-port : goal.invariant-loop-port
invariant-loop-port l = read_leaf l.work.leaf ≡ with_items (read_leaf l.fn.work.leaf) (all_of l.phase (each_group l.port (buffer_part l.plan l.tile l.domain)))
