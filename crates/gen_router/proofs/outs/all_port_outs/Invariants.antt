use Rattle.std.proofs.Common.{◌≡◌}
use Rattle.vl_tree.specs.Read.{read_leaf}
use Rattle.vl_model.specs.Laws.{with_items}
use Rattle.leaf_tie.specs.Whole.{each_group}
use Rattle.leaf_parts.specs.Phases.{all_of}
use Rattle.leaf_parts.specs.declared.phase.Phase.TheVariants.{Nets}
use Rattle.gen_router.specs.Ordered.{port_outs}
use Rattle.gen_router.proofs.outs.all_port_outs.Given as goal

abbrev pub invariant-loop-out : goal.invariant-loop-out
invariant-loop-out l = read_leaf l.work.leaf ≡ with_items (read_leaf l.fn.work.leaf) (all_of Nets (each_group l.out (port_outs l.plan l.tile)))
