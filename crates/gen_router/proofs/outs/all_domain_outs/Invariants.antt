use Rattle.std.proofs.Common.{◌≡◌}
use Rattle.vl_tree.specs.Read.{read_leaf}
use Rattle.vl_model.specs.Laws.{with_items}
use Rattle.leaf_tie.specs.Whole.{each_group}
use Rattle.leaf_parts.specs.Phases.{all_of}
use Rattle.leaf_parts.specs.declared.phase.Phase.TheVariants.{Nets}
use Rattle.gen_router.specs.Ordered.{its_outs}
use Rattle.gen_router.proofs.outs.all_domain_outs.Given as goal

abbrev pub invariant-loop-domain : goal.invariant-loop-domain
invariant-loop-domain l = read_leaf l.work.leaf ≡ with_items (read_leaf l.fn.work.leaf) (all_of Nets (each_group l.domain (its_outs l.plan l.tile)))
