use Rattle.std.proofs.Common.{◌≡◌}
use Rattle.vl_tree.specs.Read.{read_leaf}
use Rattle.vl_model.specs.Laws.{with_items}
use Rattle.gen_kit.specs.Families.{for_each}
use Rattle.leaf_tie.specs.Names.{alloc_names}
use Rattle.leaf_tie.specs.Tie.{alloc_size}
use Rattle.leaf_tie.specs.Alloc.{class_nets}
use Rattle.leaf_parts.proofs.alloc.all_class_nets.Given as goal

abbrev pub invariant-loop-class : goal.invariant-loop-class
invariant-loop-class l = read_leaf l.work.leaf ≡ with_items (read_leaf l.fn.work.leaf) (for_each l.class (class_nets (alloc_names l.domain l.out) (alloc_size l.plan l.domain l.out)))
