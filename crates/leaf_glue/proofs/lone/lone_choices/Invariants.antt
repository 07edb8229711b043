use Rattle.std.proofs.Common.{◌≡◌}
use Rattle.vl_tree.specs.Read.{read_leaf}
use Rattle.vl_model.specs.Laws.{with_items}
use Rattle.gen_kit.specs.Families.{for_each}
use Rattle.leaf_glue.specs.Lone.{output_nets}
use Rattle.leaf_glue.proofs.lone.lone_choices.Given as goal

abbrev pub invariant-loop-out : goal.invariant-loop-out
invariant-loop-out l = read_leaf l.work.leaf ≡ with_items (read_leaf l.fn.work.leaf) (for_each l.out (output_nets l.plan l.tile l.domain))
