use Rattle.std.proofs.Common.{◌≡◌}
use Rattle.vl_tree.specs.Read.{read_leaf}
use Rattle.vl_model.specs.Laws.{with_items}
use Rattle.gen_kit.specs.Families.{for_each}
use Rattle.leaf_parts.specs.Parts.{choice_heads}
use Rattle.leaf_parts.proofs.switch.choice_heads.Given as goal

abbrev pub invariant-loop-out : goal.invariant-loop-out
invariant-loop-out l = read_leaf l.work.leaf ≡ with_items (read_leaf l.fn.work.leaf) (for_each l.out (choice_heads l.plan l.domain))
