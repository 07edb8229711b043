use Rattle.std.proofs.Common.{◌≡◌}
use Rattle.vl_tree.specs.Read.{read_leaf}
use Rattle.vl_model.specs.Laws.{with_items}
use Rattle.gen_kit.specs.Families.{for_each}
use Rattle.leaf_parts.specs.Parts.{active_heads}
use Rattle.leaf_parts.proofs.alloc.all_active_heads.Given as goal

abbrev pub invariant-loop-channel : goal.invariant-loop-channel
invariant-loop-channel l = read_leaf l.work.leaf ≡ with_items (read_leaf l.fn.work.leaf) (for_each l.channel (active_heads l.plan l.domain l.out))
