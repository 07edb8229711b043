use Rattle.std.proofs.Common.{◌≡◌}
use Rattle.vl_tree.specs.Read.{read_leaf}
use Rattle.vl_model.specs.Laws.{with_items}
use Rattle.gen_kit.specs.Families.{for_each}
use Rattle.leaf_parts.specs.Parts.{row_moves}
use Rattle.leaf_parts.proofs.link.shifts.Given as goal

abbrev pub invariant-loop-place : goal.invariant-loop-place
invariant-loop-place l = read_leaf l.work.leaf ≡ with_items (read_leaf l.fn.work.leaf) (for_each l.place (row_moves l.out l.high))
