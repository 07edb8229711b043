use Rattle.std.proofs.Common.{◌≡◌, ◌+◌}
use Rattle.vl_tree.specs.Read.{read_leaf}
use Rattle.vl_model.specs.Laws.{with_items}
use Rattle.gen_kit.specs.Families.{for_each}
use Rattle.leaf_tie.specs.Names.{alloc_names}
use Rattle.leaf_tie.specs.Tie.{alloc_size}
use Rattle.leaf_tie.specs.Alloc.{active_move}
use Rattle.leaf_parts.proofs.alloc.all_active_moves.Given as goal

abbrev pub invariant-loop-class : goal.invariant-loop-class
invariant-loop-class l = read_leaf l.work.leaf ≡ with_items (read_leaf l.fn.work.leaf) (for_each l.class (λ k. for_each ((alloc_size l.plan l.domain l.out).size + 1) (active_move (alloc_names l.domain l.out) (alloc_size l.plan l.domain l.out) k)))
