use Rattle.std.proofs.Common.{◌≡◌, ◌+◌, ◌*◌, length, map, [], ◌∷◌}
use Rattle.vl_tree.specs.Read.{read}
use Rattle.vl_tree.specs.Reading.{expr_at}
use Rattle.vl_read.specs.View.{placed}
use Rattle.vl_read.specs.Picks.{parts_at}
use Rattle.vl_read.specs.Lists.{more_of}
use Rattle.vl_read.proofs.expr.+expr.Given as goal

abbrev pub invariant-parts-parts : goal.invariant-parts-parts
invariant-parts-parts l =
    more_of (map read l.parts) (parts_at (expr_at l.depth) (placed l.rest)) ≡ more_of (read l.fn.first ∷ []) (parts_at (expr_at l.depth) (placed l.ts))

abbrev pub decreases-parts-parts : goal.decreases-parts-parts
decreases-parts-parts l = length (placed l.rest)

abbrev pub decreases-expr : goal.decreases-expr
decreases-expr l = 10 * l.depth

abbrev pub decreases-level : goal.decreases-level
decreases-level l = 10 * l.depth + 5

abbrev pub decreases-named : goal.decreases-named
decreases-named l = 10 * l.depth + 4

abbrev pub decreases-behind_name : goal.decreases-behind_name
decreases-behind_name l = 10 * l.depth + 3

abbrev pub decreases-index : goal.decreases-index
decreases-index l = 10 * l.depth + 2

abbrev pub decreases-word : goal.decreases-word
decreases-word l = 10 * l.depth + 1

abbrev pub decreases-deep : goal.decreases-deep
decreases-deep l = 10 * l.depth + 4

abbrev pub decreases-group : goal.decreases-group
decreases-group l = 10 * l.depth + 3

abbrev pub decreases-inside : goal.decreases-inside
decreases-inside l = 10 * l.depth + 2

abbrev pub decreases-behind_first : goal.decreases-behind_first
decreases-behind_first l = 10 * l.depth + 1

abbrev pub decreases-cat : goal.decreases-cat
decreases-cat l = 10 * l.depth + 3

abbrev pub decreases-part : goal.decreases-part
decreases-part l = 10 * l.depth + 1

abbrev pub decreases-parts : goal.decreases-parts
decreases-parts l = 10 * l.depth + 2
