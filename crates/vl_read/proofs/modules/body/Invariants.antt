use Rattle.std.proofs.Common.{◌≡◌, length}
use Rattle.vl_tree.specs.Read.{read_leaves}
use Rattle.vl_read.specs.View.{placed}
use Rattle.vl_read.specs.Parts as parts
use Rattle.vl_read.specs.Lists.{more_of}
use Rattle.vl_read.proofs.modules.body.Given as goal

abbrev pub invariant-leaves : goal.invariant-leaves
invariant-leaves l =
    more_of (read_leaves l.leaves) (parts.modules_behind (placed l.rest)) ≡ parts.modules_behind (placed l.ts)

abbrev pub decreases-leaves : goal.decreases-leaves
decreases-leaves l = length (placed l.rest)
