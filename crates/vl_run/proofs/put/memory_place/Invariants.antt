use Rattle.std.proofs.Common.{◌≡◌, ◌+◌, drop}
use Rattle.vl_tree.specs.Read.{read_items}
use Rattle.vl_run.specs.Put.{memory_place}
use Rattle.vl_run.proofs.put.memory_place.Given as goal

abbrev pub invariant-loop-i : goal.invariant-loop-i
invariant-loop-i l = l.i + memory_place (read_items (drop l.i l.items)) l.left ≡ memory_place (read_items l.items) l.mem
