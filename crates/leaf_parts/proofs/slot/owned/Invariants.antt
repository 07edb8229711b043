use Rattle.std.proofs.Common.{◌≡◌, ◌≤◌, drop, length}
use Rattle.vl_tree.specs.Read.{read}
use Rattle.leaf_tie.specs.Names.{slot_names}
use Rattle.leaf_tie.specs.Slots.{owned}
use Rattle.leaf_parts.proofs.slot.owned.Given as goal

abbrev pub invariant-loop-k : goal.invariant-loop-k
invariant-loop-k l = (l.k ≤ length l.plan.slots) × (read l.rest ≡ owned (slot_names l.first) l.high l.k (drop l.k l.plan.slots) l.domain)

abbrev pub decreases-loop-k : goal.decreases-loop-k
decreases-loop-k l = l.k
