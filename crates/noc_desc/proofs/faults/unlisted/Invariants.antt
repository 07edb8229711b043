use Rattle.std.proofs.Common.{◌≡◌, ◌+◌, length}
use Rattle.toml.specs.View.{members_view}
use Rattle.noc_desc.specs.Faults.{unlisted_from}
use Rattle.noc_desc.proofs.faults.unlisted.Given as goal

-- the members that are left decide, and the number counts those before them
abbrev pub invariant-loop-key : goal.invariant-loop-key
invariant-loop-key l =
    (goal.iterator-loop-key).can_next l.key-iterator ×
    (goal.iterator-loop-key).is_finite l.key-iterator ×
    (l.number + length l.key-iterator ≡ length l.table.entries) ×
    (unlisted_from l.kind l.number (members_view l.key-iterator) ≡ unlisted_from l.kind 0 (members_view l.table.entries))
