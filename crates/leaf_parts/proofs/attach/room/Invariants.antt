use Rattle.std.proofs.Common.{◌≡◌}
use Rattle.vl_tree.specs.Read.{read}
use Rattle.gen_kit.specs.Families.{or_upto}
use Rattle.leaf_parts.specs.Entries.{has_room}
use Rattle.leaf_parts.proofs.attach.room.Given as goal

abbrev pub invariant-loop-channel : goal.invariant-loop-channel
invariant-loop-channel l = read l.all ≡ or_upto l.channel (has_room l.plan l.domain)
