use Rattle.std.proofs.Common.{◌≡◌}
use Rattle.vl_tree.specs.Read.{read}
use Rattle.gen_kit.specs.Families.{or_upto}
use Rattle.leaf_glue.specs.Sent.{able_place}
use Rattle.leaf_glue.proofs.ready.able_places.Given as goal

abbrev pub invariant-loop-channel : goal.invariant-loop-channel
invariant-loop-channel l = read l.all ≡ or_upto l.channel (able_place l.plan l.tile l.domain l.out)
