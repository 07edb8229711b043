use Rattle.std.proofs.Common.{◌≡◌}
use Rattle.vl_tree.specs.Read.{read}
use Rattle.gen_kit.specs.Families.{or_upto}
use Rattle.leaf_glue.specs.Sent.{gated_front}
use Rattle.leaf_glue.proofs.sent.leaving_flit.Given as goal

abbrev pub invariant-loop-channel : goal.invariant-loop-channel
invariant-loop-channel l = read l.all ≡ or_upto l.channel (gated_front l.plan l.domain l.port)
