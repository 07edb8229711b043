use Rattle.std.proofs.Common.{◌≡◌}
use Rattle.vl_tree.specs.Read.{read}
use Rattle.gen_kit.specs.Families.{or_upto}
use Rattle.leaf_glue.specs.Sent.{gated_port}
use Rattle.leaf_glue.proofs.sent.out_flit.Given as goal

abbrev pub invariant-loop-port : goal.invariant-loop-port
invariant-loop-port l = read l.all ≡ or_upto l.port (gated_port l.plan l.tile l.domain l.out)
