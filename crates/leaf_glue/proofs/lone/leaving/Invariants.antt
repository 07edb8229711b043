use Rattle.std.proofs.Common.{◌≡◌}
use Rattle.vl_tree.specs.Read.{read}
use Rattle.gen_kit.specs.Families.{or_upto}
use Rattle.leaf_glue.specs.Lone.{output_place}
use Rattle.leaf_glue.proofs.lone.leaving.Given as goal

abbrev pub invariant-loop-out : goal.invariant-loop-out
invariant-loop-out l = read l.all ≡ or_upto l.out (output_place l.plan l.tile l.domain)
