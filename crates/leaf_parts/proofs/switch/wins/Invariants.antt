use Rattle.std.proofs.Common.{◌≡◌}
use Rattle.vl_tree.specs.Read.{read}
use Rattle.gen_kit.specs.Families.{or_upto}
use Rattle.leaf_parts.specs.Parts.{wins_port}
use Rattle.leaf_parts.proofs.switch.wins.Given as goal

abbrev pub invariant-loop-out : goal.invariant-loop-out
invariant-loop-out l = read l.all ≡ or_upto l.out (wins_port l.domain l.port)
