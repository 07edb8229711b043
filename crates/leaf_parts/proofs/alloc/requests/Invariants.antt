use Rattle.std.proofs.Common.{◌≡◌}
use Rattle.vl_tree.specs.Read.{read}
use Rattle.gen_kit.specs.Families.{or_upto}
use Rattle.leaf_tie.specs.Names.{alloc_names}
use Rattle.leaf_tie.specs.Tie.{alloc_size}
use Rattle.leaf_tie.specs.Alloc.{asks_class}
use Rattle.leaf_parts.proofs.alloc.requests.Given as goal

abbrev pub invariant-loop-class : goal.invariant-loop-class
invariant-loop-class l = read l.all ≡ or_upto l.class (asks_class l.plan l.domain l.tile l.out (alloc_names l.domain l.out) (alloc_size l.plan l.domain l.out))
