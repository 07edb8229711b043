use Rattle.std.proofs.Common.{◌≡◌}
use Rattle.vl_tree.specs.Read.{read}
use Rattle.leaf_tie.specs.Links.{owners_word}
use Rattle.leaf_parts.specs.Parts.{names_of_link}
use Rattle.leaf_parts.proofs.link.owners_word.Given as goal

abbrev pub invariant-loop-domain : goal.invariant-loop-domain
invariant-loop-domain l = read l.word ≡ owners_word (names_of_link l.out l.first) l.high l.domain
