use Rattle.vl_tree.specs.Read.{read}
use Rattle.leaf_parts.specs.Parts.{names_of_link}
use Rattle.leaf_parts.proofs.Owned.{owners_more}
use Rattle.leaf_parts.proofs.link.owners_word.Goals as goal

pub loop-domain-preserved : goal.loop-domain-preserved
loop-domain-preserved c =
    owners_more (names_of_link c.args.out c.args.first) c.args.high c.loop-domain.domain (read c.loop-domain.word) (read c.in_ok-next.next) c.loop-domain.invariant c.in_ok-next.ensures
