use Rattle.vl_tree.specs.Read.{read_design}
use Rattle.vl_tree.proofs.Plainly.{is_plain_design}
use Rattle.vl_rules.proofs.sound.Sound.new.Goals as goal

pub invariant_of-result : goal.invariant_of-result
invariant_of-result c =
    record { plain = is_plain_design (read_design c.args.design) c.requires.plain; rules = c.requires.rules }
