use Rattle.vl_tree.specs.Read.{read_design}
use Rattle.vl_tree.proofs.Plainly.{plain_is}
use Rattle.vl_rules.proofs.sound.Sound.design.Goals as goal

pub returns-clause-sound : goal.returns-clause-sound
returns-clause-sound c =
    record { plain = plain_is (read_design c.args.self.now.design) c.args.self.now.plain; rules = c.args.self.now.rules }
