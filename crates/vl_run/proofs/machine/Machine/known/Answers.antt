use Rattle.vl_tree.specs.Read.{read_design}
use Rattle.vl_tree.proofs.Plainly.{plain_is}
use Rattle.vl_run.proofs.machine.Machine.known.Goals as goal

pub returns : goal.returns
returns c = record { plain = plain_is (read_design c.args.self.now.sound.design) c.args.self.now.sound.plain; rules = c.args.self.now.sound.rules }
