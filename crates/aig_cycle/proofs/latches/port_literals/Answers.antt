use Rattle.std.proofs.Common.{◌+◌, ◌∙◌}
use Rattle.aig_model.specs.Form.{word}
use Rattle.aig_cycle.proofs.Latched.{plain-bits}
use Rattle.aig_cycle.proofs.latches.port_literals.Goals as goal

pub returns-clause-value : goal.returns-clause-value
returns-clause-value c v e = c.in_ok-all.ensures.value v e ∙ plain-bits (word v c.args.bits.now) 0 (c.args.high + 1)
