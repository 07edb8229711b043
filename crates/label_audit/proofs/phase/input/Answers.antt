use Rattle.std.proofs.Common.{ap}
use Rattle.label_model.specs.Labels.{from}
use Rattle.label_audit.proofs.Bits.{only-in}
use Rattle.label_audit.proofs.phase.input.Goals as goal

pub returns : goal.returns
returns c = ap from (only-in c.args.domain c.requires)
