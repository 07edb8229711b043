use Rattle.std.proofs.Common.{arith}
use Rattle.label_audit.proofs.phase.owner.Goals as goal

pub overflow_cast-i : goal.overflow_cast-i
overflow_cast-i c = let few = c.known.ensures.host_count in let within = c.requires in record { fits = omega (arith, few, within) }
