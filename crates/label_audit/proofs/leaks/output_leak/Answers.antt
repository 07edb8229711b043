use Rattle.std.proofs.Common.{arith}
use Rattle.label_audit.proofs.Shapes.{host-within, few-ports}
use Rattle.label_audit.proofs.leaks.output_leak.Goals as goal

pub port_leak-requires-clause-host : goal.port_leak-requires-clause-host
port_leak-requires-clause-host c = host-within c.args.shape.now c.requires.shape c.args.position c.requires.within

pub port_leak-requires-clause-small : goal.port_leak-requires-clause-small
port_leak-requires-clause-small c = let few = few-ports c.args.shape.now c.requires.shape in let within = c.requires.within in omega (arith, few, within)
