use Rattle.std.proofs.Common.{arith}
use Rattle.gen_kit.proofs.Listed.{port-count}
use Rattle.gen_kit.proofs.ports.top_port_count.Goals as goal

pub returns : goal.returns
returns c = let all = port-count c.args.plan.now in omega arith
