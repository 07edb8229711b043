use Rattle.std.proofs.Common.{◌%◌, ◌∙◌, sym, ap, arith, Some}
use Rattle.std.specs.Prelude.{nat_le}
use Rattle.gen_kit.specs.PortSpec.{port_of}
use Rattle.gen_kit.proofs.Listed.{port-at, port-count}
use Rattle.gen_kit.proofs.ports.top_port.Goals as goal

pub attach-host-requires : goal.attach-host-requires
attach-host-requires c = let all = port-count c.args.plan.now in let below = c.requires in omega arith

pub returns-clause-port : goal.returns-clause-port
returns-clause-port c =
    port-at c.args.plan.now c.args.i c.attach-host.result c.attach-host.ensures
    ∙ ap (λ h. Some (port_of (record { output = nat_le 5 (c.args.i % 11); high = h; kind = c.args.i % 11; tile = c.attach-host.result.tile; domain = c.attach-host.result.domain }))) (sym c.high.ensures)
