use Rattle.std.proofs.Common.{◌≡◌, ◌∙◌, ap, arith}
use Rattle.noc_model.specs.Place.{port_of, opposite_way, opposite}
use Rattle.noc_model.proofs.Ports.{opposite-near}
use Rattle.gen_top.proofs.joins.opposite.Goals as goal

pub port-requires : goal.port-requires
unfolding opposite
port-requires c =
    let near = opposite-near c.args.port in
    let is : port_of c.opposite.result ≡ opposite c.args.port =
    ap port_of (c.opposite.ensures ∙ ap opposite_way c.of_port.ensures) in
    omega arith

pub returns : goal.returns
unfolding opposite
returns c = c.port.ensures ∙ ap port_of (c.opposite.ensures ∙ ap opposite_way c.of_port.ensures)
