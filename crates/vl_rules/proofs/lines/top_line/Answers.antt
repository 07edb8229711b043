use Rattle.std.proofs.Common.{sym, ◌-◌, map}
use Rattle.std.proofs.lemmas.Option.{get_or_from_slice_get}
use Rattle.std.specs.Prelude.{codes}
use Rattle.vl_model.specs.Lines.{heading, port, joint}
use Rattle.vl_rules.proofs.Headed.{at-port, at-item}
use Rattle.vl_rules.proofs.lines.top_line.Goals as goal

pub returns-then-number-ports : goal.returns-then-number-ports
returns-then-number-ports c =
    at-port (heading (codes "noc")) port c.args.top.now.ports (map joint c.args.top.now.items) c.args.number c.len-ports.result c.at.result.now
    c.len-ports.ensures c.if-number-eq0.false c.if-number-ports.true (sym (get_or_from_slice_get c.args.top.now.ports (c.args.number - 1) c.at.result.now c.at.result.now c.at.ensures))

pub returns : goal.returns
returns c = at-item (heading (codes "noc")) port joint c.args.top.now.ports c.args.top.now.items c.args.number c.len-ports.result c.at-2.result.now
    c.len-ports.ensures c.if-number-ports.false c.requires (sym (get_or_from_slice_get c.args.top.now.items (c.args.number - 1 - c.len-ports.result) c.at-2.result.now c.at-2.result.now c.at-2.ensures))
