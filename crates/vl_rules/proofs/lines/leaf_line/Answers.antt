use Rattle.std.proofs.Common.{◌-◌, ◌∙◌, sym, ap, map}
use Rattle.std.proofs.lemmas.Option.{get_or_from_slice_get}
use Rattle.std.proofs.Math.ListN.{get_or-map}
use Rattle.vl_tree.specs.Read.{read_item, read_items}
use Rattle.vl_model.specs.Lines.{heading, port, item}
use Rattle.vl_rules.proofs.Headed.{at-port, at-item}
use Rattle.vl_rules.proofs.lines.leaf_line.Goals as goal

pub returns-then-number-ports : goal.returns-then-number-ports
returns-then-number-ports c =
    at-port (heading c.args.leaf.now.name) port c.args.leaf.now.ports (map item (read_items c.args.leaf.now.items)) c.args.number c.len-ports.result c.at.result.now
    c.len-ports.ensures c.if-number-eq0.false c.if-number-ports.true (sym (get_or_from_slice_get c.args.leaf.now.ports (c.args.number - 1) c.at.result.now c.at.result.now c.at.ensures))

pub returns : goal.returns
returns c = at-item (heading c.args.leaf.now.name) port item c.args.leaf.now.ports (read_items c.args.leaf.now.items) c.args.number c.len-ports.result (read_item c.at-2.result.now)
    c.len-ports.ensures c.if-number-ports.false c.requires
    (ap read_item (sym (get_or_from_slice_get c.args.leaf.now.items (c.args.number - 1 - c.len-ports.result) c.at-2.result.now c.at-2.result.now c.at-2.ensures)) ∙ sym (get_or-map read_item c.args.leaf.now.items (c.args.number - 1 - c.len-ports.result) c.at-2.result.now))
