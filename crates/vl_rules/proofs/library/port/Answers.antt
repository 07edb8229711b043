use Rattle.std.proofs.Common.{◌∙◌, sym, ap, take}
use Rattle.std.proofs.Math.Seq.{take-length}
use Rattle.vl_tree.specs.Read.{read_leaf, read_items}
use Rattle.vl_model.specs.Lines.{leaf_lines, lookup}
use Rattle.vl_rules.specs.Scope.{declared_as}
use Rattle.vl_rules.proofs.Shelved.{shape-none, shape-some}
use Rattle.vl_rules.proofs.library.port.Goals as goal

pub returns-in-Some : goal.returns-in-Some
returns-in-Some c =
    c.port_shape.ensures
    ∙ shape-some c.args.known.now.leaf.now.ports (read_items c.args.known.now.leaf.now.items) c.args.name.now (declared_as c.args.name.now c.in-Some.entry)
    (sym (c.in-Some.ensures ∙ c.requires c.len-lines.result c.args.name.now
    ∙ ap (λ xs. lookup xs c.args.name.now) (ap (λ k. take k (leaf_lines (read_leaf c.args.known.now.leaf.now))) c.len-lines.ensures ∙ take-length (leaf_lines (read_leaf c.args.known.now.leaf.now)))))

pub returns-in-None : goal.returns-in-None
returns-in-None c =
    shape-none c.args.known.now.leaf.now.ports (read_items c.args.known.now.leaf.now.items) c.args.name.now
    (sym (c.in-None.ensures ∙ c.requires c.len-lines.result c.args.name.now
    ∙ ap (λ xs. lookup xs c.args.name.now) (ap (λ k. take k (leaf_lines (read_leaf c.args.known.now.leaf.now))) c.len-lines.ensures ∙ take-length (leaf_lines (read_leaf c.args.known.now.leaf.now)))))
