use Rattle.std.proofs.Common.{◌≡◌, IfOk, map, ◌∙◌, ap, subst}
use Rattle.vl_tree.specs.Read.{read_items, read_leaf}
use Rattle.vl_run.specs.Emit.{place_in}
use Rattle.label_audit.specs.Rows.{row_in}
use Rattle.label_audit.specs.Instances.{no_rows, carried_row, each_item, fed_rows}
use Rattle.label_audit.proofs.part.Part.next.Goals as goal

pub returns : goal.returns
returns c =
    let s = place_in c.args.self.now.leaf.declared.now in
    let l = read_leaf c.args.self.now.leaf.leaf.now in
    let rows = fed_rows s (place_in c.args.top.now.declared.now) l c.args.self.now.joins.now (map row_in c.args.top.now.rows.now) (map row_in c.args.kept.now) in
    subst (λ k. IfOk c.carry_all.result (λ v. map row_in v.items ≡ each_item (carried_row s rows) l.items (no_rows k))) c.lines.ensures
    (subst (λ rs. IfOk c.carry_all.result (λ v. map row_in v.items ≡ each_item (carried_row s rs) l.items (no_rows c.lines.result))) (ap (map row_in) c.as_slice.ensures.value ∙ c.in_ok-rows.ensures)
    (subst (λ is. IfOk c.carry_all.result (λ v. map row_in v.items ≡ each_item (carried_row s (map row_in c.as_slice.result.now)) (read_items is) (no_rows c.lines.result))) c.as_slice-items.ensures c.carry_all.ensures))
