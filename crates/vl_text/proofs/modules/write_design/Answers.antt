use Rattle.std.proofs.Common.{◌≡◌, ◌++◌, ◌∙◌, sym, ap, subst}
use Rattle.vl_tree.specs.Read.{read_leaves, read_design}
use Rattle.vl_tree.specs.Spells.{Spells}
use Rattle.vl_tree.specs.Layout.{each_text, leaf_text, top_text, design_text}
use Rattle.vl_tree.proofs.Written.{text_spells}
use Rattle.vl_text.proofs.modules.write_design.Goals as goal

pub returns-clause-spells : goal.returns-clause-spells
returns-clause-spells c =
    let d = read_design c.args.design.now in
    let front =
    ap (λ o. o ++ each_text leaf_text (read_leaves c.as_slice.result.now)) c.in_ok-out.ensures.items
    ∙ ap (λ ls. each_text leaf_text (read_leaves ls)) c.as_slice.ensures in
    let e : c.top.new.out.items ≡ design_text d =
    c.in_ok-top.ensures ∙ ap (λ o. o ++ top_text d.top) (c.in_ok-leaves.ensures ∙ front) in
    subst (λ bytes. Spells bytes d) (sym e) (text_spells d c.requires.plain)
