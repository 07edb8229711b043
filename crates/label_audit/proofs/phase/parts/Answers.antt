use Rattle.std.proofs.Common.{◌≡◌, ℕ, ◌+◌, List, [], ◌∷◌, ◌++◌, take, sym, ◌∙◌, ap, subst}
use Rattle.std.proofs.lemmas.List.{take_more}
use Rattle.vl_tree.specs.declared.tree.TopItem.{TopItem}
use Rattle.vl_tree.specs.Values.{Name, Leaf}
use Rattle.vl_tree.specs.Read.{read_leaves}
use Rattle.vl_run.proofs.Fresh.{leaf-at}
use Rattle.label_audit.specs.Whole.{AreParts}
use Rattle.label_audit.proofs.phase.parts.Goals as goal

pub loop-item-preserved : goal.loop-item-preserved
loop-item-preserved c =
    let ls : List Leaf = read_leaves c.args.library.now.leaves.now in
    let is : List TopItem = c.args.items.now in
    let i : ℕ = c.loop-item.item-index in
    let x : TopItem = c.item-item.result in
    let known = leaf-at ls is i x c.loop-item-test.true c.item-item.is c.requires.leaves in
    let more : take (i + 1) is ≡ take i is ++ x ∷ [] = take_more is i x c.loop-item-test.true ∙ ap (λ y. take i is ++ y ∷ []) (sym c.item-item.is) in
    subst (λ z. AreParts ls z c.add_part.new.parts.items) (sym more) (c.in_ok-add_part.ensures (take i is) known c.loop-item.invariant)
