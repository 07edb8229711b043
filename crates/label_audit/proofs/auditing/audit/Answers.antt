use Rattle.std.proofs.Common.{◌≡◌, sym, ◌∙◌, ap, subst}
use Rattle.std.specs.List.{AllByRecursion}
use Rattle.vl_tree.specs.Values.{Design}
use Rattle.vl_tree.specs.Read.{read_leaves, read_design}
use Rattle.vl_model.proofs.One.{known}
use Rattle.vl_run.specs.Fresh.{HasLeaf}
use Rattle.label_audit.proofs.auditing.audit.Goals as goal

pub parts-requires-clause-leaves : goal.parts-requires-clause-leaves
parts-requires-clause-leaves c =
    let d : Design = read_design c.design-design.result.now in
    let ls : read_leaves c.in_ok-library.library.leaves.now ≡ d.leaves = ap read_leaves (c.in_ok-library.ensures.same ∙ c.as_slice.ensures) in
    subst (λ z. AllByRecursion (HasLeaf z) c.as_slice-2.result.now) (sym ls) (subst (AllByRecursion (HasLeaf d.leaves)) (sym c.as_slice-2.ensures) (known d c.design-design.ensures.sound))
