use Rattle.std.proofs.Common.{◌≡◌, ℕ, List, [], ◌∷◌, ◌++◌, length, take, refl, sym, ◌∙◌, ap, subst}
use Rattle.std.specs.Prelude.{Some}
use Rattle.vl_tree.specs.declared.tree.TopItem.TheVariants.{Wire, Instance}
use Rattle.vl_tree.specs.Values.{Name, Leaf}
use Rattle.vl_tree.specs.Read.{read_leaf, read_leaves}
use Rattle.vl_model.specs.Lines.{leaf_named}
use Rattle.vl_model.specs.Whole.{Of}
use Rattle.vl_run.proofs.Fresh.{all-leaves}
use Rattle.label_audit.specs.declared.part.Part.{Part}
use Rattle.label_audit.specs.Whole.{IsPart, AreParts}
use Rattle.label_audit.proofs.Added.{wire-more, instance-more}
use Rattle.label_audit.proofs.phase.add_part.Goals as goal

pub returns-in_ok-push-in-Some : goal.returns-in_ok-push-in-Some
returns-in_ok-push-in-Some c = λ is has before. (
    let ls : List Leaf = read_leaves c.args.library.now.leaves.now in
    let part : Part = record { leaf = c.in-Some.known; joins = c.as_slice-in-Some.result } in
    let named : Some (read_leaf c.in-Some.known.leaf.now) ≡ leaf_named (take (length c.args.library.now.leaves.now) ls) c.as_slice.result.now = c.in-Some.ensures.leaf in
    let leaf : leaf_named ls c.in-Instance.leaf ≡ Some (read_leaf c.in-Some.known.leaf.now) =
    ap (λ z. leaf_named z c.in-Instance.leaf) (sym (all-leaves c.args.library.now.leaves.now)) ∙ ap (leaf_named (take (length c.args.library.now.leaves.now) ls)) (sym c.as_slice.ensures) ∙ sym named in
    let here : IsPart (read_leaf c.in-Some.known.leaf.now) c.in-Instance.joins part = (refl, c.as_slice-in-Some.ensures, c.in-Some.ensures.declared) in
    let at : Of (leaf_named ls c.in-Instance.leaf) (λ y. IsPart y c.in-Instance.joins part) = subst (λ o. Of o (λ y. IsPart y c.in-Instance.joins part)) (sym leaf) here in
    let all = instance-more ls 0 is c.args.parts.now.items c.in-Instance.leaf c.in-Instance.name c.in-Instance.joins part at before in
    subst (λ i. AreParts ls (is ++ i ∷ []) c.push.new.self.items) (sym c.in-Instance.is)
    (subst (AreParts ls (is ++ Instance c.in-Instance.leaf c.in-Instance.name c.in-Instance.joins ∷ [])) (sym c.in_ok-push-in-Some.ensures.items) all))

pub returns-in-Wire : goal.returns-in-Wire
returns-in-Wire c = λ is has before.
    subst (λ i. AreParts (read_leaves c.args.library.now.leaves.now) (is ++ i ∷ []) c.args.parts.now.items) (sym c.in-Wire.is)
    (wire-more (read_leaves c.args.library.now.leaves.now) 0 is c.args.parts.now.items c.in-Wire.high c.in-Wire.name before)
