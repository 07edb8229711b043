use Rattle.std.proofs.Common.{◌≡◌, ℕ, List, [], ◌∷◌, ◌++◌, length, take, sym, ◌∙◌, ap, subst}
use Rattle.std.specs.Prelude.{Some}
use Rattle.vl_tree.specs.declared.tree.TopItem.TheVariants.{Instance}
use Rattle.vl_tree.specs.Values.{Name, Leaf}
use Rattle.vl_tree.specs.Read.{read_leaf, read_leaves}
use Rattle.vl_model.specs.Lines.{leaf_named}
use Rattle.vl_run.specs.Emit.{place_in}
use Rattle.vl_run.specs.Fresh.{IsFresh, FreshAt, AllFresh}
use Rattle.vl_run.proofs.Fresh.{wire-more, instance-more, all-leaves}
use Rattle.vl_run.proofs.parts.add_part.Goals as goal

pub returns-in_ok-push-in-Some : goal.returns-in_ok-push-in-Some
returns-in_ok-push-in-Some c = λ is has fresh. (
    let t : Name → ℕ = place_in c.args.top.now.declared.now in
    let ls : List Leaf = read_leaves c.args.library.now.leaves.now in
    let part = c.in_ok-part-in-Some.part in
    let named : Some (read_leaf c.in-Some.known.leaf.now) ≡ leaf_named (take (length c.args.library.now.leaves.now) ls) c.as_slice.result.now = c.in-Some.ensures.leaf in
    let leaf : leaf_named ls c.in-Instance.leaf ≡ Some (read_leaf c.in-Some.known.leaf.now) =
    ap (λ z. leaf_named z c.in-Instance.leaf) (sym (all-leaves c.args.library.now.leaves.now)) ∙ ap (leaf_named (take (length c.args.library.now.leaves.now) ls)) (sym c.as_slice.ensures) ∙ sym named in
    let here : IsFresh t (read_leaf c.in-Some.known.leaf.now) c.in-Instance.joins part = subst (λ js. IsFresh t (read_leaf c.in-Some.known.leaf.now) js part) c.as_slice-in-Some.ensures c.in_ok-part-in-Some.ensures in
    let at : FreshAt t (leaf_named ls c.in-Instance.leaf) c.in-Instance.joins part = subst (λ o. FreshAt t o c.in-Instance.joins part) (sym leaf) here in
    let all = instance-more t ls is c.args.parts.now.items c.in-Instance.leaf c.in-Instance.name c.in-Instance.joins part at fresh in
    subst (λ i. AllFresh t ls (is ++ i ∷ []) c.push.new.self.items) (sym c.in-Instance.is)
    (subst (AllFresh t ls (is ++ Instance c.in-Instance.leaf c.in-Instance.name c.in-Instance.joins ∷ [])) (sym c.in_ok-push-in-Some.ensures.items) all))

pub returns-in-Wire : goal.returns-in-Wire
returns-in-Wire c = λ is has fresh.
    subst (λ i. AllFresh (place_in c.args.top.now.declared.now) (read_leaves c.args.library.now.leaves.now) (is ++ i ∷ []) c.args.parts.now.items) (sym c.in-Wire.is)
    (wire-more (place_in c.args.top.now.declared.now) (read_leaves c.args.library.now.leaves.now) is c.args.parts.now.items c.in-Wire.high c.in-Wire.name fresh)
