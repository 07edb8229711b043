use Rattle.std.proofs.Common.{◌≡◌, ℕ, length, sym, ◌∙◌, ap, subst, arith}
use Rattle.std.specs.List.{AllByRecursion}
use Rattle.std.proofs.lemmas.List.{length-replicate}
use Rattle.vl_tree.specs.Values.{Name, Design}
use Rattle.vl_tree.specs.Read.{read_leaves, read_design}
use Rattle.vl_model.specs.Lines.{top_lines}
use Rattle.vl_model.proofs.One.{known}
use Rattle.vl_run.specs.Emit.{place_in}
use Rattle.vl_run.specs.Top.{places_of}
use Rattle.vl_run.specs.Fresh.{AllFresh, HasLeaf}
use Rattle.vl_run.proofs.Placed.{places-of}
use Rattle.vl_run.proofs.machine.begin.Goals as goal

pub fresh_parts-requires-clause-leaves : goal.fresh_parts-requires-clause-leaves
fresh_parts-requires-clause-leaves c =
    let d : Design = read_design c.args.design.now in
    let ls : read_leaves c.in_ok-library.library.leaves.now ≡ d.leaves = ap read_leaves (c.in_ok-library.ensures.same ∙ c.as_slice.ensures) in
    subst (λ z. AllByRecursion (HasLeaf z) c.as_slice-2.result.now) (sym ls) (subst (AllByRecursion (HasLeaf d.leaves)) (sym c.as_slice-2.ensures) (known d c.requires))

pub returns : goal.returns
returns c =
    let d : Design = read_design c.args.design.now in
    let t : Name → ℕ = place_in c.in_ok-declared.declared in
    let ls : read_leaves c.in_ok-library.library.leaves.now ≡ d.leaves = ap read_leaves (c.in_ok-library.ensures.same ∙ c.as_slice.ensures) in
    let tops : length c.in_ok-tops.tops ≡ c.len.result = ap length c.in_ok-tops.ensures ∙ length-replicate c.len.result 0 in
    let lines : c.len.result ≡ length (top_lines d.top) = c.len.ensures in record {
      top = t;
      places = places-of c.in_ok-declared.declared (top_lines d.top) c.in_ok-declared.ensures;
      fresh = subst (λ z. AllFresh t z d.top.items c.in_ok-parts.parts.items) ls
          (subst (λ is. AllFresh t (read_leaves c.in_ok-library.library.leaves.now) is c.in_ok-parts.parts.items) c.as_slice-2.ensures c.in_ok-parts.ensures);
      room = omega arith;
      named = c.in_ok-ports.ensures ∙ ap (places_of t) c.as_slice-3.ensures;
    }
