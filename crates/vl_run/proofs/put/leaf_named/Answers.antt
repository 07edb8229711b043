use Rattle.std.proofs.Common.{◌≡◌, ℕ, ◌+◌, ◌<◌, Bool, true, false, bytes_eq, List, ◌∷◌, length, get_or, drop, sym, ap, ◌∙◌, arith, Some}
use Rattle.std.specs.Prelude.{if◌then◌else◌}
use Rattle.std.proofs.lemmas.List.{at_drop_more}
use Rattle.vl_tree.specs.declared.tree.Leaf as tree
use Rattle.vl_tree.specs.Values.{Name}
use Rattle.vl_tree.specs.Read.{read_leaf, read_leaves}
use Rattle.vl_model.specs.Lines.{leaf_named}
use Rattle.vl_run.proofs.put.leaf_named.Goals as goal

-- the first of the leaves that are left is the one of the name, or the search goes on
next : (ls : List tree.Leaf) (n : Name) (i : ℕ) (x : tree.Leaf) (b : Bool) → i < length ls → x ≡ get_or ls i x → bytes_eq n (read_leaf x).name ≡ b
    → leaf_named (read_leaves (drop i ls)) n ≡ (if b then Some (read_leaf x) else leaf_named (read_leaves (drop (i + 1) ls)) n)
next ls n i x b less is e =
    at_drop_more (λ (ys : List tree.Leaf). leaf_named (read_leaves ys) n) ls i x less
    ∙ ap (λ (z : tree.Leaf). leaf_named (read_leaves (z ∷ drop (i + 1) ls)) n) (sym is)
    ∙ ap (λ (c : Bool). if c then Some (read_leaf x) else leaf_named (read_leaves (drop (i + 1) ls)) n) e

pub returns-then-eq-clause-some : goal.returns-then-eq-clause-some
returns-then-eq-clause-some c =
    sym c.loop-leaf.invariant
    ∙ next c.args.leaves.now c.args.name.now c.loop-leaf.leaf-index c.leaf-item.result true (omega arith) c.leaf-item.is
    (ap (bytes_eq c.args.name.now) (sym c.as_slice.ensures) ∙ sym c.eq.ensures ∙ c.if-eq.true)

pub loop-leaf-preserved : goal.loop-leaf-preserved
loop-leaf-preserved c =
    sym (next c.args.leaves.now c.args.name.now c.loop-leaf.leaf-index c.leaf-item.result false (omega arith) c.leaf-item.is
    (ap (bytes_eq c.args.name.now) (sym c.as_slice.ensures) ∙ sym c.eq.ensures ∙ c.if-eq.false))
    ∙ c.loop-leaf.invariant
