use Rattle.std.proofs.Common.{[], ◌∷◌, ◌++◌, ◌∙◌, ap}
use Rattle.std.proofs.lemmas.List.{map-append}
use Rattle.vl_tree.specs.Read.{read_leaf, read_leaves}
use Rattle.leaf_tie.specs.Names.{leaf_module}
use Rattle.gen_top.proofs.Rows.{map_more}
use Rattle.gen_top.proofs.design.all_leaves.Goals as goal

pub loop-tile-preserved : goal.loop-tile-preserved
loop-tile-preserved c =
    let leaf = c.in_ok-leaf_of.field-0 in
    map_more (leaf_module c.args.plan.now) c.loop-tile.tile [] (read_leaves c.loop-tile.leaves) (read_leaves c.push.new.self) c.loop-tile.invariant
    (ap read_leaves c.in_ok-push.ensures.ok ∙ (map-append read_leaf c.loop-tile.leaves (leaf ∷ []) ∙ ap (λ x. read_leaves c.loop-tile.leaves ++ x ∷ []) c.in_ok-leaf_of.ensures))
