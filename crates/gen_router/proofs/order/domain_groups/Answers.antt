use Rattle.std.proofs.Common.{[], ◌∷◌, ◌++◌, sym, ap, ◌∙◌}
use Rattle.vl_tree.specs.Read.{read_leaf}
use Rattle.gen_router.specs.Given.{first_groups, last_groups}
use Rattle.vl_model.specs.Laws.{with_items}
use Rattle.leaf_parts.specs.Phases.{all_of}
use Rattle.gen_router.proofs.Together.{groups_whole}
use Rattle.leaf_parts.proofs.Loops.{items_none}
use Rattle.gen_router.proofs.Together.{groups_joined, one_group, part_there, part_else}
use Rattle.gen_router.proofs.order.domain_groups.Goals as goal

pub returns : goal.returns
returns c =
    let h0 = c.in_ok-first_groups.ensures in
    let h1 = c.in_ok-last_groups.ensures in
    let e0 = groups_joined c.args.phase (first_groups c.args.plan.now c.args.tile c.args.domain) (last_groups c.args.plan.now c.args.tile c.args.domain) (read_leaf c.args.work.now.leaf) (read_leaf c.first_groups.new.work.leaf) (read_leaf c.last_groups.new.work.leaf) h0 h1 in
    e0 ∙ ap (λ gs. with_items (read_leaf c.args.work.now.leaf) (all_of c.args.phase gs)) (groups_whole c.args.plan.now c.args.tile c.args.domain)
