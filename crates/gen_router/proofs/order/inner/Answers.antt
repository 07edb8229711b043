use Rattle.std.proofs.Common.{[], ◌∷◌, ◌++◌, sym}
use Rattle.vl_tree.specs.Read.{read_leaf}
use Rattle.std.specs.Prelude.{length}
use Rattle.gen_router.specs.Ordered.{its_slots, its_links, its_groups}
use Rattle.leaf_tie.specs.Whole.{each_group}
use Rattle.leaf_parts.proofs.Loops.{items_none}
use Rattle.gen_router.proofs.Together.{groups_joined, one_group, part_there, part_else}
use Rattle.gen_router.proofs.order.inner.Goals as goal

pub returns : goal.returns
returns c =
    let h0 = c.in_ok-all_slots.ensures in
    let h1 = c.in_ok-all_links.ensures in
    let h2 = c.in_ok-all_domains.ensures in
    let e1 = groups_joined c.args.phase (its_links c.args.plan.now c.args.tile) (each_group (length c.args.plan.now.domains) (its_groups c.args.plan.now c.args.tile)) (read_leaf c.all_slots.new.work.leaf) (read_leaf c.all_links.new.work.leaf) (read_leaf c.all_domains.new.work.leaf) h1 h2 in
    let e0 = groups_joined c.args.phase (its_slots c.args.plan.now c.args.tile) ((its_links c.args.plan.now c.args.tile) ++ (each_group (length c.args.plan.now.domains) (its_groups c.args.plan.now c.args.tile))) (read_leaf c.args.work.now.leaf) (read_leaf c.all_slots.new.work.leaf) (read_leaf c.all_domains.new.work.leaf) h0 e1 in
    e0
