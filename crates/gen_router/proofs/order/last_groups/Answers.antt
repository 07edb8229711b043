use Rattle.std.proofs.Common.{[], ◌∷◌, ◌++◌, sym}
use Rattle.vl_tree.specs.Read.{read_leaf}
use Rattle.gen_router.specs.Ordered.{its_flits, its_words, its_buffers}
use Rattle.gen_router.specs.Given.{hosted_part}
use Rattle.leaf_parts.proofs.Loops.{items_none}
use Rattle.gen_router.proofs.Together.{groups_joined, one_group, part_there, part_else}
use Rattle.gen_router.proofs.order.last_groups.Goals as goal

pub returns : goal.returns
returns c =
    let h0 = c.in_ok-all_flits.ensures in
    let h1 = c.in_ok-all_words.ensures in
    let h2 = c.in_ok-all_buffers.ensures in
    let h3 = c.in_ok-hosted_part.ensures in
    let e2 = groups_joined c.args.phase (its_buffers c.args.plan.now c.args.tile c.args.domain) (hosted_part c.args.plan.now c.args.tile c.args.domain) (read_leaf c.all_words.new.work.leaf) (read_leaf c.all_buffers.new.work.leaf) (read_leaf c.hosted_part.new.work.leaf) h2 h3 in
    let e1 = groups_joined c.args.phase (its_words c.args.plan.now c.args.tile c.args.domain) ((its_buffers c.args.plan.now c.args.tile c.args.domain) ++ (hosted_part c.args.plan.now c.args.tile c.args.domain)) (read_leaf c.all_flits.new.work.leaf) (read_leaf c.all_words.new.work.leaf) (read_leaf c.hosted_part.new.work.leaf) h1 e2 in
    let e0 = groups_joined c.args.phase (its_flits c.args.plan.now c.args.tile c.args.domain) ((its_words c.args.plan.now c.args.tile c.args.domain) ++ ((its_buffers c.args.plan.now c.args.tile c.args.domain) ++ (hosted_part c.args.plan.now c.args.tile c.args.domain))) (read_leaf c.args.work.now.leaf) (read_leaf c.all_flits.new.work.leaf) (read_leaf c.hosted_part.new.work.leaf) h0 e1 in
    e0
