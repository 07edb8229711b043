use Rattle.std.proofs.Common.{[], ◌∷◌, ◌++◌, sym}
use Rattle.vl_tree.specs.Read.{read_leaf}
use Rattle.noc_model.specs.Plan.{hosts}
use Rattle.gen_router.specs.Ordered.{its_attachment}
use Rattle.leaf_parts.proofs.Loops.{items_none}
use Rattle.gen_router.proofs.Together.{groups_joined, one_group, part_there, part_else}
use Rattle.gen_router.proofs.order.hosted_part.Goals as goal

pub returns-then-not-hosts : goal.returns-then-not-hosts
returns-then-not-hosts c =
    part_else c.args.phase (hosts c.args.plan.now c.args.tile c.args.domain) (its_attachment c.args.plan.now c.args.tile c.args.domain) ([]) (read_leaf c.args.work.now.leaf) (read_leaf c.args.work.now.leaf) (sym c.if-not-hosts.ensures) (items_none (read_leaf c.args.work.now.leaf))

pub returns : goal.returns
returns c =
    let h0 = c.in_ok-hosted.ensures in
    part_there c.args.phase (hosts c.args.plan.now c.args.tile c.args.domain) (its_attachment c.args.plan.now c.args.tile c.args.domain) ([]) (read_leaf c.args.work.now.leaf) (read_leaf c.hosted.new.work.leaf) (sym c.if-not-hosts.ensures) h0
