use Rattle.std.proofs.Common.{[], ◌∷◌, ◌++◌, sym}
use Rattle.vl_tree.specs.Read.{read_leaf}
use Rattle.leaf_tie.specs.Names.{leaf_names, net_names}
use Rattle.leaf_tie.specs.Glue.{on_group}
use Rattle.gen_router.specs.Given.{its_credits}
use Rattle.leaf_parts.proofs.Loops.{items_none}
use Rattle.gen_router.proofs.Together.{groups_joined, one_group, part_there, part_else}
use Rattle.gen_router.proofs.order.channel_part.Goals as goal

pub returns : goal.returns
returns c =
    let h0 = one_group c.args.phase (on_group c.args.plan.now leaf_names net_names c.args.domain c.args.out c.args.channel) (read_leaf c.args.work.now.leaf) (read_leaf c.on_channel.new.work.leaf) c.in_ok-on_channel.ensures in
    let h1 = one_group c.args.phase (its_credits c.args.plan.now c.args.tile c.args.domain c.args.out c.args.channel) (read_leaf c.on_channel.new.work.leaf) (read_leaf c.its_credits.new.work.leaf) c.in_ok-its_credits.ensures in
    let e0 = groups_joined c.args.phase (on_group c.args.plan.now leaf_names net_names c.args.domain c.args.out c.args.channel ∷ []) (its_credits c.args.plan.now c.args.tile c.args.domain c.args.out c.args.channel ∷ []) (read_leaf c.args.work.now.leaf) (read_leaf c.on_channel.new.work.leaf) (read_leaf c.its_credits.new.work.leaf) h0 h1 in
    e0
