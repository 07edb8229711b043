use Rattle.std.proofs.Common.{[], ◌∷◌, ◌++◌, sym}
use Rattle.vl_tree.specs.Read.{read_leaf}
use Rattle.leaf_tie.specs.Names.{leaf_names, net_names, port_names}
use Rattle.flit_word.specs.Words.{dest_bits}
use Rattle.leaf_tie.specs.Glue.{on_group, eject_group}
use Rattle.leaf_parts.specs.Entries.{entry_group}
use Rattle.gen_router.specs.Given.{local_buffers}
use Rattle.leaf_parts.proofs.Loops.{items_none}
use Rattle.gen_router.proofs.Together.{groups_joined, one_group, part_there, part_else}
use Rattle.gen_router.proofs.order.hosted.Goals as goal

pub returns : goal.returns
returns c =
    let h0 = one_group c.args.phase (on_group c.args.plan.now leaf_names net_names c.args.domain 0 0) (read_leaf c.args.work.now.leaf) (read_leaf c.on_channel.new.work.leaf) c.in_ok-on_channel.ensures in
    let h1 = one_group c.args.phase (eject_group c.args.plan.now c.args.tile leaf_names net_names (port_names c.args.tile) (dest_bits c.args.plan.now) c.args.domain) (read_leaf c.on_channel.new.work.leaf) (read_leaf c.eject.new.work.leaf) c.in_ok-eject.ensures in
    let h2 = one_group c.args.phase (entry_group c.args.plan.now c.args.tile c.args.domain) (read_leaf c.eject.new.work.leaf) (read_leaf c.attachment.new.work.leaf) c.in_ok-attachment.ensures in
    let h3 = c.in_ok-local_buffers.ensures in
    let e2 = groups_joined c.args.phase (entry_group c.args.plan.now c.args.tile c.args.domain ∷ []) (local_buffers c.args.plan.now c.args.domain) (read_leaf c.eject.new.work.leaf) (read_leaf c.attachment.new.work.leaf) (read_leaf c.local_buffers.new.work.leaf) h2 h3 in
    let e1 = groups_joined c.args.phase (eject_group c.args.plan.now c.args.tile leaf_names net_names (port_names c.args.tile) (dest_bits c.args.plan.now) c.args.domain ∷ []) ((entry_group c.args.plan.now c.args.tile c.args.domain ∷ []) ++ (local_buffers c.args.plan.now c.args.domain)) (read_leaf c.on_channel.new.work.leaf) (read_leaf c.eject.new.work.leaf) (read_leaf c.local_buffers.new.work.leaf) h1 e2 in
    let e0 = groups_joined c.args.phase (on_group c.args.plan.now leaf_names net_names c.args.domain 0 0 ∷ []) ((eject_group c.args.plan.now c.args.tile leaf_names net_names (port_names c.args.tile) (dest_bits c.args.plan.now) c.args.domain ∷ []) ++ ((entry_group c.args.plan.now c.args.tile c.args.domain ∷ []) ++ (local_buffers c.args.plan.now c.args.domain))) (read_leaf c.args.work.now.leaf) (read_leaf c.on_channel.new.work.leaf) (read_leaf c.local_buffers.new.work.leaf) h0 e1 in
    e0
