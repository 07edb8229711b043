use Rattle.std.proofs.Common.{[], ◌∷◌, ◌++◌, sym}
use Rattle.vl_tree.specs.Read.{read_leaf}
use Rattle.std.specs.Prelude.{is_some}
use Rattle.noc_model.specs.Place.{neighbour}
use Rattle.leaf_tie.specs.Names.{leaf_names, net_names, port_names, leaf_sizes}
use Rattle.flit_word.specs.Words.{dest_bits}
use Rattle.leaf_tie.specs.Glue.{arrival_group}
use Rattle.gen_router.specs.Given.{its_link}
use Rattle.leaf_parts.proofs.Loops.{items_none}
use Rattle.gen_router.proofs.Together.{groups_joined, one_group, part_there, part_else}
use Rattle.gen_router.proofs.order.link_part.Goals as goal

pub returns-then-not-has_link : goal.returns-then-not-has_link
returns-then-not-has_link c =
    part_else c.args.phase (is_some (neighbour c.args.plan.now c.args.tile c.args.out)) (arrival_group c.args.plan.now c.args.tile net_names (port_names c.args.tile) (leaf_sizes c.args.plan.now) (dest_bits c.args.plan.now) c.args.out ∷ its_link c.args.plan.now c.args.tile c.args.out ∷ []) ([]) (read_leaf c.args.work.now.leaf) (read_leaf c.args.work.now.leaf) (sym c.if-not-has_link.ensures) (items_none (read_leaf c.args.work.now.leaf))

pub returns : goal.returns
returns c =
    let h0 = one_group c.args.phase (arrival_group c.args.plan.now c.args.tile net_names (port_names c.args.tile) (leaf_sizes c.args.plan.now) (dest_bits c.args.plan.now) c.args.out) (read_leaf c.args.work.now.leaf) (read_leaf c.arrival.new.work.leaf) c.in_ok-arrival.ensures in
    let h1 = one_group c.args.phase (its_link c.args.plan.now c.args.tile c.args.out) (read_leaf c.arrival.new.work.leaf) (read_leaf c.its_link.new.work.leaf) c.in_ok-its_link.ensures in
    let e0 = groups_joined c.args.phase (arrival_group c.args.plan.now c.args.tile net_names (port_names c.args.tile) (leaf_sizes c.args.plan.now) (dest_bits c.args.plan.now) c.args.out ∷ []) (its_link c.args.plan.now c.args.tile c.args.out ∷ []) (read_leaf c.args.work.now.leaf) (read_leaf c.arrival.new.work.leaf) (read_leaf c.its_link.new.work.leaf) h0 h1 in
    part_there c.args.phase (is_some (neighbour c.args.plan.now c.args.tile c.args.out)) (arrival_group c.args.plan.now c.args.tile net_names (port_names c.args.tile) (leaf_sizes c.args.plan.now) (dest_bits c.args.plan.now) c.args.out ∷ its_link c.args.plan.now c.args.tile c.args.out ∷ []) ([]) (read_leaf c.args.work.now.leaf) (read_leaf c.its_link.new.work.leaf) (sym c.if-not-has_link.ensures) e0
