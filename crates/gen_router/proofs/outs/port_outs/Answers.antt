use Rattle.std.proofs.Common.{[], ◌∷◌, ◌++◌, sym}
use Rattle.vl_tree.specs.Read.{read_leaf}
use Rattle.std.specs.Prelude.{is_some}
use Rattle.noc_model.specs.Place.{neighbour}
use Rattle.leaf_parts.specs.declared.phase.Phase.TheVariants.{Nets}
use Rattle.leaf_tie.specs.Names.{link_outs}
use Rattle.leaf_parts.proofs.Loops.{items_none}
use Rattle.gen_router.proofs.Together.{groups_joined, one_group, part_there, part_else}
use Rattle.gen_router.proofs.outs.port_outs.Goals as goal

pub returns-then-not-has_link : goal.returns-then-not-has_link
returns-then-not-has_link c =
    part_else Nets (is_some (neighbour c.args.plan.now c.args.tile c.args.out)) (link_outs c.args.plan.now c.args.tile c.args.out) ([]) (read_leaf c.args.work.now.leaf) (read_leaf c.args.work.now.leaf) (sym c.if-not-has_link.ensures) (items_none (read_leaf c.args.work.now.leaf))

pub returns : goal.returns
returns c =
    let h0 = c.in_ok-link_outs.ensures in
    part_there Nets (is_some (neighbour c.args.plan.now c.args.tile c.args.out)) (link_outs c.args.plan.now c.args.tile c.args.out) ([]) (read_leaf c.args.work.now.leaf) (read_leaf c.link_outs.new.work.leaf) (sym c.if-not-has_link.ensures) h0
