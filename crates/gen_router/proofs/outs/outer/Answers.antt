use Rattle.std.proofs.Common.{[], ◌∷◌, ◌++◌, sym}
use Rattle.vl_tree.specs.Read.{read_leaf}
use Rattle.leaf_parts.specs.declared.phase.Phase.TheVariants.{Nets}
use Rattle.std.specs.Prelude.{length}
use Rattle.noc_model.specs.Plan.{ports}
use Rattle.gen_router.specs.Ordered.{port_outs, its_outs}
use Rattle.leaf_tie.specs.Whole.{each_group}
use Rattle.leaf_parts.proofs.Loops.{items_none}
use Rattle.gen_router.proofs.Together.{groups_joined, one_group, part_there, part_else}
use Rattle.gen_router.proofs.outs.outer.Goals as goal

pub returns : goal.returns
returns c =
    let h0 = c.in_ok-all_port_outs.ensures in
    let h1 = c.in_ok-all_domain_outs.ensures in
    let e0 = groups_joined Nets (each_group (ports c.args.plan.now) (port_outs c.args.plan.now c.args.tile)) (each_group (length c.args.plan.now.domains) (its_outs c.args.plan.now c.args.tile)) (read_leaf c.args.work.now.leaf) (read_leaf c.all_port_outs.new.work.leaf) (read_leaf c.all_domain_outs.new.work.leaf) h0 h1 in
    e0
