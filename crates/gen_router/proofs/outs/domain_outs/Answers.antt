use Rattle.std.proofs.Common.{[], ◌∷◌, sym}
use Rattle.vl_tree.specs.Read.{read_leaf}
use Rattle.flit_word.specs.Words.{dest_bits}
use Rattle.noc_model.specs.Plan.{hosts}
use Rattle.leaf_tie.specs.Names.{leaf_names, net_names, out_names, leaf_sizes}
use Rattle.leaf_tie.specs.Outs.{local_out_group}
use Rattle.leaf_parts.specs.declared.phase.Phase.TheVariants.{Nets}
use Rattle.leaf_parts.proofs.Loops.{items_more}
use Rattle.gen_router.specs.Outs.{ejected_outs, entry_outs}
use Rattle.gen_router.proofs.Together.{one_group, part_there}
use Rattle.gen_router.proofs.outs.domain_outs.Goals as goal

pub returns : goal.returns
returns c =
    let p = c.args.plan.now in
    let n = c.args.tile in
    let d = c.args.domain in
    let group = local_out_group p leaf_names net_names (out_names n) (leaf_sizes p) (dest_bits p) d in
    let both = items_more (read_leaf c.args.work.now.leaf) (read_leaf c.ejected_outs.new.work.leaf) (read_leaf c.entry_outs.new.work.leaf) (ejected_outs n d) (entry_outs p n d)
    c.in_ok-ejected_outs.ensures c.in_ok-entry_outs.ensures in
    part_there Nets (hosts p n d) (group ∷ []) [] (read_leaf c.args.work.now.leaf) (read_leaf c.entry_outs.new.work.leaf) (sym c.if-not-hosts.ensures)
    (one_group Nets group (read_leaf c.args.work.now.leaf) (read_leaf c.entry_outs.new.work.leaf) both)
