use Rattle.std.proofs.Common.{[], ◌∷◌, min}
use Rattle.vl_tree.specs.Read.{read_leaf}
use Rattle.gen_kit.specs.Shape.{credit_bits}
use Rattle.leaf_tie.specs.Names.{credit_bundle, leaf_names, out_names}
use Rattle.leaf_tie.specs.Outs.{link_out_group}
use Rattle.leaf_parts.specs.declared.phase.Phase.TheVariants.{Nets}
use Rattle.gen_router.specs.Outs.{other_outs}
use Rattle.gen_router.proofs.Together.{groups_joined, one_group}
use Rattle.gen_router.proofs.outs.link_outs.Goals as goal

pub returns : goal.returns
returns c =
    let p = c.args.plan.now in
    let n = c.args.tile in
    let o = c.args.out in
    let word = link_out_group p leaf_names (out_names n) o in
    let bundle = credit_bundle p n o 0 (min (credit_bits p) 64) in
    let first = one_group Nets bundle (read_leaf c.link_out.new.work.leaf) (read_leaf c.first_out.new.work.leaf) c.in_ok-first_out.ensures in
    let behind = groups_joined Nets (bundle ∷ []) (other_outs p n o) (read_leaf c.link_out.new.work.leaf) (read_leaf c.first_out.new.work.leaf) (read_leaf c.other_out.new.work.leaf) first c.in_ok-other_out.ensures in
    groups_joined Nets (word ∷ []) (bundle ∷ other_outs p n o) (read_leaf c.args.work.now.leaf) (read_leaf c.link_out.new.work.leaf) (read_leaf c.other_out.new.work.leaf)
    (one_group Nets word (read_leaf c.args.work.now.leaf) (read_leaf c.link_out.new.work.leaf) c.in_ok-link_out.ensures) behind
