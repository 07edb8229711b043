use Rattle.std.proofs.Common.{[], ◌∷◌, ◌++◌, sym}
use Rattle.vl_tree.specs.Read.{read_leaf}
use Rattle.leaf_tie.specs.Names.{leaf_names, net_names}
use Rattle.flit_word.specs.Words.{dest_bits}
use Rattle.leaf_tie.specs.Glue.{filled_group, tails_group, switch_part, ends_group, high}
use Rattle.leaf_tie.specs.Counts.{idle_group}
use Rattle.gen_router.specs.Ordered.{its_outputs}
use Rattle.leaf_parts.proofs.Loops.{items_none}
use Rattle.gen_router.proofs.Together.{groups_joined, one_group, part_there, part_else}
use Rattle.gen_router.proofs.order.first_groups.Goals as goal

pub returns : goal.returns
returns c =
    let h0 = one_group c.args.phase (filled_group c.args.plan.now c.args.tile leaf_names net_names c.args.domain) (read_leaf c.args.work.now.leaf) (read_leaf c.filled.new.work.leaf) c.in_ok-filled.ensures in
    let h1 = one_group c.args.phase (tails_group c.args.plan.now c.args.tile leaf_names net_names (dest_bits c.args.plan.now) c.args.domain) (read_leaf c.filled.new.work.leaf) (read_leaf c.tails.new.work.leaf) c.in_ok-tails.ensures in
    let h2 = c.in_ok-all_outputs.ensures in
    let h3 = one_group c.args.phase (switch_part c.args.plan.now c.args.tile leaf_names net_names c.args.domain) (read_leaf c.all_outputs.new.work.leaf) (read_leaf c.switch_part.new.work.leaf) c.in_ok-switch_part.ensures in
    let h4 = one_group c.args.phase (ends_group c.args.plan.now net_names c.args.domain) (read_leaf c.switch_part.new.work.leaf) (read_leaf c.ends.new.work.leaf) c.in_ok-ends.ensures in
    let h5 = one_group c.args.phase (idle_group (leaf_names.idle c.args.domain) (net_names.filled c.args.domain) (net_names.ends c.args.domain) (high c.args.plan.now c.args.domain)) (read_leaf c.ends.new.work.leaf) (read_leaf c.idle_places.new.work.leaf) c.in_ok-idle_places.ensures in
    let e4 = groups_joined c.args.phase (ends_group c.args.plan.now net_names c.args.domain ∷ []) (idle_group (leaf_names.idle c.args.domain) (net_names.filled c.args.domain) (net_names.ends c.args.domain) (high c.args.plan.now c.args.domain) ∷ []) (read_leaf c.switch_part.new.work.leaf) (read_leaf c.ends.new.work.leaf) (read_leaf c.idle_places.new.work.leaf) h4 h5 in
    let e3 = groups_joined c.args.phase (switch_part c.args.plan.now c.args.tile leaf_names net_names c.args.domain ∷ []) ((ends_group c.args.plan.now net_names c.args.domain ∷ []) ++ (idle_group (leaf_names.idle c.args.domain) (net_names.filled c.args.domain) (net_names.ends c.args.domain) (high c.args.plan.now c.args.domain) ∷ [])) (read_leaf c.all_outputs.new.work.leaf) (read_leaf c.switch_part.new.work.leaf) (read_leaf c.idle_places.new.work.leaf) h3 e4 in
    let e2 = groups_joined c.args.phase (its_outputs c.args.plan.now c.args.tile c.args.domain) ((switch_part c.args.plan.now c.args.tile leaf_names net_names c.args.domain ∷ []) ++ ((ends_group c.args.plan.now net_names c.args.domain ∷ []) ++ (idle_group (leaf_names.idle c.args.domain) (net_names.filled c.args.domain) (net_names.ends c.args.domain) (high c.args.plan.now c.args.domain) ∷ []))) (read_leaf c.tails.new.work.leaf) (read_leaf c.all_outputs.new.work.leaf) (read_leaf c.idle_places.new.work.leaf) h2 e3 in
    let e1 = groups_joined c.args.phase (tails_group c.args.plan.now c.args.tile leaf_names net_names (dest_bits c.args.plan.now) c.args.domain ∷ []) ((its_outputs c.args.plan.now c.args.tile c.args.domain) ++ ((switch_part c.args.plan.now c.args.tile leaf_names net_names c.args.domain ∷ []) ++ ((ends_group c.args.plan.now net_names c.args.domain ∷ []) ++ (idle_group (leaf_names.idle c.args.domain) (net_names.filled c.args.domain) (net_names.ends c.args.domain) (high c.args.plan.now c.args.domain) ∷ [])))) (read_leaf c.filled.new.work.leaf) (read_leaf c.tails.new.work.leaf) (read_leaf c.idle_places.new.work.leaf) h1 e2 in
    let e0 = groups_joined c.args.phase (filled_group c.args.plan.now c.args.tile leaf_names net_names c.args.domain ∷ []) ((tails_group c.args.plan.now c.args.tile leaf_names net_names (dest_bits c.args.plan.now) c.args.domain ∷ []) ++ ((its_outputs c.args.plan.now c.args.tile c.args.domain) ++ ((switch_part c.args.plan.now c.args.tile leaf_names net_names c.args.domain ∷ []) ++ ((ends_group c.args.plan.now net_names c.args.domain ∷ []) ++ (idle_group (leaf_names.idle c.args.domain) (net_names.filled c.args.domain) (net_names.ends c.args.domain) (high c.args.plan.now c.args.domain) ∷ []))))) (read_leaf c.args.work.now.leaf) (read_leaf c.filled.new.work.leaf) (read_leaf c.idle_places.new.work.leaf) h0 e1 in
    e0
