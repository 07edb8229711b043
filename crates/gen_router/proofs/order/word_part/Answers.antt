use Rattle.std.proofs.Common.{[], ◌∷◌, ◌++◌, sym}
use Rattle.vl_tree.specs.Read.{read_leaf}
use Rattle.std.specs.Prelude.{is_some}
use Rattle.noc_model.specs.Place.{neighbour}
use Rattle.leaf_tie.specs.Names.{leaf_names, net_names}
use Rattle.flit_word.specs.Words.{dest_bits, flit_bits, channel_bits}
use Rattle.leaf_tie.specs.Glue.{word_group, pulse_group}
use Rattle.noc_model.specs.Plan.{link_channels}
use Rattle.leaf_tie.specs.Whole.{each_group}
use Rattle.gen_router.specs.Ordered.{its_channel}
use Rattle.leaf_parts.proofs.Loops.{items_none}
use Rattle.gen_router.proofs.Together.{groups_joined, one_group, part_there, part_else}
use Rattle.gen_router.proofs.order.word_part.Goals as goal

pub returns-then-not-has_link : goal.returns-then-not-has_link
returns-then-not-has_link c =
    part_else c.args.phase (is_some (neighbour c.args.plan.now c.args.tile c.args.out)) (each_group (link_channels c.args.plan.now c.args.domain) (its_channel c.args.plan.now c.args.tile c.args.domain c.args.out) ++ (word_group c.args.plan.now c.args.tile leaf_names net_names (dest_bits c.args.plan.now) (flit_bits c.args.plan.now) (channel_bits c.args.plan.now) c.args.domain c.args.out ∷ pulse_group c.args.plan.now leaf_names net_names c.args.domain c.args.out ∷ [])) ([]) (read_leaf c.args.work.now.leaf) (read_leaf c.args.work.now.leaf) (sym c.if-not-has_link.ensures) (items_none (read_leaf c.args.work.now.leaf))

pub returns : goal.returns
returns c =
    let h0 = c.in_ok-all_channels.ensures in
    let h1 = one_group c.args.phase (word_group c.args.plan.now c.args.tile leaf_names net_names (dest_bits c.args.plan.now) (flit_bits c.args.plan.now) (channel_bits c.args.plan.now) c.args.domain c.args.out) (read_leaf c.all_channels.new.work.leaf) (read_leaf c.word.new.work.leaf) c.in_ok-word.ensures in
    let h2 = one_group c.args.phase (pulse_group c.args.plan.now leaf_names net_names c.args.domain c.args.out) (read_leaf c.word.new.work.leaf) (read_leaf c.pulse.new.work.leaf) c.in_ok-pulse.ensures in
    let e1 = groups_joined c.args.phase (word_group c.args.plan.now c.args.tile leaf_names net_names (dest_bits c.args.plan.now) (flit_bits c.args.plan.now) (channel_bits c.args.plan.now) c.args.domain c.args.out ∷ []) (pulse_group c.args.plan.now leaf_names net_names c.args.domain c.args.out ∷ []) (read_leaf c.all_channels.new.work.leaf) (read_leaf c.word.new.work.leaf) (read_leaf c.pulse.new.work.leaf) h1 h2 in
    let e0 = groups_joined c.args.phase (each_group (link_channels c.args.plan.now c.args.domain) (its_channel c.args.plan.now c.args.tile c.args.domain c.args.out)) ((word_group c.args.plan.now c.args.tile leaf_names net_names (dest_bits c.args.plan.now) (flit_bits c.args.plan.now) (channel_bits c.args.plan.now) c.args.domain c.args.out ∷ []) ++ (pulse_group c.args.plan.now leaf_names net_names c.args.domain c.args.out ∷ [])) (read_leaf c.args.work.now.leaf) (read_leaf c.all_channels.new.work.leaf) (read_leaf c.pulse.new.work.leaf) h0 e1 in
    part_there c.args.phase (is_some (neighbour c.args.plan.now c.args.tile c.args.out)) (each_group (link_channels c.args.plan.now c.args.domain) (its_channel c.args.plan.now c.args.tile c.args.domain c.args.out) ++ (word_group c.args.plan.now c.args.tile leaf_names net_names (dest_bits c.args.plan.now) (flit_bits c.args.plan.now) (channel_bits c.args.plan.now) c.args.domain c.args.out ∷ pulse_group c.args.plan.now leaf_names net_names c.args.domain c.args.out ∷ [])) ([]) (read_leaf c.args.work.now.leaf) (read_leaf c.pulse.new.work.leaf) (sym c.if-not-has_link.ensures) e0
