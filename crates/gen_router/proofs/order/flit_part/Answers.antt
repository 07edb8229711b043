use Rattle.std.proofs.Common.{[], ◌∷◌, ◌++◌, sym}
use Rattle.vl_tree.specs.Read.{read_leaf}
use Rattle.leaf_tie.specs.Names.{leaf_names, net_names}
use Rattle.flit_word.specs.Words.{dest_bits}
use Rattle.leaf_tie.specs.Glue.{has_port, freed_group, flit_group}
use Rattle.leaf_parts.proofs.Loops.{items_none}
use Rattle.gen_router.proofs.Together.{groups_joined, one_group, part_there, part_else}
use Rattle.gen_router.proofs.order.flit_part.Goals as goal

pub returns-then-not-has_port : goal.returns-then-not-has_port
returns-then-not-has_port c =
    part_else c.args.phase (has_port c.args.plan.now c.args.tile c.args.domain c.args.port) (freed_group c.args.plan.now leaf_names net_names c.args.domain c.args.port ∷ flit_group c.args.plan.now leaf_names net_names (dest_bits c.args.plan.now) c.args.domain c.args.port ∷ []) ([]) (read_leaf c.args.work.now.leaf) (read_leaf c.args.work.now.leaf) (sym c.if-not-has_port.ensures) (items_none (read_leaf c.args.work.now.leaf))

pub returns : goal.returns
returns c =
    let h0 = one_group c.args.phase (freed_group c.args.plan.now leaf_names net_names c.args.domain c.args.port) (read_leaf c.args.work.now.leaf) (read_leaf c.freed.new.work.leaf) c.in_ok-freed.ensures in
    let h1 = one_group c.args.phase (flit_group c.args.plan.now leaf_names net_names (dest_bits c.args.plan.now) c.args.domain c.args.port) (read_leaf c.freed.new.work.leaf) (read_leaf c.flit.new.work.leaf) c.in_ok-flit.ensures in
    let e0 = groups_joined c.args.phase (freed_group c.args.plan.now leaf_names net_names c.args.domain c.args.port ∷ []) (flit_group c.args.plan.now leaf_names net_names (dest_bits c.args.plan.now) c.args.domain c.args.port ∷ []) (read_leaf c.args.work.now.leaf) (read_leaf c.freed.new.work.leaf) (read_leaf c.flit.new.work.leaf) h0 h1 in
    part_there c.args.phase (has_port c.args.plan.now c.args.tile c.args.domain c.args.port) (freed_group c.args.plan.now leaf_names net_names c.args.domain c.args.port ∷ flit_group c.args.plan.now leaf_names net_names (dest_bits c.args.plan.now) c.args.domain c.args.port ∷ []) ([]) (read_leaf c.args.work.now.leaf) (read_leaf c.flit.new.work.leaf) (sym c.if-not-has_port.ensures) e0
