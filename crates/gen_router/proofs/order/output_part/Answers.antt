use Rattle.std.proofs.Common.{[], ◌∷◌, ◌++◌, sym}
use Rattle.vl_tree.specs.Read.{read_leaf}
use Rattle.leaf_tie.specs.Names.{leaf_names, net_names, port_names, leaf_sizes}
use Rattle.flit_word.specs.Words.{dest_bits}
use Rattle.leaf_tie.specs.Glue.{has_port, led_group, ready_group, unready_group}
use Rattle.leaf_tie.specs.Alloc.{alloc_group}
use Rattle.leaf_tie.specs.Tie.{alloc_size}
use Rattle.leaf_parts.proofs.Loops.{items_none}
use Rattle.gen_router.proofs.Together.{groups_joined, one_group, part_there, part_else}
use Rattle.gen_router.proofs.order.output_part.Goals as goal

pub returns-then-not-has_port : goal.returns-then-not-has_port
returns-then-not-has_port c =
    let h0 = one_group c.args.phase (unready_group c.args.plan.now net_names c.args.domain c.args.out) (read_leaf c.args.work.now.leaf) (read_leaf c.unready.new.work.leaf) c.in_ok-unready.ensures in
    part_else c.args.phase (has_port c.args.plan.now c.args.tile c.args.domain c.args.out) (led_group c.args.plan.now c.args.tile leaf_names net_names (dest_bits c.args.plan.now) c.args.domain c.args.out ∷ alloc_group c.args.plan.now c.args.domain c.args.tile c.args.out (leaf_names.alloc c.args.domain c.args.out) (alloc_size c.args.plan.now c.args.domain c.args.out) ∷ ready_group c.args.plan.now c.args.tile leaf_names net_names (port_names c.args.tile) (leaf_sizes c.args.plan.now) c.args.domain c.args.out ∷ []) (unready_group c.args.plan.now net_names c.args.domain c.args.out ∷ []) (read_leaf c.args.work.now.leaf) (read_leaf c.unready.new.work.leaf) (sym c.if-not-has_port.ensures) h0

pub returns : goal.returns
returns c =
    let h0 = one_group c.args.phase (led_group c.args.plan.now c.args.tile leaf_names net_names (dest_bits c.args.plan.now) c.args.domain c.args.out) (read_leaf c.args.work.now.leaf) (read_leaf c.led.new.work.leaf) c.in_ok-led.ensures in
    let h1 = one_group c.args.phase (alloc_group c.args.plan.now c.args.domain c.args.tile c.args.out (leaf_names.alloc c.args.domain c.args.out) (alloc_size c.args.plan.now c.args.domain c.args.out)) (read_leaf c.led.new.work.leaf) (read_leaf c.allocation.new.work.leaf) c.in_ok-allocation.ensures in
    let h2 = one_group c.args.phase (ready_group c.args.plan.now c.args.tile leaf_names net_names (port_names c.args.tile) (leaf_sizes c.args.plan.now) c.args.domain c.args.out) (read_leaf c.allocation.new.work.leaf) (read_leaf c.readies.new.work.leaf) c.in_ok-readies.ensures in
    let e1 = groups_joined c.args.phase (alloc_group c.args.plan.now c.args.domain c.args.tile c.args.out (leaf_names.alloc c.args.domain c.args.out) (alloc_size c.args.plan.now c.args.domain c.args.out) ∷ []) (ready_group c.args.plan.now c.args.tile leaf_names net_names (port_names c.args.tile) (leaf_sizes c.args.plan.now) c.args.domain c.args.out ∷ []) (read_leaf c.led.new.work.leaf) (read_leaf c.allocation.new.work.leaf) (read_leaf c.readies.new.work.leaf) h1 h2 in
    let e0 = groups_joined c.args.phase (led_group c.args.plan.now c.args.tile leaf_names net_names (dest_bits c.args.plan.now) c.args.domain c.args.out ∷ []) ((alloc_group c.args.plan.now c.args.domain c.args.tile c.args.out (leaf_names.alloc c.args.domain c.args.out) (alloc_size c.args.plan.now c.args.domain c.args.out) ∷ []) ++ (ready_group c.args.plan.now c.args.tile leaf_names net_names (port_names c.args.tile) (leaf_sizes c.args.plan.now) c.args.domain c.args.out ∷ [])) (read_leaf c.args.work.now.leaf) (read_leaf c.led.new.work.leaf) (read_leaf c.readies.new.work.leaf) h0 e1 in
    part_there c.args.phase (has_port c.args.plan.now c.args.tile c.args.domain c.args.out) (led_group c.args.plan.now c.args.tile leaf_names net_names (dest_bits c.args.plan.now) c.args.domain c.args.out ∷ alloc_group c.args.plan.now c.args.domain c.args.tile c.args.out (leaf_names.alloc c.args.domain c.args.out) (alloc_size c.args.plan.now c.args.domain c.args.out) ∷ ready_group c.args.plan.now c.args.tile leaf_names net_names (port_names c.args.tile) (leaf_sizes c.args.plan.now) c.args.domain c.args.out ∷ []) (unready_group c.args.plan.now net_names c.args.domain c.args.out ∷ []) (read_leaf c.args.work.now.leaf) (read_leaf c.readies.new.work.leaf) (sym c.if-not-has_port.ensures) e0
