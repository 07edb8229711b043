use Rattle.std.proofs.Common.{[], ◌∷◌, ◌++◌, ◌-◌, sym, ap, ◌∙◌}
use Rattle.vl_tree.specs.Read.{read_leaf}
use Rattle.std.specs.Prelude.{length}
use Rattle.leaf_tie.specs.Names.{leaf_names, slot_high}
use Rattle.vl_model.specs.Laws.{with_items}
use Rattle.leaf_parts.specs.Phases.{items_of}
use Rattle.leaf_tie.specs.Slots.{slot_group}
use Rattle.leaf_tie.specs.Whole.{uses_slot}
use Rattle.leaf_parts.proofs.Loops.{items_none}
use Rattle.gen_router.proofs.Together.{groups_joined, one_group, part_there, part_else}
use Rattle.gen_router.proofs.order.slot_part.Goals as goal

pub returns-then-not-uses_slot : goal.returns-then-not-uses_slot
returns-then-not-uses_slot c =
    part_else c.args.phase (uses_slot c.args.plan.now c.args.tile c.args.slot) (slot_group (leaf_names.slot c.args.slot) (slot_high c.args.plan.now) c.args.plan.now.slots (length c.args.plan.now.domains) c.args.slot ∷ []) ([]) (read_leaf c.args.work.now.leaf) (read_leaf c.args.work.now.leaf) (sym c.if-not-uses_slot.ensures) (items_none (read_leaf c.args.work.now.leaf))

pub returns : goal.returns
returns c =
    let h0 = one_group c.args.phase (slot_group (leaf_names.slot c.args.slot) (slot_high c.args.plan.now) c.args.plan.now.slots (length c.args.plan.now.domains) c.args.slot) (read_leaf c.args.work.now.leaf) (read_leaf c.slot_counter.new.work.leaf) (c.in_ok-slot_counter.ensures ∙ ap (λ b. with_items (read_leaf c.args.work.now.leaf) (items_of c.args.phase (slot_group (leaf_names.slot c.args.slot) (b - 1) c.args.plan.now.slots (length c.args.plan.now.domains) c.args.slot))) c.slot_bits.ensures.value) in
    part_there c.args.phase (uses_slot c.args.plan.now c.args.tile c.args.slot) (slot_group (leaf_names.slot c.args.slot) (slot_high c.args.plan.now) c.args.plan.now.slots (length c.args.plan.now.domains) c.args.slot ∷ []) ([]) (read_leaf c.args.work.now.leaf) (read_leaf c.slot_counter.new.work.leaf) (sym c.if-not-uses_slot.ensures) h0
