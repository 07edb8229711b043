use Rattle.std.proofs.Common.{◌≡◌, sym, ◌∙◌, ap}
use Rattle.std.specs.Prelude.{pos, ◌-ℤ◌}
use Rattle.noc_model.specs.Place.{slot_of, opposite_way}
use Rattle.noc_model.proofs.Ports.{opposite-is}
use Rattle.leaf_glue.proofs.slots.arriving_slot.Goals as goal

pub returns-clause-value : goal.returns-clause-value
returns-clause-value c =
    let p = c.args.plan.now in
    c.slot_before.ensures.value
    ∙ ap (λ s. slot_of p c.args.from (pos 0 -ℤ pos s) c.opposite.result) c.stages.ensures
    ∙ ap (slot_of p c.args.from (pos 0 -ℤ pos p.stages)) (c.opposite.ensures ∙ ap opposite_way c.of_port.ensures ∙ sym (opposite-is c.args.port))
