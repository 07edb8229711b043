use Rattle.std.proofs.Common.{◌∙◌, ap}
use Rattle.std.specs.Prelude.{slice_index, pos}
use Rattle.noc_model.specs.Place.{owner, slot_of}
use Rattle.wave_sched.proofs.owner.Goals as goal

pub returns-clause-value : goal.returns-clause-value
unfolding owner
returns-clause-value c =
    let p = c.args.plan.now in
    c.slot.ensures.value
    ∙ ap (slice_index p.slots) (c.slot_at.ensures.value ∙ ap (slot_of p c.args.tile (pos c.args.cycle)) c.of_port.ensures)
