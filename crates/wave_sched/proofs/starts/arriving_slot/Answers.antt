use Rattle.std.proofs.Common.{◌≡◌, sym, ◌∙◌, ap}
use Rattle.std.specs.Prelude.{Some, pos, ◌-ℤ◌}
use Rattle.noc_model.specs.Place.{neighbour, slot_of, opposite_way}
use Rattle.wave_sched.specs.Starts.{arriving_from}
use Rattle.noc_model.proofs.Ports.{opposite-is}
use Rattle.wave_sched.proofs.starts.arriving_slot.Goals as goal

pub returns-in-Some : goal.returns-in-Some
returns-in-Some c =
    let p = c.args.plan.now in
    let port = c.args.port in
    let link : neighbour p c.args.tile port ≡ Some c.in-Some.from = sym c.in-Some.ensures.value in
    c.slot_before.ensures
    ∙ ap (λ s. slot_of p c.in-Some.from (pos 0 -ℤ pos s) c.opposite.result) c.stages.ensures
    ∙ ap (slot_of p c.in-Some.from (pos 0 -ℤ pos p.stages)) (c.opposite.ensures ∙ ap opposite_way c.of_port.ensures ∙ sym (opposite-is port))
    ∙ ap (arriving_from p port) (sym link)
