use Rattle.std.proofs.Common.{ℕ, Bool, ap, ◌∙◌}
use Rattle.noc_model.specs.Pick.{pick}
use Rattle.noc_model.specs.Step.{asks_for}
use Rattle.vc_partition.proofs.Picks.{pick-later, pick-first}
use Rattle.slot_switch.specs.Switch.{ask_at}
use Rattle.slot_switch.proofs.SlotSwitch.chosen.Goals as goal

pub returns-in-Some-clause-value : goal.returns-in-Some-clause-value
returns-in-Some-clause-value c =
    let x = c.args.self.now in
    let set : ℕ → Bool = λ port. asks_for (ask_at x c.args.d port) c.args.out in
    pick-later x.ports set c.switch.result c.in-Some.port c.in-Some.ensures.value
    ∙ ap (pick x.ports set) c.switch.ensures

pub returns-in-None-clause-value : goal.returns-in-None-clause-value
returns-in-None-clause-value c =
    let x = c.args.self.now in
    let set : ℕ → Bool = λ port. asks_for (ask_at x c.args.d port) c.args.out in
    pick-first x.ports set c.switch.result c.first_asking-in-None.result c.in-None.ensures.value c.first_asking-in-None.ensures.value
    ∙ ap (pick x.ports set) c.switch.ensures
