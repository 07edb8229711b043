use Rattle.std.proofs.Common.{◌∙◌, sym, subst, ℕ}
use Rattle.noc_model.specs.Tile.{start_tile}
use Rattle.slot_switch.specs.Switch.{Switch, IsSwitch}
use Rattle.slot_switch.specs.Shown.{IsFor, Keeps}
use Rattle.slot_switch.proofs.Asks.{is-start, start-is, start-for, start-keeps}
use Rattle.slot_switch.proofs.SlotSwitch.new.Goals as goal

pub returns-clause-start : goal.returns-clause-start
returns-clause-start c =
    start-is c.args.plan.now c.ports.result c.in_ok-asks.asks c.in_ok-turns.turns c.in_ok-switches.switches c.deref.result.now c.deref-2.result.now c.deref-3.result.now
    c.ports.ensures.value (c.deref.ensures.value ∙ c.in_ok-counts.ensures.value) (c.deref-2.ensures.value ∙ c.in_ok-counts.ensures.value) (c.deref-3.ensures.value ∙ c.in_ok-counts.ensures.value)
    c.in_ok-asks.ensures c.in_ok-turns.ensures c.in_ok-switches.ensures

pub returns-clause-made : goal.returns-clause-made
returns-clause-made c =
    let P : Switch → Type 0 = λ x. IsFor x c.args.plan.now in
    subst P (sym (start-is c.args.plan.now c.ports.result c.in_ok-asks.asks c.in_ok-turns.turns c.in_ok-switches.switches c.deref.result.now c.deref-2.result.now c.deref-3.result.now
    c.ports.ensures.value (c.deref.ensures.value ∙ c.in_ok-counts.ensures.value) (c.deref-2.ensures.value ∙ c.in_ok-counts.ensures.value) (c.deref-3.ensures.value ∙ c.in_ok-counts.ensures.value)
    c.in_ok-asks.ensures c.in_ok-turns.ensures c.in_ok-switches.ensures)) (start-for c.args.plan.now)

pub returns-clause-pointers : goal.returns-clause-pointers
returns-clause-pointers c =
    let P : Switch → Type 0 = λ x. (d : ℕ) → Keeps x c.args.plan.now d (start_tile c.args.plan.now) in
    subst P (sym (start-is c.args.plan.now c.ports.result c.in_ok-asks.asks c.in_ok-turns.turns c.in_ok-switches.switches c.deref.result.now c.deref-2.result.now c.deref-3.result.now
    c.ports.ensures.value (c.deref.ensures.value ∙ c.in_ok-counts.ensures.value) (c.deref-2.ensures.value ∙ c.in_ok-counts.ensures.value) (c.deref-3.ensures.value ∙ c.in_ok-counts.ensures.value)
    c.in_ok-asks.ensures c.in_ok-turns.ensures c.in_ok-switches.ensures)) (start-keeps c.args.plan.now)

pub invariant_of-result : goal.invariant_of-result
invariant_of-result c =
    let P : Switch → Type 0 = IsSwitch in
    subst P
    (sym (start-is c.args.plan.now c.ports.result c.in_ok-asks.asks c.in_ok-turns.turns c.in_ok-switches.switches c.deref.result.now c.deref-2.result.now c.deref-3.result.now
    c.ports.ensures.value (c.deref.ensures.value ∙ c.in_ok-counts.ensures.value) (c.deref-2.ensures.value ∙ c.in_ok-counts.ensures.value) (c.deref-3.ensures.value ∙ c.in_ok-counts.ensures.value)
    c.in_ok-asks.ensures c.in_ok-turns.ensures c.in_ok-switches.ensures))
    (is-start c.args.plan.now c.known.ensures)
