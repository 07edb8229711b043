use Rattle.std.proofs.Common.{◌≡◌, ◌<◌, ◌≤◌, true, false, arith, sym, ap, ◌∙◌, ℕ, Bool}
use Rattle.std.specs.Prelude.{nat_le, ◌&&◌}
use Rattle.std.proofs.lemmas.Bool.Decides.{nat_tests}
use Rattle.noc_model.specs.Step.{asks_for}
use Rattle.vc_partition.specs.Picks.{from_on}
use Rattle.vc_partition.proofs.Picks.{least-found}
use Rattle.slot_switch.specs.Switch.{ask_at}
use Rattle.slot_switch.proofs.Choice.{none-before, none-fewer, none-more}
use Rattle.slot_switch.proofs.SlotSwitch.first_asking.Goals as goal

pub returns-then-asks_for-clause-value : goal.returns-then-asks_for-clause-value
returns-then-asks_for-clause-value c =
    let x = c.args.self.now in
    let k = c.loop-port.port in
    let set : ℕ → Bool = λ port. asks_for (ask_at x c.args.d port) c.args.out in
    let late : nat_le c.args.from k ≡ true = let h : c.args.from ≤ k = c.loop-port.invariant.late in grind (arith, nat_tests) in
    let here : set k ≡ true =
    ap (λ g. asks_for g c.args.out) (sym c.asked.ensures.value) ∙ sym c.asks_for.ensures ∙ c.if-asks_for.true in
    let below : k < x.ports = omega (arith, c.loop-port-test.true, c.ports-port-end.ensures.value) in
    sym (least-found (from_on c.args.from set) x.ports k below c.loop-port.invariant.none (ap (λ b. b && set k) late ∙ here))

pub loop-port-init : goal.loop-port-init
loop-port-init c = record {
  late = omega arith;
  none = none-before c.args.from (λ port. asks_for (ask_at c.args.self.now c.args.d port) c.args.out);
}

pub loop-port-preserved : goal.loop-port-preserved
loop-port-preserved c =
    let set : ℕ → Bool = λ port. asks_for (ask_at c.args.self.now c.args.d port) c.args.out in
    let k = c.loop-port.port in
    let late = c.loop-port.invariant.late in
    let here : set k ≡ false =
    ap (λ g. asks_for g c.args.out) (sym c.asked.ensures.value) ∙ sym c.asks_for.ensures ∙ c.if-asks_for.false in
    record { late = omega (arith, late); none = none-more k c.args.from set here c.loop-port.invariant.none }

pub returns-clause-value : goal.returns-clause-value
returns-clause-value c =
    let set : ℕ → Bool = λ port. asks_for (ask_at c.args.self.now c.args.d port) c.args.out in
    sym (none-fewer c.args.self.now.ports c.loop-port.port (from_on c.args.from set)
    (omega (arith, c.loop-port-test.false, c.ports-port-end.ensures.value)) c.loop-port.invariant.none)
