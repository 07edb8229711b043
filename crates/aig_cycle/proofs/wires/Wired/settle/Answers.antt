use Rattle.std.proofs.Common.{◌≡◌, ℕ, Bool, sym, subst}
use Rattle.aig_model.specs.Netlist.{settle_gates}
use Rattle.vl_run.specs.State.{part_settled, settled_by}
use Rattle.aig_cycle.specs.Wires.{AreWires, kept_as}
use Rattle.aig_cycle.specs.Steps.{Wired, part_as, IsPlainCode}
use Rattle.aig_cycle.specs.Short.{IsShortSettle}
use Rattle.aig_cycle.proofs.wires.Wired.settle.Goals as goal

pub steady-requires-clause-plain : goal.steady-requires-clause-plain
steady-requires-clause-plain c = subst (λ (x : Wired). IsPlainCode x.code) (sym c.self.view_is) c.requires.plain

pub steady-requires-clause-wires : goal.steady-requires-clause-wires
steady-requires-clause-wires c =
    subst (λ ms. AreWires c.args.netlist.now (record { nets = c.self.inside.nets.items; memories = ms })) (sym c.as_slice.ensures.value)
    (subst (λ (x : Wired). AreWires c.args.netlist.now x.wires) (sym c.self.view_is) c.requires.wires)

pub returns-clause-wired : goal.returns-clause-wired
returns-clause-wired c = record {
  plain = subst (λ (x : Wired). IsPlainCode x.code) (sym c.self.view_is) c.requires.plain;
  wires = subst (λ ms. AreWires c.steady.new.netlist (record { nets = c.steady.new.nets.items; memories = ms })) c.as_slice.ensures.value c.in_ok-steady.ensures.words;
}

pub returns-clause-value : goal.returns-clause-value
returns-clause-value c v e =
    let s : ℕ → Bool = settle_gates c.args.netlist.now v in
    let u : ℕ → Bool = settle_gates c.steady.new.netlist v in
    let here = subst (λ ms. kept_as u (record { nets = c.steady.new.nets.items; memories = ms }) ≡ settled_by c.self.inside.program (kept_as s (record { nets = c.self.inside.nets.items; memories = ms })))
    c.as_slice.ensures.value (c.in_ok-steady.ensures.value v e) in
    subst (λ (x : Wired). part_as u (record { code = c.self.inside.program; wires = record { nets = c.steady.new.nets.items; memories = c.self.inside.memories.items } }) ≡ part_settled (part_as s x)) c.self.view_is
    (λ t. record { code = c.self.inside.program; kept = here t })

pub returns-clause-short : goal.returns-clause-short
returns-clause-short c x h = c.in_ok-steady.ensures.short x (subst (IsShortSettle x) (sym c.self.view_is) h)
