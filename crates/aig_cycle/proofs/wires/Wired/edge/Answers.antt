use Rattle.std.proofs.Common.{◌≡◌, ℕ, Bool, sym, subst}
use Rattle.aig_model.specs.Netlist.{settle_gates}
use Rattle.vl_run.specs.State.{part_edged}
use Rattle.aig_cycle.specs.Wires.{numbers, AreWires}
use Rattle.aig_cycle.specs.Steps.{Wired, part_as, IsPlainCode}
use Rattle.aig_cycle.specs.Short.{IsShortEdge}
use Rattle.aig_cycle.proofs.wires.Wired.edge.Goals as goal

pub move_on-requires : goal.move_on-requires
move_on-requires c = record {
  plain = subst (λ (x : Wired). IsPlainCode x.code) (sym c.self.view_is) c.requires.wired.plain;
  wires = subst (λ (x : Wired). AreWires c.args.netlist.now x.wires) (sym c.self.view_is) c.requires.wired.wires;
  tops = c.requires.tops;
}

pub returns-clause-wired : goal.returns-clause-wired
returns-clause-wired c = record { plain = subst (λ (x : Wired). IsPlainCode x.code) (sym c.self.view_is) c.requires.wired.plain; wires = c.in_ok-move_on.ensures.words }

pub returns-clause-value : goal.returns-clause-value
returns-clause-value c v e =
    let s : ℕ → Bool = settle_gates c.args.netlist.now v in
    let u : ℕ → Bool = settle_gates c.move_on.new.netlist v in
    let here = c.in_ok-move_on.ensures.value v e in
    subst
    (λ (x : Wired). part_as u (record { code = c.self.inside.program; wires = record { nets = c.move_on.new.nets.items; memories = c.move_on.new.memories.items } }) ≡ part_edged (numbers s c.args.tops.now) (part_as s x))
    c.self.view_is (λ t. record { code = c.self.inside.program; kept = here t })

pub returns-clause-short : goal.returns-clause-short
returns-clause-short c h = c.in_ok-move_on.ensures.short (subst (IsShortEdge c.args.tops.now) (sym c.self.view_is) h)
