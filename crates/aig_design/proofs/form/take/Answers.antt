use Rattle.std.proofs.Common.{map, sym, ◌∙◌, ap, subst}
use Rattle.aig_model.specs.Netlist.{settle_gates}
use Rattle.vl_run.specs.State.{part_edged}
use Rattle.aig_cycle.specs.Wires.{numbers, AreWords}
use Rattle.aig_cycle.specs.Steps.{part_as}
use Rattle.aig_cycle.specs.Short.{AreShortEdges}
use Rattle.aig_design.proofs.Opening.{fed-known}
use Rattle.aig_design.proofs.form.take.Goals as goal

pub edge_all-requires-clause-tops : goal.edge_all-requires-clause-tops
edge_all-requires-clause-tops c =
    let n = c.args.netlist.now in
    subst (AreWords n) (sym c.as_slice.ensures.value)
    (fed-known n c.args.ports.now c.args.places.now c.put_inputs.new.variables.next c.args.tops.now.items c.put_inputs.new.tops.items c.requires.inputs
    (c.in_ok-put_inputs.ensures.put c.requires.inputs.top c.requires.inputs.named) c.requires.tops)

pub returns-clause-taken : goal.returns-clause-taken
returns-clause-taken c =
    let n = c.args.netlist.now in
    record {
      fed_are = λ t e. (c.put_inputs.new.variables.next, c.in_ok-put_inputs.ensures.put t e);
      edged = λ v e. c.in_ok-edge_all.ensures.value v e ∙ ap (λ z. map (part_edged (numbers (settle_gates n v) z)) (map (part_as (settle_gates n v)) c.args.wired.now)) c.as_slice.ensures.value;
      known = c.in_ok-latches.ensures.known c.edge_all.new.netlist c.known.ensures.front c.in_ok-edge_all.ensures.wired;
      value = c.in_ok-latches.ensures.value;
      fed_short = c.in_ok-put_inputs.ensures.short;
      free = λ h. c.in_ok-edge_all.ensures.short (subst (λ z. AreShortEdges z c.args.wired.now) (sym c.as_slice.ensures.value) h);
    }
