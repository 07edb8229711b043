use Rattle.std.proofs.Common.{true, ◌+◌, length, sym, ◌∙◌, ap, subst, arith}
use Rattle.std.specs.Prelude.{slice_index}
use Rattle.std.specs.List.{AllByRecursion}
use Rattle.aig_model.specs.FormOf.{all_bits}
use Rattle.aig_gates.specs.Zips.{AreBelow}
use Rattle.aig_cycle.specs.Wires.{numbers, AreWords}
use Rattle.aig_cycle.proofs.Running.{words-wider}
use Rattle.aig_design.proofs.Opening.{shown-known, words-below}
use Rattle.aig_design.proofs.form.show.Goals as goal

tops-known : goal.returns-clause-tops
tops-known c =
    let n0 = c.args.netlist.now in
    let n1 = c.settle_all.new.netlist in
    subst (AreWords n1) (sym c.in_ok-show_all.ensures)
    (shown-known n1 c.settle_all.new.parts c.args.tops.now.items c.in_ok-settle_all.ensures.wired (words-wider n0 n1 c.settle_all.ensures.grows c.args.tops.now.items c.requires.tops))

pub returns-clause-tops : goal.returns-clause-tops
returns-clause-tops c = tops-known c

pub returns-clause-shown : goal.returns-clause-shown
returns-clause-shown c =
    let n1 = c.settle_all.new.netlist in
    let some = c.known.ensures.front in
    record {
      wired = c.in_ok-settle_all.ensures.wired;
      settled = c.in_ok-settle_all.ensures.value;
      tops_are = c.in_ok-show_all.ensures;
      known = c.in_ok-outputs.ensures.known (n1.start + length n1.gates) (omega (arith, some)) (subst (AllByRecursion (AreBelow (n1.start + length n1.gates))) (sym c.as_slice.ensures.value) (words-below n1 c.show_all.new.tops.items (tops-known c)));
      short = c.in_ok-settle_all.ensures.short;
      value = λ t e v f. c.in_ok-outputs.ensures.value t e v f ∙ ap (λ z. all_bits true (λ n. slice_index (numbers v z) (t n)) c.args.ports.now) c.as_slice.ensures.value;
    }
