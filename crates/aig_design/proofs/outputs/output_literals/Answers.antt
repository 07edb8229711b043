use Rattle.std.proofs.Common.{◌+◌, ◌++◌, sym, ◌∙◌, ap, subst}
use Rattle.vl_tree.specs.declared.tree.Port.{Port}
use Rattle.aig_model.specs.Form.{word}
use Rattle.aig_model.specs.FormOf.{bits_from}
use Rattle.aig_design.proofs.Shown.{IsShown, shown-more, shown-skip, shown-all}
use Rattle.aig_design.proofs.outputs.output_literals.Goals.{then-port+in_ok-bits+in_ok-append, else-port}
use Rattle.aig_design.proofs.outputs.output_literals.Goals as goal

pub loop-i-preserved : goal.loop-i-preserved
loop-i-preserved c =
    let ports = c.args.ports.now in
    let places = c.args.places.now in
    let tops = c.args.tops.now in
    let i = c.loop-i.i in
    let d = c.index-ports-i.result in
    let is = c.index-ports-i.is in
    elim c.if-port.branch [
      | then-port+in_ok-bits+in_ok-append w ↦
          shown-more ports places tops c.loop-i.all c.if-port.all w.in_ok-bits.bits w.literals.result.now i w.place_at.result d c.loop-i-test.true (ap (λ (p : Port). p.output) (sym is) ∙ w.if-port.true) w.place_at.ensures w.literals.ensures
          (w.all-is ∙ w.in_ok-append.ensures ∙ ap (λ z. c.loop-i.all ++ z) w.as_slice.ensures)
          w.in_ok-bits.ensures.known (λ v e. w.in_ok-bits.ensures.value v e ∙ ap (λ (p : Port). bits_from (word v w.literals.result.now) 0 (p.high + 1)) is) c.loop-i.invariant
      | else-port w ↦ subst (λ z. IsShown ports places tops z (i + 1)) (sym w.all-is) (shown-skip ports places tops c.loop-i.all i d c.loop-i-test.true (ap (λ (p : Port). p.output) (sym is) ∙ w.if-port.false) c.loop-i.invariant)
    ]

pub returns-clause-value : goal.returns-clause-value
returns-clause-value c = shown-all c.args.ports.now c.args.places.now c.args.tops.now c.loop-i.all c.loop-i.i c.loop-i-test.false c.loop-i.invariant
