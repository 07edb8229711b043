use Rattle.std.proofs.Common.{◌+◌, sym, ◌∙◌, ap}
use Rattle.vl_tree.specs.declared.tree.Port.{Port}
use Rattle.aig_design.specs.declared.start.Variables.{Variables}
use Rattle.aig_design.proofs.Shown.{passed-more, passed-skip}
use Rattle.aig_design.proofs.start.pass_inputs.Goals.{then-not-port+in_ok-take, else-not-port}
use Rattle.aig_design.proofs.start.pass_inputs.Goals as goal

pub loop-port-preserved : goal.loop-port-preserved
loop-port-preserved c =
    let ports = c.args.ports.now in
    let i = c.loop-port.port-index in
    let d = c.port-item.result in
    let is = c.port-item.is in
    let out = ap (λ (p : Port). p.output) (sym is) in
    let first = c.args.variables.now.next in
    elim c.if-not-port.branch [
      | then-not-port+in_ok-take w ↦
          passed-more ports i d first c.loop-port.variables.next c.if-not-port.variables.next c.loop-port-test.true (out ∙ w.if-not-port.true)
          (ap (λ (q : Variables). q.next) w.variables-is ∙ w.in_ok-take.ensures.next ∙ ap (λ (p : Port). c.loop-port.variables.next + (p.high + 1)) is) c.loop-port.invariant
      | else-not-port w ↦ λ f. ap (λ (q : Variables). q.next) w.variables-is ∙ passed-skip ports i d first c.loop-port.variables.next c.loop-port-test.true (out ∙ w.if-not-port.false) c.loop-port.invariant f
    ]
