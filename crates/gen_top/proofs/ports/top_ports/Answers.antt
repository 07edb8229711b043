use Rattle.std.proofs.Common.{◌++◌, ◌∷◌, [], ◌∙◌, sym, ap, Some}
use Rattle.gen_kit.specs.Ports.{top_ports}
use Rattle.gen_top.proofs.Rows.{taken}
use Rattle.gen_top.proofs.ports.top_ports.Goals as goal

pub loop-i-preserved : goal.loop-i-preserved
loop-i-preserved c =
    let all = top_ports c.args.plan.now in
    c.in_ok-push.ensures.ok ∙ (ap (λ ps. ps ++ c.in_ok-port_of.field-0 ∷ []) c.loop-i.invariant
    ∙ sym (taken all c.loop-i.i c.in_ok-port_of.field-0
    (c.top_port.ensures.port ∙ ap (λ q. Some q) (sym c.in_ok-port_of.ensures))))
