use Rattle.std.proofs.Common.{ap, ◌∙◌, arith, refl}
use Rattle.slot_switch.specs.Switch.{ask_at}
use Rattle.router_core.specs.Parts.{Parts}
use Rattle.router_core.proofs.Within.{within-more}
use Rattle.router_core.proofs.router.Router.asked_outputs.Goals as goal

pub loop-port-init : goal.loop-port-init
loop-port-init c = record { asks = λ port g less e below. absurd (omega (arith, less)); count = refl }

pub loop-port-preserved : goal.loop-port-preserved
loop-port-preserved c =
    let d = c.args.d in
    let port = c.loop-port.port in
    record {
      asks = within-more port c.args.self.now.switch d c.loop-port.outputs c.mark.new.outputs c.asked.result c.mark.ensures.count c.loop-port.invariant.asks
          (c.asked.ensures.value ∙ ap (λ (r : Parts). ask_at r.switch d port) c.self.view_is) c.mark.ensures.kept c.mark.ensures.has;
      count = c.mark.ensures.count ∙ c.loop-port.invariant.count;
    }
