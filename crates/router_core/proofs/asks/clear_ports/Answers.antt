use Rattle.std.proofs.Common.{List, Option, ℕ, sym, subst}
use Rattle.slot_switch.specs.Switch.{Switch, without_asks}
use Rattle.router_core.specs.Ready.{IsCleared}
use Rattle.router_core.proofs.Cleared.{are-cleared}
use Rattle.router_core.proofs.asks.clear_ports.Goals as goal

pub returns : goal.returns
returns c =
    let p = c.args.plan.now in
    let d = c.args.d in
    let x = c.args.switch.now in
    let u = c.args.pulses.now in
    let S : Switch → Type 0 = λ y. IsCleared p d x y u c.fill.new.self in
    let V : List (List (Option ℕ)) → Type 0 = λ v. IsCleared p d x (without_asks x d) u v in
    subst S (sym c.clear_all.ensures) (subst V (sym c.fill.ensures) (are-cleared p d x u c.requires.domain c.requires.switch c.requires.pulses))
