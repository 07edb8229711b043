use Rattle.std.proofs.Common.{◌≡◌, ◌<◌, ℕ, length, sym, ap, subst, arith, refl}
use Rattle.std.proofs.lemmas.Option.{slice_get_read}
use Rattle.noc_model.specs.Plan.{tiles}
use Rattle.noc_model.specs.Run.{State}
use Rattle.router_core.specs.Shown as routers
use Rattle.router_core.specs.Sizes.{IsMade}
use Rattle.cycle_sim.specs.Net.{Kept, Shows}
use Rattle.cycle_sim.proofs.net.Net.router.Goals as goal

pub returns-clause-made : goal.returns-clause-made
returns-clause-made c =
    let n = c.args.n in
    let rs = c.self.inside.routers.items in
    let inside : n < tiles c.self.inside.plan = subst (λ (k : Kept). n < tiles k.plan) (sym c.self.view_is) c.requires in
    let below : n < length rs = omega (arith, inside, c.self.invariant.0.routers) in
    let at = slice_get_read rs (length rs) n c.index.result.now refl below c.index.ensures in
    subst (λ (k : Kept). IsMade c.index.result.now k.plan) c.self.view_is (c.self.invariant.0.router n c.index.result.now at).made

pub returns-clause-shows : goal.returns-clause-shows
returns-clause-shows c =
    let n = c.args.n in
    let rs = c.self.inside.routers.items in
    let inside : n < tiles c.self.inside.plan = subst (λ (k : Kept). n < tiles k.plan) (sym c.self.view_is) c.requires in
    let below : n < length rs = omega (arith, inside, c.self.invariant.0.routers) in
    let at = slice_get_read rs (length rs) n c.index.result.now refl below c.index.ensures in
    subst (λ (k : Kept). (d : ℕ) (s : State) → Shows k d s → routers.Shows c.index.result.now k.plan d (s n)) c.self.view_is (λ d s shown. shown.each n c.index.result.now at)
