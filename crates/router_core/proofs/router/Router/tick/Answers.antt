use Rattle.std.proofs.Common.{◌+◌, sym, subst}
use Rattle.wave_sched.specs.Wheels.{Stands}
use Rattle.router_core.specs.contracts.router.Router.{the_view}
use Rattle.router_core.specs.Parts.{Parts}
use Rattle.router_core.specs.Sizes.{IsMade}
use Rattle.router_core.specs.Shown.{Shows}
use Rattle.router_core.proofs.Ticked.{ticked_parts, ticked-shows, ticked-made}
use Rattle.router_core.proofs.router.Router.tick.Goals as goal

pub returns-clause-rest : goal.returns-clause-rest
returns-clause-rest c = λ i. let r : Parts = c.self.view_is i in ticked_parts r c.tick.new.self

pub returns-clause-stands : goal.returns-clause-stands
returns-clause-stands c = λ p n t stands.
    let P : Parts → Type 0 = λ r. Stands r.wheel p n t in
    c.tick.ensures p n t (subst P (sym c.self.view_is) stands)

pub returns-clause-shows : goal.returns-clause-shows
returns-clause-shows c = λ p d s shown.
    let S : Parts → Type 0 = λ r. Shows r p d s in
    ticked-shows (the_view c.self.inside) c.tick.new.self p d s (subst S (sym c.self.view_is) shown)

pub returns-clause-made : goal.returns-clause-made
returns-clause-made c = λ p n t stands made.
    let P : Parts → Type 0 = λ r. Stands r.wheel p n t in
    let M : Parts → Type 0 = λ r. IsMade r p in
    ticked-made (the_view c.self.inside) c.tick.new.self p n (t + 1) (c.tick.ensures p n t (subst P (sym c.self.view_is) stands)) (subst M (sym c.self.view_is) made)
