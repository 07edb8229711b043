use Rattle.std.proofs.Common.{◌∙◌, sym, ap, subst}
use Rattle.noc_model.specs.Tile.{start_tile}
use Rattle.router_core.specs.Parts.{Parts, start_parts}
use Rattle.router_core.specs.Shown.{Shows}
use Rattle.wave_sched.specs.Wheels.{Stands}
use Rattle.router_core.proofs.Start.{start-shows}
use Rattle.router_core.proofs.Lawful.{all-start}
use Rattle.router_core.proofs.router.Router.new.Goals as goal

pub returns-clause-value : goal.returns-clause-value
returns-clause-value c = c.in_ok-router.ensures.value ∙ ap (start_parts c.args.plan.now c.args.tile) (ap (λ (r : Parts). r.wheel) (sym c.in_ok-router.ensures.value))

pub returns-clause-wheel : goal.returns-clause-wheel
returns-clause-wheel c =
    let P : Parts → Type 0 = λ r. Stands r.wheel c.args.plan.now c.args.tile 0 in
    subst P (sym c.in_ok-router.ensures.value) c.in_ok-wheel.ensures

pub returns-clause-shows : goal.returns-clause-shows
returns-clause-shows c = λ d there.
    let P : Parts → Type 0 = λ r. Shows r c.args.plan.now d (start_tile c.args.plan.now) in
    subst P (sym c.in_ok-router.ensures.value) (start-shows c.args.plan.now c.args.tile d _ there)

pub returns-clause-lawful : goal.returns-clause-lawful
returns-clause-lawful c =
    all-start c.args.plan.now c.args.tile _ c.known.ensures (returns-clause-value c) c.in_ok-router.ensures.made (returns-clause-wheel c) (returns-clause-shows c)
