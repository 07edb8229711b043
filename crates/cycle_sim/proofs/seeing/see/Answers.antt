use Rattle.std.proofs.Common.{◌≡◌, ℕ, List, Bool, Option, None, sym, ap, ◌∙◌}
use Rattle.std.specs.Prelude.{is_some, ◌&&◌, if◌then◌else◌}
use Rattle.noc_model.specs.declared.Ejected.{Ejected}
use Rattle.noc_model.specs.Step.{is_open}
use Rattle.noc_model.specs.Driver.{Driver, after_taken, after_got}
use Rattle.noc_model.specs.Events.{ejected_of}
use Rattle.tile_drive.specs.declared.cycle_seen.SeenAt.{SeenAt}
use Rattle.cycle_sim.proofs.seeing.see.Goals.{then-hears, else-hears, then-ready, else-ready}
use Rattle.cycle_sim.proofs.seeing.see.Goals as goal

pub returns-clause-seen : goal.returns-clause-seen
returns-clause-seen g c = λ s shown.
    let p = c.args.plan.now in
    let given : Bool → Option Ejected = λ b. if b then ejected_of s.ejected else None in
    let got : c.if-hears.got ≡ given ((g.D.Driving.driver c.args.drive.now).hears c.args.j (g.D.Driving.state c.args.drive.now c.args.j) c.args.cycle) =
    elim c.if-hears.branch [
      | then-hears w ↦ (w.got-is ∙ c.ejected-ejected.ensures p s shown ∙ ap given (sym w.if-hears.true ∙ c.hears-hears.ensures))
      | else-hears w ↦ (w.got-is ∙ ap given (sym w.if-hears.false ∙ c.hears-hears.ensures))
    ] in
    c.set.ensures.set
    ∙ (λ i. let x : SeenAt = record { offered = c.offer-offer.ensures i; ready = c.ready-ready.ensures s shown i; dropped = c.drop_pulse-dropped.ensures p s shown i; got = got i } in x)

pub returns-clause-state : goal.returns-clause-state
returns-clause-state g c = λ s shown.
    let p = c.args.plan.now in
    let j = c.args.j in
    let t = c.args.cycle in
    let v : Driver = g.D.Driving.driver c.args.drive.now in
    let st : List ℕ = g.D.Driving.state c.args.drive.now j in
    let taken : c.if-ready.notify_taken ≡ (is_open p s && is_some (v.offer j st t)) =
    elim c.if-ready.branch [
      | then-ready w ↦ (w.notify_taken-is ∙ w.is_some.ensures ∙ ap is_some c.offer-offer.ensures
          ∙ ap (λ b. b && is_some (v.offer j st t)) (sym w.if-ready.true ∙ c.ready-ready.ensures s shown))
      | else-ready w ↦ (w.notify_taken-is ∙ w.if-ready.false ∙ ap (λ b. b && is_some (v.offer j st t)) (sym w.if-ready.false ∙ c.ready-ready.ensures s shown))
    ] in
    c.notify_got.ensures.state
    ∙ ap (λ (x : Driver). after_got x j (g.D.Driving.state c.notify_taken.new.drive j) t c.hears-hears.result c.ejected-ejected.result) c.notify_taken.ensures.driver
    ∙ ap (λ x. after_got v j x t c.hears-hears.result c.ejected-ejected.result) (c.notify_taken.ensures.state ∙ ap (after_taken v j st t) taken)
    ∙ ap (λ h. after_got v j (after_taken v j st t (is_open p s && is_some (v.offer j st t))) t h c.ejected-ejected.result) c.hears-hears.ensures
    ∙ ap (after_got v j (after_taken v j st t (is_open p s && is_some (v.offer j st t))) t (v.hears j st t)) (c.ejected-ejected.ensures p s shown)
