use Rattle.std.proofs.Common.{◌≡◌, ◌<◌, ℕ, List, length, length-set, get_or-set_same, get_or-set_other, sym, ap, ◌∙◌, arith}
use Rattle.noc_model.specs.Driver.{Driver}
use Rattle.router_core.specs.declared.attachments.Told.{Told}
use Rattle.router_core.specs.Attachments.{nothing_told, told_at}
use Rattle.router_core.specs.Parts.{Parts}
use Rattle.cycle_sim.specs.Attached.{with_told, told_by}
use Rattle.cycle_sim.proofs.Sleeping.{rest-seen, rest-state}
use Rattle.cycle_sim.proofs.seeing.see_or_sleep.Goals as goal

pub returns-then-awake-clause-router : goal.returns-then-awake-clause-router
returns-then-awake-clause-router g c = c.see.ensures.router ∙ ap (with_told c.args.router.now) (sym (ap (λ (q : Parts). q.told) c.see.ensures.router))

pub returns-then-awake-clause-told_len : goal.returns-then-awake-clause-told_len
returns-then-awake-clause-told_len g c =
    let x : Told = told_by (g.D.Driving.driver c.args.drive.now) c.args.cycle c.args.j (g.D.Driving.state c.args.drive.now c.args.j) in
    ap (λ (q : Parts). length q.told) c.see.ensures.router ∙ length-set (c.args.router.now).told c.args.d x

pub returns-then-awake-clause-told : goal.returns-then-awake-clause-told
returns-then-awake-clause-told g c = λ up.
    let x : Told = told_by (g.D.Driving.driver c.args.drive.now) c.args.cycle c.args.j (g.D.Driving.state c.args.drive.now c.args.j) in
    let there : c.args.d < length (c.args.router.now).told = omega (arith, c.requires.domain, c.requires.made.told) in
    ap (λ (q : Parts). told_at q.told c.args.d) c.see.ensures.router ∙ get_or-set_same (c.args.router.now).told c.args.d x nothing_told there

pub returns-then-awake-clause-told_others : goal.returns-then-awake-clause-told_others
returns-then-awake-clause-told_others g c = λ e apart.
    let x : Told = told_by (g.D.Driving.driver c.args.drive.now) c.args.cycle c.args.j (g.D.Driving.state c.args.drive.now c.args.j) in
    ap (λ (q : Parts). told_at q.told e) c.see.ensures.router ∙ get_or-set_other (c.args.router.now).told c.args.d e x nothing_told apart

pub returns-else-awake-clause-state : goal.returns-else-awake-clause-state
returns-else-awake-clause-state g c = λ s shown.
    let v : Driver = g.D.Driving.driver c.args.drive.now in
    let st : List ℕ = g.D.Driving.state c.args.drive.now c.args.j in
    sym (rest-state c.args.plan.now c.args.d c.args.router.now s c.known.ensures c.requires.made c.requires.domain (c.requires.idle c.if-awake.false c.args.d c.requires.domain) shown
    v c.args.cycle c.args.j st (c.requires.nothing c.if-awake.false))

pub returns-else-awake-clause-seen : goal.returns-else-awake-clause-seen
returns-else-awake-clause-seen g c = λ s shown.
    let v : Driver = g.D.Driving.driver c.args.drive.now in
    let st : List ℕ = g.D.Driving.state c.args.drive.now c.args.j in
    c.set.ensures.set
    ∙ sym (rest-seen c.args.plan.now c.args.d c.args.router.now s c.known.ensures c.requires.made c.requires.domain (c.requires.idle c.if-awake.false c.args.d c.requires.domain) shown
    v c.args.cycle c.args.j st (c.requires.nothing c.if-awake.false))
