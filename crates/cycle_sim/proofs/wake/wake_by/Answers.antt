use Rattle.std.proofs.Common.{◌≡◌, ◌≢◌, ◌<◌, ℕ, Bool, true, false, List, length, set, get_or-set_same, get_or-set_other, refl, sym, ap, ◌∙◌, arith, ⊎_elim, Some, None}
use Rattle.std.proofs.lemmas.Bool.Decides.{eqb_tells}
use Rattle.cycle_sim.specs.Asleep.{is_awake}
use Rattle.cycle_sim.proofs.Numbers.{link-ends}
use Rattle.cycle_sim.proofs.Written.{same-read}
use Rattle.cycle_sim.proofs.Waking.{set-asleep, set-awake}
use Rattle.cycle_sim.proofs.wake.wake_by.Goals as goal

pub returns-in-Some-clause-asleep : goal.returns-in-Some-clause-asleep
returns-in-Some-clause-asleep c = λ n down. set-asleep c.args.awake.now.items c.in-Some.n n down

pub returns-in-Some-clause-nothing : goal.returns-in-Some-clause-nothing
returns-in-Some-clause-nothing c = λ n linked down.
    let p = c.args.plan.now in
    let here = sym c.neighbour.ensures.value ∙ c.in-Some.is in
    let ends = link-ends p c.args.m c.args.port c.in-Some.n c.known.ensures c.requires.tile here in
    let is : c.in-Some.n ≡ n = same-read c.in-Some.n n (sym here ∙ linked) in
    absurd (set-awake c.args.awake.now.items c.in-Some.n n (omega (arith, ends.0, c.requires.awake)) is down)
