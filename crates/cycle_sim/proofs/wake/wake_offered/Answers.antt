use Rattle.std.proofs.Common.{◌≡◌, ◌<◌, ℕ, length, None, sym, subst, arith, ⊎_elim, ap, ◌∙◌}
use Rattle.std.specs.Prelude.{slice_get}
use Rattle.std.proofs.lemmas.Bool.Decides.{eqb_tells}
use Rattle.noc_model.specs.declared.Host.{Host}
use Rattle.noc_model.proofs.HostTiles.{host-within}
use Rattle.cycle_sim.specs.Asleep.{is_awake}
use Rattle.cycle_sim.proofs.Written.{get-below, same-read}
use Rattle.cycle_sim.proofs.wake.wake_offered.Goals as goal

pub wake_host-requires-clause-tile : goal.wake_host-requires-clause-tile
wake_host-requires-clause-tile g c =
    let within = host-within c.args.plan.now c.loop-j.j c.attach.result c.known.ensures c.attach.ensures in
    omega (arith, within.0, c.loop-j.invariant.count)

pub loop-j-preserved : goal.loop-j-preserved
loop-j-preserved g c =
    let j = c.loop-j.j in
    let inv = c.loop-j.invariant in
    let drive = c.args.drive.now in
    let P : ℕ → Type 0 = λ i. (g.D.Driving.driver drive).offer i (g.D.Driving.state drive i) c.args.cycle ≡ None in
    record {
      count = c.wake_host.ensures.count ∙ inv.count;
      asleep = λ n down. inv.asleep n (c.wake_host.ensures.asleep n down);
      nothing = λ i h less at down. ⊎_elim
          (λ same.
          let is : c.attach.result ≡ h = same-read c.attach.result h (sym c.attach.ensures ∙ ap (slice_get c.args.plan.now.hosts) (sym same.1) ∙ at) in
          subst P (sym same.1) (c.wake_host.ensures.nothing (ap (λ (z : Host). is_awake c.wake_host.new.awake.items z.tile) is ∙ down)))
          (λ other. let apart = other.1 in inv.nothing i h (grind (arith, less, apart)) at (c.wake_host.ensures.asleep h.tile down))
          (eqb_tells i j);
    }

pub returns-clause-nothing : goal.returns-clause-nothing
returns-clause-nothing g c = λ j h at down.
    c.loop-j.invariant.nothing j h (let below = get-below c.args.plan.now.hosts j h at in omega (arith, below, c.attach_count-j-end.ensures, c.loop-j-test.false)) at down
