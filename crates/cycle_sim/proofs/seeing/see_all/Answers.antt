use Rattle.std.proofs.Common.{◌≡◌, ◌<◌, ◌+◌, false, length, set, get_or, refl, Some, sym, ap, ◌∙◌, subst, arith, ⊎_elim}
use Rattle.std.specs.Prelude.{slice_get}
use Rattle.std.proofs.lemmas.Option.{slice_get_read, slice_get-get_or}
use Rattle.std.proofs.lemmas.List.{get_or_read}
use Rattle.std.proofs.lemmas.Bool.Decides.{eqb_tells}
use Rattle.noc_model.specs.declared.Host.{Host}
use Rattle.noc_model.specs.Driver.{Driver}
use Rattle.noc_model.proofs.HostTiles.{host-within}
use Rattle.tile_drive.specs.Seen.{seen_at}
use Rattle.router_core.specs.Parts.{Parts}
use Rattle.router_core.specs.Shown.{Shows}
use Rattle.router_core.specs.Sizes.{IsMade}
use Rattle.router_core.specs.Idle.{IsIdle}
use Rattle.cycle_sim.specs.Asleep.{is_awake}
use Rattle.cycle_sim.specs.Attached.{told_by, seen_of, state_after}
use Rattle.cycle_sim.proofs.Written.{get-below, same-read}
use Rattle.cycle_sim.proofs.Told.{shows-told, made-told, idle-told, AreTold, IsTold, told-next}
use Rattle.cycle_sim.proofs.seeing.see_all.Goals as goal

pub loop-j-preserved : goal.loop-j-preserved
loop-j-preserved g c =
    let p = c.args.plan.now in
    let t = c.args.cycle in
    let j = c.loop-j.j in
    let v : Driver = g.D.Driving.driver c.args.drive.now in
    let st = g.D.Driving.state c.args.drive.now in
    let h : Host = c.attach-host.result in
    let olds = c.loop-j.routers.items in
    let first = c.args.routers.now.items in
    let r : Parts = c.index_mut.result.now in
    let inv = c.loop-j.invariant in
    let within = host-within p j h c.known.ensures c.attach-host.ensures in
    let below : h.tile < length olds = omega (arith, within.0, inv.routers) in
    let here = slice_get_read olds (length olds) h.tile r refl below c.index_mut.ensures.value in
    let in_first : h.tile < length first = omega (arith, within.0, c.requires.routers) in
    let a : Parts = get_or first h.tile r in
    let was : slice_get first h.tile ≡ Some a = slice_get-get_or first h.tile r in_first in
    let state = inv.waiting j (omega arith) in
    let told : IsTold v st (is_awake c.args.awake.now h.tile) t j h.domain r c.see_or_sleep.new.router = record {
      rest = c.see_or_sleep.ensures.router;
      long = c.see_or_sleep.ensures.told_len;
      told = λ up. c.see_or_sleep.ensures.told up ∙ ap (λ (w : Driver). told_by w t j (g.D.Driving.state c.loop-j.drive j)) inv.driver ∙ ap (told_by v t j) state;
      others = c.see_or_sleep.ensures.told_others;
    } in
    let are : AreTold p v st c.args.awake.now t j first olds = record { count = inv.routers; same = inv.same; told_len = inv.told_len; told = inv.told; away = inv.away } in
    let next : AreTold p v st c.args.awake.now t (j + 1) first (set olds h.tile c.see_or_sleep.new.router) =
    told-next p v st c.args.awake.now t j first olds h r c.see_or_sleep.new.router c.known.ensures are c.attach-host.ensures here below told in
    let r_is = inv.same h.tile a r was here in
    record {
      routers = next.count;
      same = next.same;
      told_len = next.told_len;
      told = next.told;
      away = next.away;
      count = c.see_or_sleep.ensures.count ∙ inv.count;
      driver = c.see_or_sleep.ensures.driver ∙ inv.driver;
      seen_len = c.see_or_sleep.ensures.seen_len ∙ inv.seen_len;
      done = λ i k q s less at is shown. ⊎_elim
          (λ same.
          let k_is : k ≡ h = same-read k h (sym at ∙ ap (slice_get p.hosts) same.1 ∙ c.attach-host.ensures) in
          let q_is : q ≡ a = same-read q a (sym is ∙ ap (λ (z : Host). slice_get first z.tile) k_is ∙ was) in
          let shown' : Shows r p h.domain s = subst (λ (z : Parts). Shows z p h.domain s) (sym r_is)
          (shows-told a r.told p h.domain s (subst (λ (z : Host). Shows a p z.domain s) k_is (subst (λ (z : Parts). Shows z p k.domain s) q_is shown))) in (
            ap (g.D.Driving.state c.see_or_sleep.new.drive) same.1 ∙ c.see_or_sleep.ensures.state s shown' ∙ ap (λ (w : Driver). state_after p w t j s (g.D.Driving.state c.loop-j.drive j)) inv.driver
                ∙ ap (state_after p v t j s) state ∙ ap (λ l. state_after p v t l s (st l)) (sym same.1),
            ap (seen_at c.see_or_sleep.new.seen) same.1 ∙ c.see_or_sleep.ensures.seen s shown' ∙ ap (λ (w : Driver). seen_of p w t j s (g.D.Driving.state c.loop-j.drive j)) inv.driver
                ∙ ap (seen_of p v t j s) state ∙ ap (λ l. seen_of p v t l s (st l)) (sym same.1),
          ))
          (λ other.
          let apart = other.1 in
          let before = inv.done i k q s (grind (arith, less, apart)) at is shown in
          (c.see_or_sleep.ensures.others i apart ∙ before.0, c.see_or_sleep.ensures.seen_others i apart ∙ before.1))
          (eqb_tells i j);
      waiting = λ i more. c.see_or_sleep.ensures.others i (λ e. absurd (omega (arith, more, e))) ∙ inv.waiting i (omega (arith, more));
    }

pub see_or_sleep-requires-clause-made : goal.see_or_sleep-requires-clause-made
see_or_sleep-requires-clause-made g c =
    let p = c.args.plan.now in
    let h : Host = c.attach-host.result in
    let olds = c.loop-j.routers.items in
    let first = c.args.routers.now.items in
    let r : Parts = c.index_mut.result.now in
    let inv = c.loop-j.invariant in
    let within = host-within p c.loop-j.j h c.known.ensures c.attach-host.ensures in
    let below : h.tile < length olds = omega (arith, within.0, inv.routers) in
    let here = slice_get_read olds (length olds) h.tile r refl below c.index_mut.ensures.value in
    let in_first : h.tile < length first = omega (arith, within.0, c.requires.routers) in
    let a : Parts = get_or first h.tile r in
    let was : slice_get first h.tile ≡ Some a = slice_get-get_or first h.tile r in_first in
    subst (λ (z : Parts). IsMade z p) (sym (inv.same h.tile a r was here)) (made-told a r.told p (inv.told_len h.tile a r was here) (c.requires.made h.tile a was))

pub see_or_sleep-requires-clause-idle : goal.see_or_sleep-requires-clause-idle
see_or_sleep-requires-clause-idle g c = λ down.
    let p = c.args.plan.now in
    let h : Host = c.attach-host.result in
    let olds = c.loop-j.routers.items in
    let first = c.args.routers.now.items in
    let r : Parts = c.index_mut.result.now in
    let inv = c.loop-j.invariant in
    let within = host-within p c.loop-j.j h c.known.ensures c.attach-host.ensures in
    let below : h.tile < length olds = omega (arith, within.0, inv.routers) in
    let here = slice_get_read olds (length olds) h.tile r refl below c.index_mut.ensures.value in
    let in_first : h.tile < length first = omega (arith, within.0, c.requires.routers) in
    let a : Parts = get_or first h.tile r in
    let was : slice_get first h.tile ≡ Some a = slice_get-get_or first h.tile r in_first in
    subst (IsIdle p) (sym (inv.same h.tile a r was here)) (idle-told p a r.told (c.requires.idle h.tile a was down))

pub see_or_sleep-requires-clause-nothing : goal.see_or_sleep-requires-clause-nothing
see_or_sleep-requires-clause-nothing g c = λ down.
    let p = c.args.plan.now in
    let j = c.loop-j.j in
    let t = c.args.cycle in
    let h : Host = c.attach-host.result in
    let inv = c.loop-j.invariant in
    let within = host-within p j h c.known.ensures c.attach-host.ensures in
    ap (λ (w : Driver). w.offer j (g.D.Driving.state c.loop-j.drive j) t) inv.driver
    ∙ ap (λ z. (g.D.Driving.driver c.args.drive.now).offer j z t) (inv.waiting j (omega arith))
    ∙ c.requires.nothing j h c.attach-host.ensures down

pub returns-clause-told : goal.returns-clause-told
returns-clause-told g c = λ j h new at is up.
    c.loop-j.invariant.told j h new (let below = get-below c.args.plan.now.hosts j h at in omega (arith, below, c.attach_count-j-end.ensures, c.loop-j-test.false)) at is up

pub returns-clause-states : goal.returns-clause-states
returns-clause-states g c = λ j h r s at is shown.
    (c.loop-j.invariant.done j h r s (let below = get-below c.args.plan.now.hosts j h at in omega (arith, below, c.attach_count-j-end.ensures, c.loop-j-test.false)) at is shown).0

pub returns-clause-seen : goal.returns-clause-seen
returns-clause-seen g c = λ j h r s at is shown.
    (c.loop-j.invariant.done j h r s (let below = get-below c.args.plan.now.hosts j h at in omega (arith, below, c.attach_count-j-end.ensures, c.loop-j-test.false)) at is shown).1
