use Rattle.std.proofs.Common.{◌≡◌, ◌<◌, length, set, length-set, get_or, get_or-set_same, get_or-set_other, refl, false, [], sym, ap, ◌∙◌, subst, arith, ⊎_elim}
use Rattle.std.specs.Prelude.{slice_get}
use Rattle.std.proofs.lemmas.List.{get_or_read}
use Rattle.std.proofs.lemmas.Option.{slice_get_read}
use Rattle.std.proofs.lemmas.Bool.Decides.{eqb_tells}
use Rattle.router_core.specs.Parts.{Parts}
use Rattle.router_core.specs.Pulses.{pulse_at}
use Rattle.router_core.specs.Sizes.{HasPorts}
use Rattle.cycle_sim.specs.Asleep.{is_awake}
use Rattle.cycle_sim.proofs.Written.{get-below, same-read}
use Rattle.cycle_sim.proofs.pulses.keep_all.Goals as goal

pub loop-n-init : goal.loop-n-init
loop-n-init c = record { kept = c.requires.kept; each = c.requires.ports; same = λ m d port r less at up there inside. absurd (omega (arith, less)); asleep = λ m down. refl }

pub keep_if-requires-clause-made : goal.keep_if-requires-clause-made
keep_if-requires-clause-made c =
    let n = c.loop-n.n in
    let below : n < length c.args.routers.now = omega (arith, c.requires.routers, c.tiles-n-end.ensures, c.loop-n-test.true) in
    c.requires.made n c.index-routers-n.result (slice_get_read c.args.routers.now (length c.args.routers.now) n c.index-routers-n.result refl below c.index-routers-n.is)

pub keep_if-requires-clause-ports : goal.keep_if-requires-clause-ports
keep_if-requires-clause-ports c =
    let n = c.loop-n.n in
    let below : n < length c.loop-n.kept.items = omega (arith, c.loop-n.invariant.kept, c.tiles-n-end.ensures, c.loop-n-test.true) in
    let read = get_or_read c.loop-n.kept.items _ _ below c.index_mut.ensures.value [] in
    subst (λ v. HasPorts c.args.plan.now v) (sym read) (c.loop-n.invariant.each n (omega (arith, c.tiles-n-end.ensures, c.loop-n-test.true)))

pub loop-n-preserved : goal.loop-n-preserved
loop-n-preserved c =
    let n = c.loop-n.n in
    let p = c.args.plan.now in
    let olds = c.loop-n.kept.items in
    let new = c.keep_if.new.kept in
    let below : n < length olds = omega (arith, c.loop-n.invariant.kept, c.tiles-n-end.ensures, c.loop-n-test.true) in
    let below' : n < length c.args.routers.now = omega (arith, c.requires.routers, c.tiles-n-end.ensures, c.loop-n-test.true) in
    let at = slice_get_read c.args.routers.now (length c.args.routers.now) n c.index-routers-n.result refl below' c.index-routers-n.is in
    let read = get_or_read olds _ _ below c.index_mut.ensures.value [] in
    record {
      kept = length-set olds n new ∙ c.loop-n.invariant.kept;
      each = λ m inside. ⊎_elim
          (λ same. subst (λ v. HasPorts p v) (sym (ap (λ k. get_or (set olds n new) k []) same.1 ∙ get_or-set_same olds n new [] below)) c.keep_if.ensures.ports)
          (λ other. subst (λ v. HasPorts p v) (sym (get_or-set_other olds n m new [] other.1)) (c.loop-n.invariant.each m inside))
          (eqb_tells m n);
      same = λ m d port r less is up there inside. ⊎_elim
          (λ same.
          let r_is : c.index-routers-n.result ≡ r = same-read c.index-routers-n.result r (sym at ∙ ap (slice_get c.args.routers.now) (sym same.1) ∙ is) in
          ap (λ v. pulse_at v d port) (ap (λ k. get_or (set olds n new) k []) same.1 ∙ get_or-set_same olds n new [] below)
          ∙ c.keep_if.ensures.same (ap (is_awake c.args.awake.now) (sym same.1) ∙ up) d port there inside
          ∙ ap (λ (q : Parts). pulse_at q.pulses d port) r_is)
          (λ other.
          let apart = other.1 in
          ap (λ v. pulse_at v d port) (get_or-set_other olds n m new [] apart) ∙ c.loop-n.invariant.same m d port r (grind (arith, less, apart)) is up there inside)
          (eqb_tells m n);
      asleep = λ m down. ⊎_elim
          (λ same.
          ap (λ k. get_or (set olds n new) k []) same.1 ∙ get_or-set_same olds n new [] below
          ∙ c.keep_if.ensures.asleep (ap (is_awake c.args.awake.now) (sym same.1) ∙ down) ∙ read ∙ ap (λ k. get_or olds k []) (sym same.1)
          ∙ c.loop-n.invariant.asleep m down)
          (λ other. get_or-set_other olds n m new [] other.1 ∙ c.loop-n.invariant.asleep m down)
          (eqb_tells m n);
    }

pub returns-clause-same : goal.returns-clause-same
returns-clause-same c = λ n d port r is up there inside.
    let below = get-below c.args.routers.now n r is in
    c.loop-n.invariant.same n d port r (omega (arith, below, c.requires.routers, c.tiles-n-end.ensures, c.loop-n-test.false)) is up there inside
