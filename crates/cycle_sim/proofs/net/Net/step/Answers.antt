use Rattle.std.proofs.Common.{◌≡◌, ◌<◌, ◌+◌, ℕ, List, length, Some, [], sym, ap, ◌∙◌, subst, arith}
use Rattle.std.specs.Prelude.{slice_get, pos}
use Rattle.noc_model.specs.declared.Host.{Host}
use Rattle.noc_model.specs.Limits.{most_cycles}
use Rattle.noc_model.specs.Run.{State, step}
use Rattle.noc_model.specs.Driver.{Driver, driven, next_state}
use Rattle.tile_drive.specs.Seen.{seen_at}
use Rattle.router_core.specs.declared.router.RouterOut.{RouterOut}
use Rattle.router_core.specs.Parts.{Parts}
use Rattle.router_core.specs.Sizes.{IsMade}
use Rattle.router_core.specs.Idle.{IsIdle}
use Rattle.cycle_sim.specs.Asleep.{is_awake, SendsNothing, AreAsleep}
use Rattle.cycle_sim.specs.Attached.{seen_of}
use Rattle.cycle_sim.specs.TileCycle.{AreAllPulses, MayStep, HasStepped}
use Rattle.cycle_sim.specs.Net.{Kept, Shows, kept}
use Rattle.cycle_sim.proofs.Written.{get-below, record-at}
use Rattle.cycle_sim.proofs.Cycle.{HasCycled, HasMoved, router-told, are-pulses, may-step, shows-next, whole-next, asleep-next, state-is, host-router}
use Rattle.cycle_sim.proofs.Phases.{HasWoken, AreAllTold, has-cycled, woken-asleep}
use Rattle.cycle_sim.proofs.net.Net.step.Goals as goal

pub keep_all-requires-clause-made : goal.keep_all-requires-clause-made
keep_all-requires-clause-made g c = λ n r is. (c.self.invariant.0.router n r (ap (λ xs. slice_get xs n) (sym c.deref-2.ensures.value) ∙ is)).made

pub see_all-requires-clause-made : goal.see_all-requires-clause-made
see_all-requires-clause-made g c = λ n r is. (c.self.invariant.0.router n r is).made

pub see_all-requires-clause-idle : goal.see_all-requires-clause-idle
see_all-requires-clause-idle g c = λ n r is down.
    let p = c.self.inside.plan in
    let t = c.self.inside.cycle in
    let v : Driver = g.D.Driving.driver c.args.drive.now in
    let st = g.D.Driving.state c.args.drive.now in
    let first : List Parts = c.self.inside.routers.items in
    let rows = c.self.inside.rows.items in
    let before = c.self.inside.pulses.items in
    let pulses = c.keep_all.new.kept.items in
    let slept = c.self.inside.awake.items in
    let near = c.wake_neighbours.new.awake.items in
    let awake = c.wake_hosts.new.awake.items in
    let woken : HasWoken p t v st first rows before pulses slept near awake = record {
      whole = c.self.invariant.0;
      asleep = c.self.invariant.2;
      pulse_count = c.keep_all.ensures.kept;
      pulse_ports = c.keep_all.ensures.ports;
      kept_same = λ n d port r is up. c.keep_all.ensures.same n d port r (ap (λ xs. slice_get xs n) c.deref-2.ensures.value ∙ is) (ap (λ xs. is_awake xs n) c.deref.ensures.value ∙ up);
      kept_asleep = λ n down. c.keep_all.ensures.asleep n (ap (λ xs. is_awake xs n) c.deref.ensures.value ∙ down);
      near_asleep = c.wake_neighbours.ensures.asleep;
      nothing = λ m n port inside low up linked down.
          subst (λ xs. SendsNothing p xs pulses m port) c.deref-3.ensures.value
          (subst (λ xs. SendsNothing p c.deref-3.result.now xs m port) c.deref-4.ensures.value (c.wake_neighbours.ensures.nothing m n port inside low up linked down));
      still_asleep = c.wake_hosts.ensures.asleep;
      offers = c.wake_hosts.ensures.nothing;
    } in
    (woken-asleep p t v st first rows before pulses slept near awake c.known.ensures woken n r is (ap (λ xs. is_awake xs n) (sym c.deref-5.ensures.value) ∙ down)).idle

pub see_all-requires-clause-nothing : goal.see_all-requires-clause-nothing
see_all-requires-clause-nothing g c = λ j h at down. c.wake_hosts.ensures.nothing j h at (ap (λ xs. is_awake xs h.tile) (sym c.deref-5.ensures.value) ∙ down)

pub step_tiles-requires-clause-pulses : goal.step_tiles-requires-clause-pulses
step_tiles-requires-clause-pulses g c =
    let p = c.self.inside.plan in
    let t = c.self.inside.cycle in
    let v : Driver = g.D.Driving.driver c.args.drive.now in
    let st = g.D.Driving.state c.args.drive.now in
    let first : List Parts = c.self.inside.routers.items in
    let rows = c.self.inside.rows.items in
    let before = c.self.inside.pulses.items in
    let pulses = c.keep_all.new.kept.items in
    let slept = c.self.inside.awake.items in
    let near = c.wake_neighbours.new.awake.items in
    let awake = c.wake_hosts.new.awake.items in
    let woken : HasWoken p t v st first rows before pulses slept near awake = record {
      whole = c.self.invariant.0;
      asleep = c.self.invariant.2;
      pulse_count = c.keep_all.ensures.kept;
      pulse_ports = c.keep_all.ensures.ports;
      kept_same = λ n d port r is up. c.keep_all.ensures.same n d port r (ap (λ xs. slice_get xs n) c.deref-2.ensures.value ∙ is) (ap (λ xs. is_awake xs n) c.deref.ensures.value ∙ up);
      kept_asleep = λ n down. c.keep_all.ensures.asleep n (ap (λ xs. is_awake xs n) c.deref.ensures.value ∙ down);
      near_asleep = c.wake_neighbours.ensures.asleep;
      nothing = λ m n port inside low up linked down.
          subst (λ xs. SendsNothing p xs pulses m port) c.deref-3.ensures.value
          (subst (λ xs. SendsNothing p c.deref-3.result.now xs m port) c.deref-4.ensures.value (c.wake_neighbours.ensures.nothing m n port inside low up linked down));
      still_asleep = c.wake_hosts.ensures.asleep;
      offers = c.wake_hosts.ensures.nothing;
    } in
    let told : List Parts = c.see_all.new.routers.items in
    let are : AreAllTold p t v st awake first told = record {
      count = c.see_all.ensures.routers;
      same = c.see_all.ensures.same;
      long = c.see_all.ensures.told_len;
      by_driver = λ j h new at is up. c.see_all.ensures.told j h new at is (ap (λ xs. is_awake xs h.tile) c.deref-5.ensures.value ∙ up);
      away = c.see_all.ensures.away;
    } in
    let cycled : HasCycled p t v st awake first told pulses rows = has-cycled p t v st first rows before pulses slept near awake c.known.ensures woken told are in
    subst (λ xs. AreAllPulses p xs) (sym c.deref-8.ensures.value) (are-pulses p t v st awake first told told pulses [] rows rows c.known.ensures cycled)

pub step_tiles-requires-clause-router : goal.step_tiles-requires-clause-router
step_tiles-requires-clause-router g c =
    let p = c.self.inside.plan in
    let t = c.self.inside.cycle in
    let v : Driver = g.D.Driving.driver c.args.drive.now in
    let st = g.D.Driving.state c.args.drive.now in
    let first : List Parts = c.self.inside.routers.items in
    let rows = c.self.inside.rows.items in
    let before = c.self.inside.pulses.items in
    let pulses = c.keep_all.new.kept.items in
    let slept = c.self.inside.awake.items in
    let near = c.wake_neighbours.new.awake.items in
    let awake = c.wake_hosts.new.awake.items in
    let woken : HasWoken p t v st first rows before pulses slept near awake = record {
      whole = c.self.invariant.0;
      asleep = c.self.invariant.2;
      pulse_count = c.keep_all.ensures.kept;
      pulse_ports = c.keep_all.ensures.ports;
      kept_same = λ n d port r is up. c.keep_all.ensures.same n d port r (ap (λ xs. slice_get xs n) c.deref-2.ensures.value ∙ is) (ap (λ xs. is_awake xs n) c.deref.ensures.value ∙ up);
      kept_asleep = λ n down. c.keep_all.ensures.asleep n (ap (λ xs. is_awake xs n) c.deref.ensures.value ∙ down);
      near_asleep = c.wake_neighbours.ensures.asleep;
      nothing = λ m n port inside low up linked down.
          subst (λ xs. SendsNothing p xs pulses m port) c.deref-3.ensures.value
          (subst (λ xs. SendsNothing p c.deref-3.result.now xs m port) c.deref-4.ensures.value (c.wake_neighbours.ensures.nothing m n port inside low up linked down));
      still_asleep = c.wake_hosts.ensures.asleep;
      offers = c.wake_hosts.ensures.nothing;
    } in
    let told : List Parts = c.see_all.new.routers.items in
    let are : AreAllTold p t v st awake first told = record {
      count = c.see_all.ensures.routers;
      same = c.see_all.ensures.same;
      long = c.see_all.ensures.told_len;
      by_driver = λ j h new at is up. c.see_all.ensures.told j h new at is (ap (λ xs. is_awake xs h.tile) c.deref-5.ensures.value ∙ up);
      away = c.see_all.ensures.away;
    } in
    let cycled : HasCycled p t v st awake first told pulses rows = has-cycled p t v st first rows before pulses slept near awake c.known.ensures woken told are in
    router-told p t v st awake first told told pulses [] rows rows c.known.ensures cycled

pub step_tiles-requires-clause-may : goal.step_tiles-requires-clause-may
step_tiles-requires-clause-may g c = λ n d r is up there.
    let p = c.self.inside.plan in
    let t = c.self.inside.cycle in
    let v : Driver = g.D.Driving.driver c.args.drive.now in
    let st = g.D.Driving.state c.args.drive.now in
    let first : List Parts = c.self.inside.routers.items in
    let rows = c.self.inside.rows.items in
    let before = c.self.inside.pulses.items in
    let pulses = c.keep_all.new.kept.items in
    let slept = c.self.inside.awake.items in
    let near = c.wake_neighbours.new.awake.items in
    let awake = c.wake_hosts.new.awake.items in
    let woken : HasWoken p t v st first rows before pulses slept near awake = record {
      whole = c.self.invariant.0;
      asleep = c.self.invariant.2;
      pulse_count = c.keep_all.ensures.kept;
      pulse_ports = c.keep_all.ensures.ports;
      kept_same = λ n d port r is up. c.keep_all.ensures.same n d port r (ap (λ xs. slice_get xs n) c.deref-2.ensures.value ∙ is) (ap (λ xs. is_awake xs n) c.deref.ensures.value ∙ up);
      kept_asleep = λ n down. c.keep_all.ensures.asleep n (ap (λ xs. is_awake xs n) c.deref.ensures.value ∙ down);
      near_asleep = c.wake_neighbours.ensures.asleep;
      nothing = λ m n port inside low up linked down.
          subst (λ xs. SendsNothing p xs pulses m port) c.deref-3.ensures.value
          (subst (λ xs. SendsNothing p c.deref-3.result.now xs m port) c.deref-4.ensures.value (c.wake_neighbours.ensures.nothing m n port inside low up linked down));
      still_asleep = c.wake_hosts.ensures.asleep;
      offers = c.wake_hosts.ensures.nothing;
    } in
    let told : List Parts = c.see_all.new.routers.items in
    let are : AreAllTold p t v st awake first told = record {
      count = c.see_all.ensures.routers;
      same = c.see_all.ensures.same;
      long = c.see_all.ensures.told_len;
      by_driver = λ j h new at is up. c.see_all.ensures.told j h new at is (ap (λ xs. is_awake xs h.tile) c.deref-5.ensures.value ∙ up);
      away = c.see_all.ensures.away;
    } in
    let cycled : HasCycled p t v st awake first told pulses rows = has-cycled p t v st first rows before pulses slept near awake c.known.ensures woken told are in
    let really = ap (λ xs. is_awake xs n) (sym c.deref-6.ensures.value) ∙ up in
    subst (λ xs. MayStep p d n t xs c.deref-8.result.now r) (sym c.deref-7.ensures.value)
    (subst (λ xs. MayStep p d n t rows xs r) (sym c.deref-8.ensures.value) (may-step p t v st awake first told told pulses [] rows rows c.known.ensures cycled n d r is really there))

pub shift_all-requires-clause-links : goal.shift_all-requires-clause-links
shift_all-requires-clause-links g c = λ n out is. c.step_tiles.ensures.links n out (ap (λ xs. slice_get xs n) (sym c.deref-10.ensures.value) ∙ is)

pub sleep_all-requires-clause-made : goal.sleep_all-requires-clause-made
sleep_all-requires-clause-made g c = λ n r is.
    let p = c.self.inside.plan in
    let t = c.self.inside.cycle in
    let v : Driver = g.D.Driving.driver c.args.drive.now in
    let st = g.D.Driving.state c.args.drive.now in
    let first : List Parts = c.self.inside.routers.items in
    let rows = c.self.inside.rows.items in
    let before = c.self.inside.pulses.items in
    let pulses = c.keep_all.new.kept.items in
    let slept = c.self.inside.awake.items in
    let near = c.wake_neighbours.new.awake.items in
    let awake = c.wake_hosts.new.awake.items in
    let woken : HasWoken p t v st first rows before pulses slept near awake = record {
      whole = c.self.invariant.0;
      asleep = c.self.invariant.2;
      pulse_count = c.keep_all.ensures.kept;
      pulse_ports = c.keep_all.ensures.ports;
      kept_same = λ n d port r is up. c.keep_all.ensures.same n d port r (ap (λ xs. slice_get xs n) c.deref-2.ensures.value ∙ is) (ap (λ xs. is_awake xs n) c.deref.ensures.value ∙ up);
      kept_asleep = λ n down. c.keep_all.ensures.asleep n (ap (λ xs. is_awake xs n) c.deref.ensures.value ∙ down);
      near_asleep = c.wake_neighbours.ensures.asleep;
      nothing = λ m n port inside low up linked down.
          subst (λ xs. SendsNothing p xs pulses m port) c.deref-3.ensures.value
          (subst (λ xs. SendsNothing p c.deref-3.result.now xs m port) c.deref-4.ensures.value (c.wake_neighbours.ensures.nothing m n port inside low up linked down));
      still_asleep = c.wake_hosts.ensures.asleep;
      offers = c.wake_hosts.ensures.nothing;
    } in
    let told : List Parts = c.see_all.new.routers.items in
    let are : AreAllTold p t v st awake first told = record {
      count = c.see_all.ensures.routers;
      same = c.see_all.ensures.same;
      long = c.see_all.ensures.told_len;
      by_driver = λ j h new at is up. c.see_all.ensures.told j h new at is (ap (λ xs. is_awake xs h.tile) c.deref-5.ensures.value ∙ up);
      away = c.see_all.ensures.away;
    } in
    let cycled : HasCycled p t v st awake first told pulses rows = has-cycled p t v st first rows before pulses slept near awake c.known.ensures woken told are in
    let after : List Parts = c.step_tiles.new.routers.items in
    let outs : List RouterOut = c.step_tiles.new.outs.items in
    let next = c.shift_all.new.rows.items in
    let moved : HasMoved p t awake told after pulses outs rows next = record {
      after_count = c.step_tiles.ensures.routers;
      out_count = c.step_tiles.ensures.outs;
      stepped = λ n r new out is after sent up.
          subst (λ xs. HasStepped p n t rows xs r new out.links.items) c.deref-8.ensures.value
          (subst (λ xs. HasStepped p n t xs c.deref-8.result.now r new out.links.items) c.deref-7.ensures.value
          (c.step_tiles.ensures.stepped n r new out is after sent (ap (λ xs. is_awake xs n) c.deref-6.ensures.value ∙ up)));
      slept = λ n r new is after down. c.step_tiles.ensures.slept n r new is after (ap (λ xs. is_awake xs n) c.deref-6.ensures.value ∙ down);
      next_count = c.shift_all.ensures.rows;
      next_is = λ n o out is up inside.
          c.shift_all.ensures.shifted n o out (ap (λ xs. slice_get xs n) c.deref-10.ensures.value ∙ is) (ap (λ xs. is_awake xs n) c.deref-9.ensures.value ∙ up) inside;
      next_asleep = λ n o down inside. c.shift_all.ensures.asleep n o (ap (λ xs. is_awake xs n) c.deref-9.ensures.value ∙ down) inside;
    } in
    ((whole-next p t v st awake first told after pulses outs rows next c.known.ensures cycled moved (subst (λ (k : Kept). k.cycle < most_cycles) (sym c.self.view_is) c.requires.cycle)).router n r
    (ap (λ xs. slice_get xs n) (sym c.deref-11.ensures.value) ∙ is)).made

pub sleep_all-requires-clause-asleep : goal.sleep_all-requires-clause-asleep
sleep_all-requires-clause-asleep g c =
    let p = c.self.inside.plan in
    let t = c.self.inside.cycle in
    let v : Driver = g.D.Driving.driver c.args.drive.now in
    let st = g.D.Driving.state c.args.drive.now in
    let first : List Parts = c.self.inside.routers.items in
    let rows = c.self.inside.rows.items in
    let before = c.self.inside.pulses.items in
    let pulses = c.keep_all.new.kept.items in
    let slept = c.self.inside.awake.items in
    let near = c.wake_neighbours.new.awake.items in
    let awake = c.wake_hosts.new.awake.items in
    let woken : HasWoken p t v st first rows before pulses slept near awake = record {
      whole = c.self.invariant.0;
      asleep = c.self.invariant.2;
      pulse_count = c.keep_all.ensures.kept;
      pulse_ports = c.keep_all.ensures.ports;
      kept_same = λ n d port r is up. c.keep_all.ensures.same n d port r (ap (λ xs. slice_get xs n) c.deref-2.ensures.value ∙ is) (ap (λ xs. is_awake xs n) c.deref.ensures.value ∙ up);
      kept_asleep = λ n down. c.keep_all.ensures.asleep n (ap (λ xs. is_awake xs n) c.deref.ensures.value ∙ down);
      near_asleep = c.wake_neighbours.ensures.asleep;
      nothing = λ m n port inside low up linked down.
          subst (λ xs. SendsNothing p xs pulses m port) c.deref-3.ensures.value
          (subst (λ xs. SendsNothing p c.deref-3.result.now xs m port) c.deref-4.ensures.value (c.wake_neighbours.ensures.nothing m n port inside low up linked down));
      still_asleep = c.wake_hosts.ensures.asleep;
      offers = c.wake_hosts.ensures.nothing;
    } in
    let told : List Parts = c.see_all.new.routers.items in
    let are : AreAllTold p t v st awake first told = record {
      count = c.see_all.ensures.routers;
      same = c.see_all.ensures.same;
      long = c.see_all.ensures.told_len;
      by_driver = λ j h new at is up. c.see_all.ensures.told j h new at is (ap (λ xs. is_awake xs h.tile) c.deref-5.ensures.value ∙ up);
      away = c.see_all.ensures.away;
    } in
    let cycled : HasCycled p t v st awake first told pulses rows = has-cycled p t v st first rows before pulses slept near awake c.known.ensures woken told are in
    let after : List Parts = c.step_tiles.new.routers.items in
    let outs : List RouterOut = c.step_tiles.new.outs.items in
    let next = c.shift_all.new.rows.items in
    let moved : HasMoved p t awake told after pulses outs rows next = record {
      after_count = c.step_tiles.ensures.routers;
      out_count = c.step_tiles.ensures.outs;
      stepped = λ n r new out is after sent up.
          subst (λ xs. HasStepped p n t rows xs r new out.links.items) c.deref-8.ensures.value
          (subst (λ xs. HasStepped p n t xs c.deref-8.result.now r new out.links.items) c.deref-7.ensures.value
          (c.step_tiles.ensures.stepped n r new out is after sent (ap (λ xs. is_awake xs n) c.deref-6.ensures.value ∙ up)));
      slept = λ n r new is after down. c.step_tiles.ensures.slept n r new is after (ap (λ xs. is_awake xs n) c.deref-6.ensures.value ∙ down);
      next_count = c.shift_all.ensures.rows;
      next_is = λ n o out is up inside.
          c.shift_all.ensures.shifted n o out (ap (λ xs. slice_get xs n) c.deref-10.ensures.value ∙ is) (ap (λ xs. is_awake xs n) c.deref-9.ensures.value ∙ up) inside;
      next_asleep = λ n o down inside. c.shift_all.ensures.asleep n o (ap (λ xs. is_awake xs n) c.deref-9.ensures.value ∙ down) inside;
    } in
    subst (λ xs. AreAsleep p xs c.deref-12.result.now c.deref-13.result.now awake) (sym c.deref-11.ensures.value)
    (subst (λ xs. AreAsleep p after xs c.deref-13.result.now awake) (sym c.deref-12.ensures.value)
    (subst (λ xs. AreAsleep p after next xs awake) (sym c.deref-13.ensures.value)
    (asleep-next p t v st awake first told after pulses outs rows next c.known.ensures cycled moved c.wake_hosts.ensures.count)))

pub invariant_of-self : goal.invariant_of-self
invariant_of-self g c =
    let p = c.self.inside.plan in
    let t = c.self.inside.cycle in
    let v : Driver = g.D.Driving.driver c.args.drive.now in
    let st = g.D.Driving.state c.args.drive.now in
    let first : List Parts = c.self.inside.routers.items in
    let rows = c.self.inside.rows.items in
    let before = c.self.inside.pulses.items in
    let pulses = c.keep_all.new.kept.items in
    let slept = c.self.inside.awake.items in
    let near = c.wake_neighbours.new.awake.items in
    let awake = c.wake_hosts.new.awake.items in
    let woken : HasWoken p t v st first rows before pulses slept near awake = record {
      whole = c.self.invariant.0;
      asleep = c.self.invariant.2;
      pulse_count = c.keep_all.ensures.kept;
      pulse_ports = c.keep_all.ensures.ports;
      kept_same = λ n d port r is up. c.keep_all.ensures.same n d port r (ap (λ xs. slice_get xs n) c.deref-2.ensures.value ∙ is) (ap (λ xs. is_awake xs n) c.deref.ensures.value ∙ up);
      kept_asleep = λ n down. c.keep_all.ensures.asleep n (ap (λ xs. is_awake xs n) c.deref.ensures.value ∙ down);
      near_asleep = c.wake_neighbours.ensures.asleep;
      nothing = λ m n port inside low up linked down.
          subst (λ xs. SendsNothing p xs pulses m port) c.deref-3.ensures.value
          (subst (λ xs. SendsNothing p c.deref-3.result.now xs m port) c.deref-4.ensures.value (c.wake_neighbours.ensures.nothing m n port inside low up linked down));
      still_asleep = c.wake_hosts.ensures.asleep;
      offers = c.wake_hosts.ensures.nothing;
    } in
    let told : List Parts = c.see_all.new.routers.items in
    let are : AreAllTold p t v st awake first told = record {
      count = c.see_all.ensures.routers;
      same = c.see_all.ensures.same;
      long = c.see_all.ensures.told_len;
      by_driver = λ j h new at is up. c.see_all.ensures.told j h new at is (ap (λ xs. is_awake xs h.tile) c.deref-5.ensures.value ∙ up);
      away = c.see_all.ensures.away;
    } in
    let cycled : HasCycled p t v st awake first told pulses rows = has-cycled p t v st first rows before pulses slept near awake c.known.ensures woken told are in
    let after : List Parts = c.step_tiles.new.routers.items in
    let outs : List RouterOut = c.step_tiles.new.outs.items in
    let next = c.shift_all.new.rows.items in
    let moved : HasMoved p t awake told after pulses outs rows next = record {
      after_count = c.step_tiles.ensures.routers;
      out_count = c.step_tiles.ensures.outs;
      stepped = λ n r new out is after sent up.
          subst (λ xs. HasStepped p n t rows xs r new out.links.items) c.deref-8.ensures.value
          (subst (λ xs. HasStepped p n t xs c.deref-8.result.now r new out.links.items) c.deref-7.ensures.value
          (c.step_tiles.ensures.stepped n r new out is after sent (ap (λ xs. is_awake xs n) c.deref-6.ensures.value ∙ up)));
      slept = λ n r new is after down. c.step_tiles.ensures.slept n r new is after (ap (λ xs. is_awake xs n) c.deref-6.ensures.value ∙ down);
      next_count = c.shift_all.ensures.rows;
      next_is = λ n o out is up inside.
          c.shift_all.ensures.shifted n o out (ap (λ xs. slice_get xs n) c.deref-10.ensures.value ∙ is) (ap (λ xs. is_awake xs n) c.deref-9.ensures.value ∙ up) inside;
      next_asleep = λ n o down inside. c.shift_all.ensures.asleep n o (ap (λ xs. is_awake xs n) c.deref-9.ensures.value ∙ down) inside;
    } in (
      whole-next p t v st awake first told after pulses outs rows next c.known.ensures cycled moved (subst (λ (k : Kept). k.cycle < most_cycles) (sym c.self.view_is) c.requires.cycle),
      record {
        pulses = c.keep_all.ensures.kept;
        pulse_ports = c.keep_all.ensures.ports;
        outs = c.step_tiles.ensures.outs;
        links = c.step_tiles.ensures.links;
      },
      subst (λ xs. AreAsleep p xs next pulses c.sleep_all.new.awake.items) c.deref-11.ensures.value
          (subst (λ xs. AreAsleep p c.deref-11.result.now xs pulses c.sleep_all.new.awake.items) c.deref-12.ensures.value
          (subst (λ xs. AreAsleep p c.deref-11.result.now c.deref-12.result.now xs c.sleep_all.new.awake.items) c.deref-13.ensures.value c.sleep_all.ensures)),
      c.self.invariant.3,
    )

pub returns-clause-steps : goal.returns-clause-steps
returns-clause-steps g c =
    let p = c.self.inside.plan in
    let t = c.self.inside.cycle in
    let v : Driver = g.D.Driving.driver c.args.drive.now in
    let st = g.D.Driving.state c.args.drive.now in
    let first : List Parts = c.self.inside.routers.items in
    let rows = c.self.inside.rows.items in
    let before = c.self.inside.pulses.items in
    let pulses = c.keep_all.new.kept.items in
    let slept = c.self.inside.awake.items in
    let near = c.wake_neighbours.new.awake.items in
    let awake = c.wake_hosts.new.awake.items in
    let woken : HasWoken p t v st first rows before pulses slept near awake = record {
      whole = c.self.invariant.0;
      asleep = c.self.invariant.2;
      pulse_count = c.keep_all.ensures.kept;
      pulse_ports = c.keep_all.ensures.ports;
      kept_same = λ n d port r is up. c.keep_all.ensures.same n d port r (ap (λ xs. slice_get xs n) c.deref-2.ensures.value ∙ is) (ap (λ xs. is_awake xs n) c.deref.ensures.value ∙ up);
      kept_asleep = λ n down. c.keep_all.ensures.asleep n (ap (λ xs. is_awake xs n) c.deref.ensures.value ∙ down);
      near_asleep = c.wake_neighbours.ensures.asleep;
      nothing = λ m n port inside low up linked down.
          subst (λ xs. SendsNothing p xs pulses m port) c.deref-3.ensures.value
          (subst (λ xs. SendsNothing p c.deref-3.result.now xs m port) c.deref-4.ensures.value (c.wake_neighbours.ensures.nothing m n port inside low up linked down));
      still_asleep = c.wake_hosts.ensures.asleep;
      offers = c.wake_hosts.ensures.nothing;
    } in
    let told : List Parts = c.see_all.new.routers.items in
    let are : AreAllTold p t v st awake first told = record {
      count = c.see_all.ensures.routers;
      same = c.see_all.ensures.same;
      long = c.see_all.ensures.told_len;
      by_driver = λ j h new at is up. c.see_all.ensures.told j h new at is (ap (λ xs. is_awake xs h.tile) c.deref-5.ensures.value ∙ up);
      away = c.see_all.ensures.away;
    } in
    let cycled : HasCycled p t v st awake first told pulses rows = has-cycled p t v st first rows before pulses slept near awake c.known.ensures woken told are in
    let after : List Parts = c.step_tiles.new.routers.items in
    let outs : List RouterOut = c.step_tiles.new.outs.items in
    let next = c.shift_all.new.rows.items in
    let moved : HasMoved p t awake told after pulses outs rows next = record {
      after_count = c.step_tiles.ensures.routers;
      out_count = c.step_tiles.ensures.outs;
      stepped = λ n r new out is after sent up.
          subst (λ xs. HasStepped p n t rows xs r new out.links.items) c.deref-8.ensures.value
          (subst (λ xs. HasStepped p n t xs c.deref-8.result.now r new out.links.items) c.deref-7.ensures.value
          (c.step_tiles.ensures.stepped n r new out is after sent (ap (λ xs. is_awake xs n) c.deref-6.ensures.value ∙ up)));
      slept = λ n r new is after down. c.step_tiles.ensures.slept n r new is after (ap (λ xs. is_awake xs n) c.deref-6.ensures.value ∙ down);
      next_count = c.shift_all.ensures.rows;
      next_is = λ n o out is up inside.
          c.shift_all.ensures.shifted n o out (ap (λ xs. slice_get xs n) c.deref-10.ensures.value ∙ is) (ap (λ xs. is_awake xs n) c.deref-9.ensures.value ∙ up) inside;
      next_asleep = λ n o down inside. c.shift_all.ensures.asleep n o (ap (λ xs. is_awake xs n) c.deref-9.ensures.value ∙ down) inside;
    } in
    subst (λ (k : Kept). (d : ℕ) (s : State) → d < length k.plan.domains → Shows k d s
    → Shows (kept p (t + 1) after next) d (step k.plan d (pos k.cycle) s (driven k.plan d v st k.cycle)))
    c.self.view_is
    (λ d s there shown. shows-next p t v st awake first told after pulses outs rows next c.known.ensures cycled d s there shown moved)

pub returns-clause-states : goal.returns-clause-states
returns-clause-states g c =
    let v : Driver = g.D.Driving.driver c.args.drive.now in
    let st = g.D.Driving.state c.args.drive.now in
    let p = c.self.inside.plan in
    let t = c.self.inside.cycle in
    subst (λ (k : Kept). (j : ℕ) (h : Host) (s : State) → slice_get k.plan.hosts j ≡ Some h → Shows k h.domain s
    → g.D.Driving.state c.see_all.new.drive j ≡ next_state k.plan h.domain v k.cycle s j (st j) (Some h))
    c.self.view_is
    (λ j h s at shown.
    let r = host-router p j h c.self.inside.routers.items c.known.ensures at c.self.invariant.0.routers in
    c.see_all.ensures.states j h r.0 (s h.tile) at r.1 (shown.each h.tile r.0 r.1) ∙ state-is p v t j h s (st j))

pub returns-clause-seen : goal.returns-clause-seen
returns-clause-seen g c =
    let v : Driver = g.D.Driving.driver c.args.drive.now in
    let st = g.D.Driving.state c.args.drive.now in
    let p = c.self.inside.plan in
    subst (λ (k : Kept). (j : ℕ) (h : Host) (s : State) → slice_get k.plan.hosts j ≡ Some h → Shows k h.domain s
    → seen_at c.see_all.new.seen j ≡ seen_of k.plan v k.cycle j (s h.tile) (st j))
    c.self.view_is
    (λ j h s at shown.
    let r = host-router p j h c.self.inside.routers.items c.known.ensures at c.self.invariant.0.routers in
    c.see_all.ensures.seen j h r.0 (s h.tile) at r.1 (shown.each h.tile r.0 r.1))
