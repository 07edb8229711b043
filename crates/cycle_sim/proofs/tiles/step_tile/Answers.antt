use Rattle.std.proofs.Common.{◌≡◌, ◌<◌, sym, ap, ◌∙◌, subst}
use Rattle.std.specs.Prelude.{pos, is_some}
use Rattle.noc_model.specs.Plan.{ports, link_channels}
use Rattle.noc_model.specs.Place.{owner}
use Rattle.noc_model.specs.Inputs.{place}
use Rattle.credit_links.specs.Counts.{count_at}
use Rattle.noc_model.specs.SoundState.{IsSoundTile}
use Rattle.noc_model.specs.Holder.{IsHeldTile}
use Rattle.noc_model.proofs.Ports.{linked-port}
use Rattle.noc_model.proofs.Switched.{link-below}
use Rattle.noc_model.specs.Step.{tile_step, sent}
use Rattle.noc_model.proofs.Additive.{sent-alone}
use Rattle.wave_sched.specs.Wheels.{Stands}
use Rattle.router_core.specs.Attachments.{told_at, outside}
use Rattle.router_core.specs.Parts.{Parts}
use Rattle.router_core.specs.Shown.{Shows}
use Rattle.router_core.proofs.Lawful.{lawful-ready}
use Rattle.cycle_sim.specs.Links.{arrival_at, received}
use Rattle.cycle_sim.proofs.Glue.{outside-is, shows-step}
use Rattle.cycle_sim.proofs.Kept.{shows-wheel, advanced-cycled, router-next}
use Rattle.cycle_sim.proofs.Numbers.{link-ends}
use Rattle.cycle_sim.proofs.Ready.{arrival-fits, credit-fits}
use Rattle.cycle_sim.proofs.tiles.step_tile.Goals as goal

pub advance-requires-clause-ready : goal.advance-requires-clause-ready
advance-requires-clause-ready c = λ d there.
    let p = c.args.plan.now in
    let r = c.args.router.now in
    let t = c.args.cycle in
    let may = c.requires.may d there in
    let own = sym c.requires.router.tile in
    lawful-ready p d r c.known.ensures (record {
      cycle = t;
      stands = subst (λ n. Stands r.wheel p n t) own c.requires.router.wheel;
      tile = may.tile;
      shows = may.shows;
      sound = subst (λ n. IsSoundTile p d n (pos t) may.tile) own may.sound;
      holders = subst (λ n. IsHeldTile p d n may.tile) own may.held;
    })

pub advance-requires-clause-quiet : goal.advance-requires-clause-quiet
advance-requires-clause-quiet c = c.requires.router.quiet.best

pub receive-requires-clause-room : goal.receive-requires-clause-room
receive-requires-clause-room c = λ d port x there here.
    let p = c.args.plan.now in
    let r = c.args.router.now in
    let may = c.requires.may d there in
    let wheel = subst (λ n. Stands r.wheel p n c.args.cycle) (sym c.requires.router.tile) c.requires.router.wheel in
    let stepped = subst (λ n. Shows c.advance.new.self p d (tile_step p d n (pos c.args.cycle) may.tile (outside (told_at r.told d)))) c.requires.router.tile
    (c.advance.ensures.steps d may.tile c.args.cycle there may.shows wheel) in
    arrival-fits p d c.args.tile c.args.cycle c.args.rows.now c.args.pulses.now r c.known.ensures there may c.advance.new.self port x stepped here

pub give_back-requires-clause-room : goal.give_back-requires-clause-room
give_back-requires-clause-room c = λ d port w there inside here.
    let p = c.args.plan.now in
    let r = c.args.router.now in
    let may = c.requires.may d there in
    let wheel = subst (λ n. Stands r.wheel p n c.args.cycle) (sym c.requires.router.tile) c.requires.router.wheel in
    let stepped = subst (λ n. Shows c.advance.new.self p d (tile_step p d n (pos c.args.cycle) may.tile (outside (told_at r.told d)))) c.requires.router.tile
    (c.advance.ensures.steps d may.tile c.args.cycle there may.shows wheel) in
    let fits = credit-fits p d c.args.tile c.args.cycle c.args.rows.now c.args.pulses.now r c.known.ensures there may c.advance.new.self port w c.requires.tile c.requires.pulses stepped here
    (λ m linked. (link-ends p c.args.tile port m c.known.ensures c.requires.tile linked).0) in
    let same = ap (λ (q : Parts). q.credits) c.receive.ensures.rest in
    subst (λ x. (w < link_channels p d) × (count_at x d (place p d port w) < p.buffer)) (sym same) fits

pub returns : goal.returns
returns c =
    let p = c.args.plan.now in
    let n = c.args.tile in
    let t = c.args.cycle in
    let r = c.args.router.now in
    let rows = c.args.rows.now in
    let pulses = c.args.pulses.now in
    let wheel = subst (λ m. Stands r.wheel p m t) (sym c.requires.router.tile) c.requires.router.wheel in
    record {
      router = router-next p n t r c.advance.new.self c.receive.new.router c.give_back.new.router c.tick.new.self
          c.requires.router (advanced-cycled p r c.advance.new.self c.advance.ensures.rest c.advance.ensures.quiet (c.advance.ensures.pulses c.requires.router.quiet.pulses))
          c.receive.ensures.rest c.give_back.ensures.rest c.give_back.ensures.made c.tick.ensures.rest c.tick.ensures.stands;
      links = c.advance.ensures.links;
      steps = λ d s i there shown comes.
          (let before = tile_step p d n (pos t) s (outside (told_at r.told d)) in
          let stepped = subst (λ m. Shows c.advance.new.self p d (tile_step p d m (pos t) s (outside (told_at r.told d)))) c.requires.router.tile
          (c.advance.ensures.steps d s t there shown wheel) in
          let came = c.receive.ensures.shows d before there stepped in
          let back = c.give_back.ensures.shows d (received (arrival_at p d n t rows) (ports p) before) there came in
          subst (λ (q : Parts). Shows q p d (tile_step p d n (pos t) s i)) (sym c.tick.ensures.rest)
          (shows-wheel c.give_back.new.router c.tick.new.self.wheel p d (tile_step p d n (pos t) s i)
          (shows-step p d n t rows pulses (told_at r.told d) i comes s c.give_back.new.router back)));
      out_is = λ d o m s i there shown comes linked own.
          c.advance.ensures.sent d o s t there (linked-port p n o m linked) (link-below p n o (ap is_some linked))
          (subst (λ k. owner p k o (pos t) ≡ d) (sym c.requires.router.tile) own) shown wheel
          ∙ ap (λ k. sent p d k (pos t) s (outside (told_at r.told d)) o) c.requires.router.tile
          ∙ ap (λ x. sent p d n (pos t) s x o) (outside-is p d n t rows pulses (told_at r.told d) i comes s)
          ∙ sent-alone p d n (pos t) s i o;
    }
