-- A router that is in a sound state has room after a cycle for what comes in.
use Rattle.std.proofs.Common.{◌≡◌, ◌≢◌, ℕ, zero, suc, ◌<◌, ◌≤◌, true, Option, List, length, drop, refl, ap, ◌∙◌, arith, length-drop, append-nil}
use Rattle.std.specs.Prelude.{Some, None, is_some, pos, ◌==◌}
use Rattle.std.proofs.lemmas.Bool.Decides.{nat_tests}
use Rattle.noc_model.specs.declared.LinkFlit.{LinkFlit}
use Rattle.noc_model.specs.Plan.{Plan, tiles, ports, link_channels}
use Rattle.noc_model.specs.Sound.{IsSound}
use Rattle.noc_model.specs.Inputs.{place}
use Rattle.noc_model.specs.Place.{neighbour, opposite}
use Rattle.noc_model.specs.Tile.{Tile}
use Rattle.noc_model.specs.Step.{leaves, one_if, tile_step}
use Rattle.noc_model.specs.TileRun.{MayArrive}
use Rattle.noc_model.proofs.Ports.{linked-port}
use Rattle.noc_model.proofs.Switched.{link-below}
use Rattle.credit_links.specs.Counts.{count_at}
use Rattle.router_core.specs.declared.attachments.Told.{Told}
use Rattle.router_core.specs.Attachments.{told_at, outside}
use Rattle.router_core.specs.Buffers.{flits_at}
use Rattle.router_core.specs.Pulses.{is_pulse, pulse_at}
use Rattle.router_core.specs.Parts.{Parts}
use Rattle.router_core.specs.Shown.{Shows}
use Rattle.cycle_sim.specs.Links.{arrival_at, credit_at, credit_from, pulses_of}
use Rattle.cycle_sim.specs.TileCycle.{AreAllPulses, MayStep}

-- ---- room

-- a list of a link's channel is no longer after a cycle in which nothing arrives
pub queue-shorter : (p : Plan) (d n t : ℕ) (s : Tile) (x : Told) (port c : ℕ) → port ≢ 0
    → length ((tile_step p d n (pos t) s (outside x)).queue port c) ≤ length (s.queue port c)
unfolding tile_step
queue-shorter p d n t s x zero c link = absurd (link refl)
queue-shorter p d n t s x (suc port) c link =
    let k = one_if (leaves p d n (pos t) s (outside x) (suc port) c) in
    rw (append-nil (drop k (s.queue (suc port) c)), length-drop) (omega arith)

-- and no count of credits is higher
pub credits-lower : (p : Plan) (d n t : ℕ) (s : Tile) (x : Told) (o w : ℕ) → (tile_step p d n (pos t) s (outside x)).credits o w ≤ s.credits o w
unfolding tile_step
credits-lower p d n t s x o w = omega arith

same-number : (w : ℕ) → (w == w) ≡ true
same-number w = let e : w ≡ w = refl in grind (arith, nat_tests)

linked-at : (p : Plan) (d n : ℕ) (pulses : List (List (List (Option ℕ)))) (port w : ℕ) → credit_at p d n pulses port ≡ Some w
    → (m : ℕ) × (neighbour p n port ≡ Some m) × (pulse_at (pulses_of pulses m) d (opposite port) ≡ Some w)
linked-at p d n pulses port w e = go (neighbour p n port) refl e
  where
    go : (o : Option ℕ) → neighbour p n port ≡ o → credit_from d pulses port o ≡ Some w
        → (m : ℕ) × (neighbour p n port ≡ Some m) × (pulse_at (pulses_of pulses m) d (opposite port) ≡ Some w)
    go None is e = absurd (cc e)
    go (Some m) is e = (m, is, e)

module _ (p : Plan) (d n t : ℕ) (rows : List (List (Option LinkFlit))) (pulses : List (List (List (Option ℕ)))) (r : Parts) (sound : IsSound p)
    (there : d < length p.domains) (may : MayStep p d n t rows pulses r) where
  -- a flit that arrives has room
  pub arrival-fits : (new : Parts) (port : ℕ) (x : LinkFlit) → Shows new p d (tile_step p d n (pos t) may.tile (outside (told_at r.told d)))
      → arrival_at p d n t rows port ≡ Some x
      → (x.channel < link_channels p d) × (length (flits_at new.buffers d (place p d port x.channel)) < p.buffer)
  arrival-fits new port x shown here =
      let come : MayArrive p d n (pos t) may.tile port x = may.may.arrives port x (may.comes.arrives port ∙ here) in
      let inside : port < ports p = link-below p n port (ap is_some come.linked) in
      let short = queue-shorter p d n t may.tile (told_at r.told d) port x.channel (linked-port p n port come.from come.linked) in
      let same = ap length (shown.queue port x.channel inside come.channel) in
      let room = come.room in
      (come.channel, omega (arith, short, same, room))

  -- a credit that comes back was missing
  pub credit-fits : (new : Parts) (port w : ℕ) → n < tiles p → AreAllPulses p pulses → Shows new p d (tile_step p d n (pos t) may.tile (outside (told_at r.told d)))
      → credit_at p d n pulses port ≡ Some w → ((m : ℕ) → neighbour p n port ≡ Some m → m < tiles p)
      → (w < link_channels p d) × (count_at new.credits d (place p d port w) < p.buffer)
  credit-fits new port w tile_in are shown here ends =
      let from = linked-at p d n pulses port w here in
      let m : ℕ = from.0 in
      let few : w < link_channels p d = are.few m d (opposite port) w (ends m from.1) there from.2 in
      let inside : port < ports p = link-below p n port (ap is_some from.1) in
      let back : may.input.returns port w ≡ true = may.comes.returns port w few ∙ ap (λ o. is_pulse o w) here ∙ same-number w in
      let room = may.may.returns port m w from.1 few back in
      let low = credits-lower p d n t may.tile (told_at r.told d) port w in
      let same = shown.credits port w (linked-port p n port m from.1) inside few in
      (few, omega (arith, room, low, same))
