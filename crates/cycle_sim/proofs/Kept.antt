-- What stays of a router where one part of it changes.
use Rattle.std.proofs.Common.{◌≡◌, ℕ, ◌+◌, length, sym, ap, ◌∙◌, subst}
use Rattle.std.specs.Prelude.{None}
use Rattle.std.proofs.lemmas.List.FromFn.{length-map-range_with_len}
use Rattle.noc_model.specs.Plan.{Plan, ports}
use Rattle.noc_model.specs.Tile.{Tile}
use Rattle.wave_sched.specs.declared.wheels.Wheel.{Wheel}
use Rattle.wave_sched.specs.Starts.{port_slots}
use Rattle.wave_sched.specs.Wheels.{Stands, wheel_ports}
use Rattle.router_core.specs.Attachments.{told_at}
use Rattle.router_core.specs.Advance.{cycled}
use Rattle.router_core.specs.Parts.{Parts}
use Rattle.router_core.specs.Pulses.{pulse_at, ArePulses}
use Rattle.vc_alloc.specs.Allocator.{best_at}
use Rattle.router_core.specs.Sizes.{IsMade}
use Rattle.router_core.specs.Shown.{Shows}
use Rattle.cycle_sim.specs.Net.{IsQuiet, IsRouterOf}

-- the router with another wheel
abbrev pub with_wheel : Parts → Wheel → Parts
with_wheel r w = record r { wheel = w }

-- the owners of the links are no part of a domain's tile
pub shows-wheel : (r : Parts) (w : Wheel) (p : Plan) (d : ℕ) (s : Tile) → Shows r p d s → Shows (with_wheel r w) p d s
shows-wheel r w p d s shown = record {
  queue = shown.queue;
  stage = shown.stage;
  pulse = shown.pulse;
  held = shown.held;
  credits = shown.credits;
  allocation = shown.allocation;
  switch = shown.switch;
  turn = shown.turn;
  packet = shown.packet;
  current = shown.current;
  dropped = shown.dropped;
  ejected = shown.ejected;
}

-- a wheel of the plan has its ports
pub stands-ports : (p : Plan) (n t : ℕ) (w : Wheel) → Stands w p n t → wheel_ports w ≡ ports p
stands-ports p n t w stands = ap length stands.links ∙ length-map-range_with_len (port_slots p n) 0 (ports p)

pub made-wheel : (r : Parts) (w : Wheel) (p : Plan) (n t : ℕ) → Stands w p n t → IsMade r p → IsMade (with_wheel r w) p
made-wheel r w p n t stands made = record {
  tile = made.tile;
  buffers = made.buffers;
  stages = made.stages;
  pulses = made.pulses;
  allocator = made.allocator;
  switch = made.switch;
  credits = made.credits;
  attachments = made.attachments;
  told = made.told;
  wheel = stands-ports p n t w stands;
}

-- what a router's cycle alone keeps
pub record Advanced (p : Plan) (r a : Parts) : Type 0 where
  pub tile : a.tile ≡ r.tile
  pub told : a.told ≡ r.told
  pub wheel : a.wheel ≡ r.wheel
  pub quiet : IsQuiet p a

pub advanced-cycled : (p : Plan) (r a : Parts) → a ≡ cycled r a → ((o : ℕ) → best_at a.allocator o ≡ None) → ArePulses p a.pulses → Advanced p r a
advanced-cycled p r a rest best pulses = record {
  tile = ap (λ (q : Parts). q.tile) rest;
  told = ap (λ (q : Parts). q.told) rest;
  wheel = ap (λ (q : Parts). q.wheel) rest;
  quiet = record { best = best; pulses = pulses };
}

-- the router of the tile in the next cycle, where it advanced, got flits, got credits, and then ticked
pub router-next : (p : Plan) (n t : ℕ) (r a b x y : Parts) → IsRouterOf p n t r → Advanced p r a → b ≡ (record a { buffers = b.buffers })
    → x ≡ (record b { credits = x.credits }) → IsMade x p → y ≡ with_wheel x y.wheel
    → ((q : Plan) (m k : ℕ) → Stands x.wheel q m k → Stands y.wheel q m (k + 1)) → IsRouterOf p n (t + 1) y
router-next p n t r a b x y right advanced got paid made ticked stands =
    let wheel : x.wheel ≡ r.wheel = ap (λ (q : Parts). q.wheel) paid ∙ ap (λ (q : Parts). q.wheel) got ∙ advanced.wheel in
    let next : Stands y.wheel p n (t + 1) = stands p n t (subst (λ w. Stands w p n t) (sym wheel) right.wheel) in
    let told : y.told ≡ r.told = ap (λ (q : Parts). q.told) ticked ∙ ap (λ (q : Parts). q.told) paid ∙ ap (λ (q : Parts). q.told) got ∙ advanced.told in
    let allocator = ap (λ (q : Parts). q.allocator) ticked ∙ ap (λ (q : Parts). q.allocator) paid ∙ ap (λ (q : Parts). q.allocator) got in
    let pulses = ap (λ (q : Parts). q.pulses) ticked ∙ ap (λ (q : Parts). q.pulses) paid ∙ ap (λ (q : Parts). q.pulses) got in
    record {
      tile = ap (λ (q : Parts). q.tile) ticked ∙ ap (λ (q : Parts). q.tile) paid ∙ ap (λ (q : Parts). q.tile) got ∙ advanced.tile ∙ right.tile;
      made = subst (λ (q : Parts). IsMade q p) (sym ticked) (made-wheel x y.wheel p n (t + 1) next made);
      quiet = record {
        best = λ o. ap (λ z. best_at z o) allocator ∙ advanced.quiet.best o;
        pulses = λ d port c there e. advanced.quiet.pulses d port c there (sym (ap (λ z. pulse_at z d port) pulses) ∙ e);
      };
      wheel = next;
      away = λ d e. ap (λ z. told_at z d) told ∙ right.away d e;
    }
