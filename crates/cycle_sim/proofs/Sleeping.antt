-- A tile that sleeps: what is seen at it, and what becomes of it in a cycle.
use Rattle.std.proofs.Common.{◌≡◌, ℕ, ◌+◌, ◌<◌, Bool, true, false, Option, List, length, refl, sym, ap, ◌∙◌, subst, arith, ◌&&◌}
use Rattle.std.specs.Prelude.{Some, None, is_some, nat_lt, if◌then◌else◌}
use Rattle.std.proofs.lemmas.Bool.Decides.{nat_tests}
use Rattle.noc_model.specs.declared.Ejected.{Ejected}
use Rattle.noc_model.specs.declared.Packet.{Packet}
use Rattle.noc_model.specs.declared.Packet.TheVariants.{Between, Passing, Dropping}
use Rattle.noc_model.specs.Plan.{Plan, ports, channels, link_channels}
use Rattle.noc_model.specs.Sound.{IsSound}
use Rattle.noc_model.specs.Tile.{Tile}
use Rattle.noc_model.specs.Step.{is_open, is_ready_packet}
use Rattle.noc_model.specs.Driver.{Driver, after_taken, after_got}
use Rattle.noc_model.specs.Events.{ejected_of}
use Rattle.noc_model.proofs.Inputs.{input-within}
use Rattle.tile_drive.specs.declared.cycle_seen.SeenAt.{SeenAt}
use Rattle.wave_sched.specs.declared.wheels.Wheel.{Wheel}
use Rattle.wave_sched.specs.Wheels.{Stands}
use Rattle.router_core.specs.Idle.{IsIdleFor, IsIdle}
use Rattle.router_core.specs.Parts.{Parts}
use Rattle.router_core.specs.Shown.{Shows}
use Rattle.router_core.specs.Sizes.{IsMade}
use Rattle.router_core.proofs.Idle.{rest-empty}
use Rattle.cycle_sim.specs.Asleep.{HasSlept}
use Rattle.cycle_sim.specs.Attached.{seen_of, state_after}
use Rattle.cycle_sim.specs.Net.{IsRouterOf, IsQuiet}
use Rattle.cycle_sim.proofs.Kept.{with_wheel, made-wheel}

-- what is seen where nothing happens
abbrev pub nothing_happens : SeenAt
nothing_happens = record { offered = None; ready = true; dropped = false; got = None }

ready-empty : (k : Packet) (count buffer : ℕ) → count ≡ 0 → 0 < buffer → is_ready_packet k count buffer ≡ true
ready-empty Between count buffer e some = grind (arith, nat_tests, e, some)
ready-empty (Passing dest) count buffer e some = grind (arith, nat_tests, e, some)
ready-empty Dropping count buffer e some = refl

none-heard : (b : Bool) (e : Option Ejected) → e ≡ None → (if b then e else None) ≡ None
none-heard true e is = is
none-heard false e is = refl

none-got : (v : Driver) (j : ℕ) (state : List ℕ) (t : ℕ) (b : Bool) → after_got v j state t b None ≡ state
none-got v j state t true = refl
none-got v j state t false = refl

and-none : (b : Bool) → (b && false) ≡ false
and-none true = refl
and-none false = refl

module _ (p : Plan) (d : ℕ) (r : Parts) (s : Tile) (sound : IsSound p) (made : IsMade r p) (there : d < length p.domains) (idle : IsIdleFor p r d)
    (shown : Shows r p d s) where
  -- its attachment takes a word that is offered
  pub rest-open : is_open p s ≡ true
  unfolding is_open
  rest-open =
      let few : s.current < link_channels p d = input-within p d 0 s.current (subst (λ k. k < channels p d) shown.current (made.attachments.current d there)) in
      let some = sound.buffer.0 in
      ready-empty s.packet (length (s.queue 0 s.current)) p.buffer (ap length (rest-empty r p d s idle shown 0 s.current (omega arith) few)) (omega (arith, some))

  module _ (v : Driver) (t j : ℕ) (state : List ℕ) (offers : v.offer j state t ≡ None) where
    none : ejected_of s.ejected ≡ None
    none = ap ejected_of (sym shown.ejected ∙ idle.ejected)

    pub rest-seen : seen_of p v t j s state ≡ nothing_happens
    rest-seen = λ i.
        let x : SeenAt = record { offered = offers i; ready = rest-open i; dropped = (sym shown.dropped ∙ idle.dropped) i; got = none-heard (v.hears j state t) (ejected_of s.ejected) none i } in
        x

    pub rest-state : state_after p v t j s state ≡ state
    rest-state =
        ap (λ e. after_got v j (after_taken v j state t (is_open p s && is_some (v.offer j state t))) t (v.hears j state t) e) none
        ∙ none-got v j (after_taken v j state t (is_open p s && is_some (v.offer j state t))) t (v.hears j state t)
        ∙ ap (after_taken v j state t) (ap (λ o. is_open p s && is_some o) offers ∙ and-none (is_open p s))

-- ---- a router that slept

pub idle-wheel : (p : Plan) (r : Parts) (w : Wheel) → IsIdle p r → IsIdle p (with_wheel r w)
idle-wheel p r w idle d there =
    let own = idle d there in record { inputs = own.inputs; pulses = own.pulses; dropped = own.dropped; ejected = own.ejected }

pub slept-router : (p : Plan) (n t : ℕ) (r new : Parts) → IsRouterOf p n t r → new ≡ with_wheel r new.wheel
    → ((q : Plan) (m k : ℕ) → Stands r.wheel q m k → Stands new.wheel q m (k + 1)) → HasSlept p n t r new
slept-router p n t r new right rest stands =
    let next = stands p n t right.wheel in
    record {
      rest = rest;
      router = subst (IsRouterOf p n (t + 1)) (sym rest) (record {
        tile = right.tile;
        made = made-wheel r new.wheel p n (t + 1) next right.made;
        quiet = record { best = right.quiet.best; pulses = right.quiet.pulses };
        wheel = next;
        away = right.away;
      });
    }
