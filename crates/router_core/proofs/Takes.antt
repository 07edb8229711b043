-- What a router shows at one place, and which outputs take a flit.
use Rattle.std.proofs.Common.{◌≡◌, ◌≢◌, ℕ, zero, suc, ◌<◌, ◌≤◌, Bool, true, false, List, [], ◌∷◌, length, refl, sym, ap, ◌∙◌, arith, inl, inr, Option, Some, None, ℤ}
use Rattle.std.specs.Prelude.{◌==◌, ◌&&◌, ◌||◌, nat_lt, is_none, is_some, not}
use Rattle.noc_model.specs.declared.Flit.{Flit}
use Rattle.noc_model.specs.declared.Stage.{Stage}
use Rattle.noc_model.specs.declared.Stage.TheVariants.{Idle, Routed, Active}
use Rattle.noc_model.specs.Plan.{Plan, link_channels, out_channels, at_local}
use Rattle.noc_model.specs.Place.{neighbour, owner}
use Rattle.noc_model.specs.Inputs.{input_count, input_port, input_channel}
use Rattle.noc_model.specs.Tile.{Tile, TileIn}
use Rattle.noc_model.specs.Step.{takes, is_ready_at}
use Rattle.noc_model.specs.SoundState.{IsOutput}
use Rattle.noc_model.proofs.Inputs.{place-input, port-below, channel-below}
use Rattle.route_stage.specs.Routed.{stage_at}
use Rattle.router_core.specs.Buffers.{flits_at}
use Rattle.router_core.specs.Parts.{Parts}
use Rattle.router_core.specs.Shown.{Shows}

pub stage-there : (r : Parts) (p : Plan) (d : ℕ) (s : Tile) (k : ℕ) → Shows r p d s → k < input_count p d → stage_at r.stages d k ≡ s.stage (input_port p d k) (input_channel p d k)
stage-there r p d s k shown k_in =
    ap (stage_at r.stages d) (sym (place-input p d k)) ∙ shown.stage (input_port p d k) (input_channel p d k) (port-below p d k k_in) (channel-below p d k k_in)

pub flits-there : (r : Parts) (p : Plan) (d : ℕ) (s : Tile) (k : ℕ) → Shows r p d s → k < input_count p d → flits_at r.buffers d k ≡ s.queue (input_port p d k) (input_channel p d k)
flits-there r p d s k shown k_in =
    ap (flits_at r.buffers d) (sym (place-input p d k)) ∙ shown.queue (input_port p d k) (input_channel p d k) (port-below p d k k_in) (channel-below p d k k_in)

pub takes-local : (p : Plan) (d n : ℕ) (t : ℤ) (s : Tile) (i : TileIn) (o w : ℕ) → o ≡ 0 → takes p d n t s i o w ≡ (is_none s.ejected || i.hears)
unfolding takes
takes-local p d n t s i o w e = ap (λ k. at_local k (is_none s.ejected || i.hears) ((owner p n k t == d) && nat_lt 0 (s.credits k w))) e

pub takes-link : (p : Plan) (d n : ℕ) (t : ℤ) (s : Tile) (i : TileIn) (o w : ℕ) → o ≢ 0 → takes p d n t s i o w ≡ ((owner p n o t == d) && nat_lt 0 (s.credits o w))
unfolding takes
takes-link p d n t s i zero w apart = absurd (apart refl)
takes-link p d n t s i (suc o) w apart = refl

some-is : (o : Option ℕ) → is_some o ≡ true → (m : ℕ) × (o ≡ Some m)
some-is None e = absurd (cc e)
some-is (Some m) e = (m, refl)

pub link-there : (p : Plan) (n o : ℕ) → IsOutput p n o → o ≢ 0 → (m : ℕ) × (neighbour p n o ≡ Some m)
link-there p n o (inl e) apart = absurd (apart e)
link-there p n o (inr e) apart = some-is (neighbour p n o) e

pub first-there : (fs : List Flit) → 0 < length fs → (f : Flit) × (rest : List Flit) × (fs ≡ f ∷ rest)
first-there [] some = absurd (omega arith)
first-there (f ∷ rest) some = (f, rest, refl)

pub ready-empty : (p : Plan) (d n : ℕ) (t : ℤ) (s : Tile) (i : TileIn) (fs : List Flit) (st : Stage) → length fs ≤ 0 → is_ready_at p d n t s i fs st ≡ false
ready-empty p d n t s i fs Idle none = refl
ready-empty p d n t s i fs (Routed o) none = refl
ready-empty p d n t s i [] (Active o w) none = refl
ready-empty p d n t s i (f ∷ fs) (Active o w) none = absurd (omega arith)

pub none-is : {T : Type 0} (o : Option T) (b : Bool) → is_some o ≡ not b → is_none o ≡ b
none-is None true e = refl
none-is None false e = absurd (cc e)
none-is (Some x) true e = absurd (cc e)
none-is (Some x) false e = refl

pub link-on-channel : (p : Plan) (d o w : ℕ) → o ≢ 0 → w < out_channels p d o → w < link_channels p d
link-on-channel p d zero w apart below = absurd (apart refl)
link-on-channel p d (suc o) w apart below = below
