-- A domain's heads are placed and its flits sent, as the definition does in one cycle.
use Rattle.std.proofs.Common.{◌≡◌, ℕ, zero, suc, ◌<◌, ◌≤◌, Bool, true, false, List, [], length, refl, sym, ap, ◌∙◌, subst, arith, Option, Some, None, ℤ}
use Rattle.std.specs.Prelude.{◌||◌, nat_lt, pos, if◌then◌else◌}
use Rattle.std.proofs.lemmas.Bool.Decides.{nat_tests}
use Rattle.std.proofs.lemmas.List.{get_or_past}
use Rattle.noc_model.specs.declared.Grant.{Grant}
use Rattle.noc_model.specs.declared.Stage.{Stage}
use Rattle.noc_model.specs.declared.Stage.TheVariants.{Idle, Routed, Active}
use Rattle.noc_model.specs.Plan.{Plan, ports, link_channels, out_channels}
use Rattle.noc_model.specs.Inputs.{input_count, input_port, input_channel}
use Rattle.noc_model.specs.Tile.{Tile, TileIn}
use Rattle.noc_model.specs.Step.{front, is_place, taken_channel, winner, takes, asked, grant, chosen, sent}
use Rattle.noc_model.specs.Holder.{IsHolder}
use Rattle.noc_model.specs.SoundState.{HasOutput}
use Rattle.noc_model.proofs.Inputs.{input-within, port-below, channel-below}
use Rattle.noc_model.proofs.Switch.{grant-ready, chosen-inside}
use Rattle.noc_model.proofs.Switched.{output-below}
use Rattle.noc_model.proofs.Holders.{granted-chosen}
use Rattle.vc_partition.specs.Lanes.{lane}
use Rattle.route_stage.specs.Routed.{stage_at, GoesToTile}
use Rattle.slot_switch.specs.Switch.{Switch, ask_at}
use Rattle.vc_alloc.specs.Allocator.{Allocator, best_at}
use Rattle.vc_alloc.specs.Shown.{GoesBelow}
use Rattle.wave_sched.specs.Wheels.{Stands}
use Rattle.router_core.specs.Attachments.{told_at, outside}
use Rattle.router_core.specs.Asks.{HaveOutputs}
use Rattle.router_core.specs.Buffers.{lists_at}
use Rattle.router_core.specs.Heads.{FrontsGo, front_of, placed}
use Rattle.router_core.specs.Parts.{Parts}
use Rattle.router_core.specs.Sizes.{IsMade}
use Rattle.router_core.specs.Shown.{Shows}
use Rattle.router_core.specs.Ready.{silent, IsReady}
use Rattle.router_core.specs.Crossing.{under, until, crossed_below, IsSending, CanSend, switched}
use Rattle.router_core.proofs.Takes.{stage-there, flits-there}
use Rattle.router_core.proofs.Through.{through-same}

-- the pulses of a tile are read by others alone
switched-silent : (p : Plan) (d n : ℕ) (t : ℤ) (s : Tile) (i : TileIn) → switched p d n t (silent s) i ≡ switched p d n t s i
unfolding winner taken_channel takes asked grant chosen sent
switched-silent p d n t s i = refl

sent-silent : (p : Plan) (d n : ℕ) (t : ℤ) (s : Tile) (i : TileIn) (o : ℕ) → sent p d n t (silent s) i o ≡ sent p d n t s i o
unfolding takes asked grant chosen sent
sent-silent p d n t s i o = refl

-- ---- what the calls need

module _ (r : Parts) (p : Plan) (d : ℕ) (made : IsMade r p) (there : d < length p.domains) (ready : IsReady p d r) where
  pub ready-outs : HaveOutputs p d r
  ready-outs k = go (nat_lt k (input_count p d)) refl
    where
      go : (b : Bool) → nat_lt k (input_count p d) ≡ b → HasOutput p d r.tile (stage_at r.stages d k)
      go true e =
          let k_in : k < input_count p d = grind (arith, nat_tests, e) in
          subst (HasOutput p d r.tile) (sym (stage-there r p d ready.tile k ready.shows k_in))
          (ready.outs (input_port p d k) (input_channel p d k) (port-below p d k k_in) (channel-below p d k k_in))
      go false e =
          let past : input_count p d ≤ k = grind (arith, nat_tests, e) in
          let a = made.stages.inputs d there in
          subst (HasOutput p d r.tile) (sym (get_or_past (lane r.stages d) k Idle (omega (arith, a, past)))) tt

  pub ready-fronts : FrontsGo p r.buffers d
  ready-fronts k = go (nat_lt k (input_count p d)) refl
    where
      go : (b : Bool) → nat_lt k (input_count p d) ≡ b → GoesToTile p (front_of r.buffers d k)
      go true e =
          let k_in : k < input_count p d = grind (arith, nat_tests, e) in
          subst (λ fs. GoesToTile p (front fs)) (sym (flits-there r p d ready.tile k ready.shows k_in))
          (ready.fronts (input_port p d k) (input_channel p d k) (port-below p d k k_in) (channel-below p d k k_in))
      go false e =
          let past : input_count p d ≤ k = grind (arith, nat_tests, e) in
          let a = made.buffers.inputs d there in
          subst (λ fs. GoesToTile p (front fs)) (sym (get_or_past (lists_at r.buffers d).lists k [] (omega (arith, a, past)))) tt

  below-of : (st : Stage) → HasOutput p d r.tile st → GoesBelow (ports p) st
  below-of Idle has = tt
  below-of (Routed o) has = output-below p r.tile o has
  below-of (Active o w) has = tt

  pub ready-below : (k : ℕ) → GoesBelow (ports p) (stage_at r.stages d k)
  ready-below k = below-of (stage_at r.stages d k) (ready-outs k)

-- ---- what a tile that is shown has

module _ (p : Plan) (d : ℕ) (r : Parts) (ready : IsReady p d r) (s : Tile) (shown : Shows r p d s) where
  same-stage : (port c : ℕ) → port < ports p → c < link_channels p d → s.stage port c ≡ ready.tile.stage port c
  same-stage port c port_in c_in = sym (shown.stage port c port_in c_in) ∙ ready.shows.stage port c port_in c_in

  out-within : (o w c : ℕ) → c < link_channels p d → w < out_channels p d o → w < link_channels p d
  out-within zero w c c_in below = omega (arith, c_in, below)
  out-within (suc o) w c c_in below = below

  pub holds : (o w port c : ℕ) → IsHolder p d s o w port c → s.held o w ≡ true
  holds o w port c g =
      let c_in = input-within p d port c g.below in
      let active = sym (same-stage port c g.inside c_in) ∙ g.active in
      let out : HasOutput p d r.tile (Active o w) = subst (HasOutput p d r.tile) active (ready.outs port c g.inside c_in) in
      let o_in = output-below p r.tile o out.0 in
      let w_in = out-within o w c c_in out.1 in
      sym (shown.held o w o_in w_in) ∙ ready.shows.held o w o_in w_in ∙ ready.held o w port c (record { inside = g.inside; below = g.below; active = active })

-- ---- the router that sends

-- the router after a domain began its cycle, asked, and placed its heads
abbrev pub asked_parts : Parts → Switch → List (List (Option ℕ)) → Parts
asked_parts r x v = record r { switch = x; pulses = v }

abbrev pub headed_parts : Parts → Switch → List (List (Option ℕ)) → Allocator → List (List Stage) → Parts
headed_parts r x v a st = record r { switch = x; pulses = v; allocator = a; stages = st }

-- what these calls did
pub record HasPlaced (p : Plan) (d : ℕ) (r : Parts) (x1 x2 : Switch) (v1 : List (List (Option ℕ))) (a3 : Allocator) (st3 : List (List Stage)) : Type 0 where
  pub made : IsMade (headed_parts r x2 v1 a3 st3) p
  pub began : (s : Tile) → Shows r p d s → Shows (asked_parts r x1 v1) p d (silent s)
  pub asks : (s : Tile) (t port : ℕ) → Shows (asked_parts r x1 v1) p d s → Stands r.wheel p r.tile t → port < ports p
      → ask_at x2 d port ≡ asked p d r.tile (pos t) s (outside (told_at r.told d)) port
  pub asking : (s : Tile) → Shows (asked_parts r x1 v1) p d s → Shows (asked_parts r x2 v1) p d s
  pub heads : (s : Tile) → Shows (asked_parts r x2 v1) p d s → Shows (headed_parts r x2 v1 a3 st3) p d (placed p d r.tile s)

pub path2 : (r q1 q2 : Parts) → q1 ≡ record r { switch = q1.switch; pulses = q1.pulses } → q2 ≡ record q1 { switch = q2.switch } → q2 ≡ asked_parts r q2.switch q1.pulses
path2 r q1 q2 rest1 rest2 = rest2 ∙ ap (λ (z : Parts). let y : Parts = record z { switch = q2.switch } in y) rest1

pub path3 : (r q1 q2 q3 : Parts) → q1 ≡ record r { switch = q1.switch; pulses = q1.pulses } → q2 ≡ record q1 { switch = q2.switch } → q3 ≡ record q2 { allocator = q3.allocator; stages = q3.stages }
    → q3 ≡ headed_parts r q2.switch q1.pulses q3.allocator q3.stages
path3 r q1 q2 q3 rest1 rest2 rest3 =
    rest3 ∙ ap (λ (z : Parts). let y : Parts = record z { allocator = q3.allocator; stages = q3.stages } in y) (path2 r q1 q2 rest1 rest2)

module _ (p : Plan) (d : ℕ) (r q1 q2 q3 : Parts) (rest1 : q1 ≡ record r { switch = q1.switch; pulses = q1.pulses }) (rest2 : q2 ≡ record q1 { switch = q2.switch })
    (rest3 : q3 ≡ record q2 { allocator = q3.allocator; stages = q3.stages }) where
  pub has-placed : IsMade q3 p → ((s : Tile) → Shows r p d s → Shows q1 p d (silent s))
      → ((s : Tile) (t port : ℕ) → Shows q1 p d s → Stands q1.wheel p q1.tile t → port < ports p → ask_at q2.switch d port ≡ asked p d q1.tile (pos t) s (outside (told_at q1.told d)) port)
      → ((e : ℕ) (s : Tile) → Shows q1 p e s → Shows q2 p e s) → ((s : Tile) → Shows q2 p d s → Shows q3 p d (placed p d q2.tile s))
      → HasPlaced p d r q1.switch q2.switch q1.pulses q3.allocator q3.stages
  has-placed made began asks asking heads =
      let S : Tile → Parts → Type 0 = λ s z. Shows z p d s in
      let A : Parts → Type 0 = λ z. (s : Tile) (t port : ℕ) → Shows z p d s → Stands z.wheel p z.tile t → port < ports p
      → ask_at q2.switch d port ≡ asked p d z.tile (pos t) s (outside (told_at z.told d)) port in
      let H : Parts → Type 0 = λ z. (s : Tile) → Shows z p d s → Shows q3 p d (placed p d z.tile s) in
      let M : Parts → Type 0 = λ z. IsMade z p in
      record {
        made = subst M (path3 r q1 q2 q3 rest1 rest2 rest3) made;
        began = λ s shown. subst (S (silent s)) rest1 (began s shown);
        asks = subst A rest1 asks;
        asking = λ s shown. subst (S s) (path2 r q1 q2 rest1 rest2) (asking d s (subst (S s) (sym rest1) shown));
        heads = λ s shown. subst (S (placed p d r.tile s)) (path3 r q1 q2 q3 rest1 rest2 rest3) (subst H (path2 r q1 q2 rest1 rest2) heads s shown);
      }

module _ (p : Plan) (d : ℕ) (r : Parts) (x1 x2 : Switch) (v1 : List (List (Option ℕ))) (a3 : Allocator) (st3 : List (List Stage)) (ready : IsReady p d r) (h : HasPlaced p d r x1 x2 v1 a3 st3) where
  abbrev i : TileIn
  i = outside (told_at r.told d)

  abbrev r3 : Parts
  r3 = headed_parts r x2 v1 a3 st3

  module _ (s : Tile) (t : ℕ) (shown : Shows r p d s) (stands : Stands r.wheel p r.tile t) where
    shown3 : Shows r3 p d (placed p d r.tile (silent s))
    shown3 = h.heads (silent s) (h.asking (silent s) (h.began s shown))

    pub is-sending : IsSending p d r3 (silent s) (placed p d r.tile (silent s)) t i
    is-sending = record {
      shows = shown3;
      quiet = λ port c. refl;
      asks = record {
        port_count = h.made.switch.port_count;
        asks = λ port port_in. h.asks (silent s) t port (h.began s shown) stands port_in;
        switches = λ o o_in. shown3.switch o o_in;
      };
      queue = λ port c port_in c_in. refl;
      credits = λ o w. refl;
      switch = λ o. refl;
      held = λ o w port c g. ap (λ b. b || is_place (taken_channel p d r.tile (silent s) o) w) (holds p d r ready s shown o w port c (record { inside = g.inside; below = g.below; active = g.active }));
      outs = λ port c port_in c_in. subst (HasOutput p d r.tile) (sym (same-stage p d r ready s shown port c port_in c_in)) (ready.outs port c port_in c_in);
    }

    until-all : {T : Type 0} (f : ℕ → Option T) (q : ℕ) → q < ports p → until (ports p) f q ≡ f q
    until-all f q q_in = let e : nat_lt q (ports p) ≡ true = grind (arith, nat_tests, q_in) in ap (λ b. if b then f q else None) e

    under-all : (h : Option Grant) → ((g : Grant) → h ≡ Some g → g.out < ports p) → under (ports p) h ≡ h
    under-all None below = refl
    under-all (Some g) below =
        let a = below g refl in
        let e : nat_lt g.out (ports p) ≡ true = grind (arith, nat_tests, a) in ap (λ b. if b then Some g else None) e

    out-there : (q : ℕ) (g : Grant) → grant p d r.tile (pos t) (silent s) i q ≡ Some g → g.out < ports p
    out-there q g e =
        let able = grant-ready p d r.tile (pos t) (silent s) i q g e in
        let q_in = chosen-inside p d r.tile (pos t) (silent s) i g.out q (granted-chosen p d r.tile (pos t) (silent s) i q g e) in
        let has = subst (HasOutput p d r.tile) able.active (is-sending.outs q g.channel q_in (input-within p d q g.channel able.in_range)) in
        output-below p r.tile g.out has.0

    pub all-sent : (q : Parts) → Shows q p d (crossed_below (ports p) p d r.tile (pos t) (silent s) i (placed p d r.tile (silent s))) → Shows q p d (switched p d r.tile (pos t) s i)
    all-sent q shown4 =
        let n = r.tile in
        let z = silent s in
        subst (Shows q p d) (switched-silent p d n (pos t) s i)
        (through-same q p d (placed p d n z) (λ k. under (ports p) (grant p d n (pos t) z i k)) (grant p d n (pos t) z i)
        (until (ports p) (sent p d n (pos t) z i)) (sent p d n (pos t) z i) (until (ports p) (chosen p d n (pos t) z i)) (chosen p d n (pos t) z i)
        (λ k k_in. sym (under-all (grant p d n (pos t) z i k) (out-there k)))
        (λ k k_in. sym (until-all (sent p d n (pos t) z i) k k_in)) (λ k k_in. sym (until-all (chosen p d n (pos t) z i) k k_in)) shown4)

    pub all-flits : (k : ℕ) → k < ports p → until (ports p) (sent p d r.tile (pos t) (silent s) i) k ≡ sent p d r.tile (pos t) s i k
    all-flits k k_in = until-all (sent p d r.tile (pos t) (silent s) i) k k_in ∙ sent-silent p d r.tile (pos t) s i k

  pub can-send : CanSend p d r3
  can-send = record {
    tile = silent ready.tile;
    placed = placed p d r.tile (silent ready.tile);
    cycle = ready.cycle;
    inputs = i;
    sending = is-sending ready.tile ready.cycle ready.shows ready.stands;
  }

-- no output has a best input, of those that there are and of all others
pub best-none : (p : Plan) (x : Allocator) → length x.best ≡ ports p → ((o : ℕ) → o < ports p → best_at x o ≡ None) → (o : ℕ) → best_at x o ≡ None
best-none p x long quiet o = go (nat_lt o (ports p)) refl
  where
    go : (b : Bool) → nat_lt o (ports p) ≡ b → best_at x o ≡ None
    go true e = quiet o (let below : o < ports p = grind (arith, nat_tests, e) in below)
    go false e = get_or_past x.best o None (let past : ports p ≤ o = grind (arith, nat_tests, e) in omega (arith, long, past))
