-- What a router shows where a flit has arrived, or a credit has come back.
use Rattle.std.proofs.Common.{◌≡◌, ◌≢◌, ℕ, ◌+◌, ◌<◌, Bool, List, [], ◌∷◌, ◌++◌, length, get_or, sym, ap, ◌∙◌, arith, ⊎_elim}
use Rattle.std.specs.Prelude.{if◌then◌else◌}
use Rattle.noc_model.specs.declared.LinkFlit.{LinkFlit}
use Rattle.noc_model.specs.Plan.{Plan, ports, link_channels}
use Rattle.noc_model.specs.Inputs.{place}
use Rattle.noc_model.proofs.Inputs.{place-below}
use Rattle.noc_model.specs.Tile.{Tile}
use Rattle.flit_pool.specs.Lists.{Lists, list_at}
use Rattle.vc_partition.proofs.Cuts.{lane-written, lane-other, lanes-other}
use Rattle.vc_partition.specs.Lanes.{lane}
use Rattle.credit_links.specs.Counts.{count_at, with_count}
use Rattle.router_core.specs.Buffers.{lists_at, flits_at, with_flits}
use Rattle.router_core.specs.Parts.{Parts}
use Rattle.router_core.specs.Sizes.{IsMade}
use Rattle.router_core.specs.Shown.{Shows, with_flit, with_credit}
use Rattle.router_core.proofs.Frames.{same-place, flits-written, flits-other, lists-other, has-buffers, has-credits}

-- ---- a flit

-- the router with one flit more
abbrev pub fed_parts : Parts → Plan → ℕ → ℕ → LinkFlit → Parts
fed_parts r p d port x = record r {
  buffers = with_flits r.buffers d (place p d port x.channel) (flits_at r.buffers d (place p d port x.channel) ++ x.flit ∷ []);
}

module _ (r : Parts) (p : Plan) (d port : ℕ) (x : LinkFlit) (made : IsMade r p) (there : d < length p.domains) where
  pub fed-made : IsMade (fed_parts r p d port x) p
  fed-made = record {
    tile = made.tile;
    buffers = has-buffers p r.buffers d _ _ there made.buffers;
    stages = made.stages;
    pulses = made.pulses;
    allocator = made.allocator;
    switch = made.switch;
    credits = made.credits;
    attachments = made.attachments;
    told = made.told;
    wheel = made.wheel;
  }

  inside : d < length r.buffers
  inside = let a = made.buffers.domains in omega (arith, a, there)

  fed-queue : (s : Tile) (q c : ℕ) → Shows r p d s → port < ports p → x.channel < link_channels p d → q < ports p → c < link_channels p d
      → flits_at (fed_parts r p d port x).buffers d (place p d q c) ≡ (with_flit s port x).queue q c
  fed-queue s q c shown port_in channel_in q_in c_in =
      let k = place p d port x.channel in
      let new = flits_at r.buffers d k ++ x.flit ∷ [] in
      let there_too : k < length (lists_at r.buffers d).lists = let a = place-below p d port x.channel port_in channel_in in let b = made.buffers.inputs d there in omega (arith, a, b) in
      let same = shown.queue q c q_in c_in in
      let f : Bool → List _ = λ b. if b then s.queue q c ++ x.flit ∷ [] else s.queue q c in
      ⊎_elim
      (λ w. ap (flits_at (with_flits r.buffers d k new) d) w.1 ∙ flits-written r.buffers d k new inside there_too
      ∙ ap (λ j. flits_at r.buffers d j ++ x.flit ∷ []) (sym w.1) ∙ ap (λ fs. fs ++ x.flit ∷ []) same ∙ ap f (sym w.0))
      (λ w. flits-other r.buffers d k (place p d q c) new inside w.1 ∙ same ∙ ap f (sym w.0))
      (same-place p d q c port x.channel c_in channel_in)

  pub fed-own : (s : Tile) → Shows r p d s → port < ports p → x.channel < link_channels p d → Shows (fed_parts r p d port x) p d (with_flit s port x)
  fed-own s shown port_in channel_in = record {
    queue = λ q c q_in c_in. fed-queue s q c shown port_in channel_in q_in c_in;
    stage = shown.stage;
    pulse = shown.pulse;
    held = shown.held;
    credits = shown.credits;
    allocation = shown.allocation;
    switch = shown.switch;
    turn = shown.turn;
    packet = shown.packet;
    current = shown.current;
    dropped = shown.dropped;
    ejected = shown.ejected;
  }

pub fed-others : (r : Parts) (p : Plan) (d port e : ℕ) (x : LinkFlit) (s : Tile) → e ≢ d → Shows r p e s → Shows (fed_parts r p d port x) p e s
fed-others r p d port e x s apart shown = record {
  queue = λ q c q_in c_in. ap (λ (xs : Lists). list_at xs (place p e q c)) (lists-other r.buffers d e (place p d port x.channel) _ apart) ∙ shown.queue q c q_in c_in;
  stage = shown.stage;
  pulse = shown.pulse;
  held = shown.held;
  credits = shown.credits;
  allocation = shown.allocation;
  switch = shown.switch;
  turn = shown.turn;
  packet = shown.packet;
  current = shown.current;
  dropped = shown.dropped;
  ejected = shown.ejected;
}

-- ---- a credit

-- the router with one credit more
abbrev pub repaid_parts : Parts → Plan → ℕ → ℕ → ℕ → Parts
repaid_parts r p d port w = record r {
  credits = with_count r.credits d (place p d port w) (count_at r.credits d (place p d port w) + 1);
}

module _ (r : Parts) (p : Plan) (d port w : ℕ) (made : IsMade r p) (there : d < length p.domains) where
  pub repaid-made : IsMade (repaid_parts r p d port w) p
  repaid-made = record {
    tile = made.tile;
    buffers = made.buffers;
    stages = made.stages;
    pulses = made.pulses;
    allocator = made.allocator;
    switch = made.switch;
    credits = has-credits p r.credits d _ _ there made.credits;
    attachments = made.attachments;
    told = made.told;
    wheel = made.wheel;
  }

  has-lane : d < length r.credits.lanes
  has-lane = let a = made.credits.counts.domains in omega (arith, a, there)

  repaid-count : (s : Tile) (o v : ℕ) → Shows r p d s → o ≢ 0 → port < ports p → w < link_channels p d → o < ports p → v < link_channels p d
      → count_at (repaid_parts r p d port w).credits d (place p d o v) ≡ (with_credit s port w).credits o v
  repaid-count s o v shown linked port_in w_in o_in v_in =
      let k = place p d port w in
      let n = count_at r.credits d k + 1 in
      let there_too : k < length (lane r.credits.lanes d) = let a = place-below p d port w port_in w_in in let b = made.credits.counts.inputs d there in omega (arith, a, b) in
      let same = shown.credits o v linked o_in v_in in
      let f : Bool → ℕ = λ b. if b then s.credits o v + 1 else s.credits o v in
      ⊎_elim
      (λ z. ap (count_at (with_count r.credits d k n) d) z.1 ∙ lane-written r.credits.lanes d k n 0 has-lane there_too
      ∙ ap (λ j. count_at r.credits d j + 1) (sym z.1) ∙ ap (λ m. m + 1) same ∙ ap f (sym z.0))
      (λ z. lane-other r.credits.lanes d k (place p d o v) n 0 has-lane z.1 ∙ same ∙ ap f (sym z.0))
      (same-place p d o v port w v_in w_in)

  pub repaid-own : (s : Tile) → Shows r p d s → port < ports p → w < link_channels p d → Shows (repaid_parts r p d port w) p d (with_credit s port w)
  repaid-own s shown port_in w_in = record {
    queue = shown.queue;
    stage = shown.stage;
    pulse = shown.pulse;
    held = shown.held;
    credits = λ o v linked o_in v_in. repaid-count s o v shown linked port_in w_in o_in v_in;
    allocation = shown.allocation;
    switch = shown.switch;
    turn = shown.turn;
    packet = shown.packet;
    current = shown.current;
    dropped = shown.dropped;
    ejected = shown.ejected;
  }

pub repaid-others : (r : Parts) (p : Plan) (d port e w : ℕ) (s : Tile) → e ≢ d → Shows r p e s → Shows (repaid_parts r p d port w) p e s
repaid-others r p d port e w s apart shown = record {
  queue = shown.queue;
  stage = shown.stage;
  pulse = shown.pulse;
  held = shown.held;
  credits = λ o v linked o_in v_in. ap (λ l. get_or l (place p e o v) 0) (lanes-other r.credits.lanes d e (place p d port w) _ apart) ∙ shown.credits o v linked o_in v_in;
  allocation = shown.allocation;
  switch = shown.switch;
  turn = shown.turn;
  packet = shown.packet;
  current = shown.current;
  dropped = shown.dropped;
  ejected = shown.ejected;
}
