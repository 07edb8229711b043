-- What a router shows after the pointers of its switch moved.
use Rattle.std.proofs.Common.{◌≡◌, ◌≢◌, ℕ, ◌+◌, ◌<◌, Bool, List, length, set, get_or, sym, ap, ◌∙◌, arith, ⊎_elim, Some}
use Rattle.std.specs.Prelude.{◌==◌, if◌then◌else◌}
use Rattle.std.proofs.lemmas.Bool.Decides.{eqb_tells}
use Rattle.noc_model.specs.Plan.{Plan, ports}
use Rattle.noc_model.specs.Tile.{Tile}
use Rattle.vc_partition.specs.Lanes.{lane}
use Rattle.vc_partition.proofs.Cuts.{lane-written, lane-other, lanes-other}
use Rattle.slot_switch.specs.declared.Granted.{Granted}
use Rattle.slot_switch.specs.Switch.{moved}
use Rattle.router_core.specs.Parts.{Parts}
use Rattle.router_core.specs.Sizes.{IsMade}
use Rattle.router_core.specs.Shown.{Shows}
use Rattle.router_core.specs.Sends.{turned}
use Rattle.router_core.proofs.Frames.{has-ports}

-- the router after it
abbrev pub turned_parts : Parts → ℕ → ℕ → Granted → Parts
turned_parts r d o x = record r { switch = moved r.switch d o (Some x) }

-- a list of pointers, where one is written
pointer-is : (p : Plan) (v : List (List ℕ)) (d q k n m : ℕ) → d < length v → k < length (lane v d) → get_or (lane v d) q 0 ≡ m
    → get_or (lane (set v d (set (lane v d) k n)) d) q 0 ≡ (if q == k then n else m)
pointer-is p v d q k n m there inside is =
    let at : Bool → ℕ = λ b. if b then n else m in
    ⊎_elim
    (λ z. ap (λ j. get_or (lane (set v d (set (lane v d) k n)) d) j 0) z.1 ∙ lane-written v d k n 0 there inside ∙ ap at (sym z.0))
    (λ z. lane-other v d k q n 0 there z.1 ∙ is ∙ ap at (sym z.0))
    (eqb_tells q k)

module _ (r : Parts) (p : Plan) (d o : ℕ) (x : Granted) (made : IsMade r p) (there : d < length p.domains) (o_in : o < ports p) (port_in : x.port < ports p) where
  pub turned-made : IsMade (turned_parts r d o x) p
  turned-made = record {
    tile = made.tile;
    buffers = made.buffers;
    stages = made.stages;
    pulses = made.pulses;
    allocator = made.allocator;
    switch = record {
      port_count = made.switch.port_count;
      asks = made.switch.asks;
      turns = has-ports p r.switch.turns d _ _ there made.switch.turns;
      switches = has-ports p r.switch.switches d _ _ there made.switch.switches;
    };
    credits = made.credits;
    attachments = made.attachments;
    told = made.told;
    wheel = made.wheel;
  }

  in-turns : d < length r.switch.turns
  in-turns = let a = made.switch.turns.domains in omega (arith, a, there)

  in-switches : d < length r.switch.switches
  in-switches = let a = made.switch.switches.domains in omega (arith, a, there)

  pub turned-own : (v : Tile) → Shows r p d v → Shows (turned_parts r d o x) p d (turned v o x.port x.grant)
  turned-own v shown = record {
    queue = shown.queue;
    stage = shown.stage;
    pulse = shown.pulse;
    held = shown.held;
    credits = shown.credits;
    allocation = shown.allocation;
    switch = λ q q_in. pointer-is p r.switch.switches d q o (x.port + 1) (v.switch q) in-switches (let a = made.switch.switches.ports d there in omega (arith, a, o_in)) (shown.switch q q_in);
    turn = λ q q_in. pointer-is p r.switch.turns d q x.port (x.grant.channel + 1) (v.turn q) in-turns (let a = made.switch.turns.ports d there in omega (arith, a, port_in)) (shown.turn q q_in);
    packet = shown.packet;
    current = shown.current;
    dropped = shown.dropped;
    ejected = shown.ejected;
  }

pub turned-others : (r : Parts) (p : Plan) (d o e : ℕ) (x : Granted) (v : Tile) → e ≢ d → Shows r p e v → Shows (turned_parts r d o x) p e v
turned-others r p d o e x v apart shown = record {
  queue = shown.queue;
  stage = shown.stage;
  pulse = shown.pulse;
  held = shown.held;
  credits = shown.credits;
  allocation = shown.allocation;
  switch = λ q q_in. ap (λ l. get_or l q 0) (lanes-other r.switch.switches d e o (x.port + 1) apart) ∙ shown.switch q q_in;
  turn = λ q q_in. ap (λ l. get_or l q 0) (lanes-other r.switch.turns d e x.port (x.grant.channel + 1) apart) ∙ shown.turn q q_in;
  packet = shown.packet;
  current = shown.current;
  dropped = shown.dropped;
  ejected = shown.ejected;
}

-- an output of a later number keeps its pointer
pub switch-ahead : (r : Parts) (d o k : ℕ) (x : Granted) → d < length r.switch.switches → k ≢ o → get_or (lane (turned_parts r d o x).switch.switches d) k 0 ≡ get_or (lane r.switch.switches d) k 0
switch-ahead r d o k x there apart = lane-other r.switch.switches d o k (x.port + 1) 0 there apart
