-- What a router shows at the beginning of a cycle.
use Rattle.std.proofs.Common.{◌≡◌, ◌≢◌, ℕ, ◌<◌, List, [], length, replicate, get_or, get_or-set_same, get_or-set_other, set, refl, sym, ap, ◌∙◌, arith, ⊎_elim, Option, None}
use Rattle.std.proofs.lemmas.Bool.Decides.{eqb_tells}
use Rattle.std.proofs.lemmas.List.{length-replicate}
use Rattle.noc_model.specs.Plan.{Plan, ports}
use Rattle.noc_model.specs.Tile.{Tile}
use Rattle.vc_partition.specs.Lanes.{lane}
use Rattle.slot_switch.specs.Switch.{Switch, without_asks}
use Rattle.slot_switch.proofs.Asks.{filled}
use Rattle.router_core.specs.Pulses.{is_pulse}
use Rattle.router_core.specs.Parts.{Parts}
use Rattle.router_core.specs.Ready.{IsCleared, silent}
use Rattle.router_core.specs.Sizes.{HasSwitch, HasPorts, IsMade}
use Rattle.router_core.specs.Shown.{Shows}
use Rattle.router_core.proofs.Frames.{has-ports-lane}

read-filled : {T : Type 0} (v : List (List T)) (d n k : ℕ) (x : T) → d < length v
    → get_or (lane (set v d (replicate n x)) d) k x ≡ x
read-filled v d n k x there = ap (λ l. get_or l k x) (get_or-set_same v d (replicate n x) [] there) ∙ filled x n k

pub are-cleared : (p : Plan) (d : ℕ) (x : Switch) (u : List (List (Option ℕ))) → d < length p.domains → HasSwitch p x → HasPorts p u
    → IsCleared p d x (without_asks x d) u (set u d (replicate (length (lane u d)) None))
are-cleared p d x u there has ports =
    let asks_in : d < length x.asks = let a = has.asks.domains in omega (arith, a, there) in
    let pulses_in : d < length u = let a = ports.domains in omega (arith, a, there) in
    let n : ℕ = length (lane u d) in
    record {
      has = record {
        port_count = has.port_count;
        asks = has-ports-lane p x.asks d (replicate x.ports None) there (length-replicate x.ports None ∙ has.port_count) has.asks;
        turns = has.turns;
        switches = has.switches;
      };
      pulses = has-ports-lane p u d (replicate n None) there (length-replicate n None ∙ ports.ports d there) ports;
      turns = refl;
      switches = refl;
      asked = λ port. read-filled x.asks d x.ports port None asks_in;
      left = λ port. read-filled u d n port None pulses_in;
      others = λ e apart. get_or-set_other u d e (replicate n None) [] apart;
      kept = λ are e port c e_in is. ⊎_elim
          (λ here. absurd (cc (sym (ap (λ i. get_or (lane (set u d (replicate n None)) i) port None) here.1 ∙ read-filled u d n port None pulses_in) ∙ is)))
          (λ away. are e port c e_in (sym (ap (λ l. get_or l port None) (get_or-set_other u d e (replicate n None) [] away.1)) ∙ is))
          (eqb_tells e d);
    }

-- ---- the router

abbrev pub clear_parts : Parts → Switch → List (List (Option ℕ)) → Parts
clear_parts r y v = record r { switch = y; pulses = v }

module _ (p : Plan) (d : ℕ) (r : Parts) (y : Switch) (v : List (List (Option ℕ))) (clear : IsCleared p d r.switch y r.pulses v) where
  pub clear-made : IsMade r p → IsMade (clear_parts r y v) p
  clear-made made = record {
    tile = made.tile;
    buffers = made.buffers;
    stages = made.stages;
    pulses = clear.pulses;
    allocator = made.allocator;
    switch = clear.has;
    credits = made.credits;
    attachments = made.attachments;
    told = made.told;
    wheel = made.wheel;
  }

  pub clear-own : (s : Tile) → Shows r p d s → Shows (clear_parts r y v) p d (silent s)
  clear-own s shown = record {
    queue = shown.queue;
    stage = shown.stage;
    pulse = λ port c port_in c_in. ap (λ o. is_pulse o c) (clear.left port);
    held = shown.held;
    credits = shown.credits;
    allocation = shown.allocation;
    switch = λ o o_in. ap (λ l. get_or (lane l d) o 0) clear.switches ∙ shown.switch o o_in;
    turn = λ port port_in. ap (λ l. get_or (lane l d) port 0) clear.turns ∙ shown.turn port port_in;
    packet = shown.packet;
    current = shown.current;
    dropped = shown.dropped;
    ejected = shown.ejected;
  }

  pub clear-others : (e : ℕ) (s : Tile) → e ≢ d → Shows r p e s → Shows (clear_parts r y v) p e s
  clear-others e s apart shown = record {
    queue = shown.queue;
    stage = shown.stage;
    pulse = λ port c port_in c_in. ap (λ l. is_pulse (get_or l port None) c) (clear.others e apart) ∙ shown.pulse port c port_in c_in;
    held = shown.held;
    credits = shown.credits;
    allocation = shown.allocation;
    switch = λ o o_in. ap (λ l. get_or (lane l e) o 0) clear.switches ∙ shown.switch o o_in;
    turn = λ port port_in. ap (λ l. get_or (lane l e) port 0) clear.turns ∙ shown.turn port port_in;
    packet = shown.packet;
    current = shown.current;
    dropped = shown.dropped;
    ejected = shown.ejected;
  }
