-- The switch allocator of a tile.
use Rattle.std.specs.Prelude.{◌≡◌, ℕ, ◌+◌, ◌<◌, ◌≤◌, List, map, replicate, length, slice_index_or, slice_set, Option, Some, None, option_map, option_and_then, if◌then◌else◌}
use Rattle.std.specs.List.{range_with_len}
use Rattle.noc_model.specs.declared.Grant.{Grant}
use Rattle.noc_model.specs.Plan.{Plan, ports}
use Rattle.noc_model.specs.Pick.{pick}
use Rattle.noc_model.specs.Step.{asks_for}
use Rattle.vc_partition.specs.Lanes.{lane}
use Rattle.vc_partition.specs.Picks.{comes_first}
use Rattle.slot_switch.specs.declared.Granted.{Granted}

-- what contracts see: the ports; of each domain by input port what it asks for in this cycle, and its pointer; by
-- output port the output's pointer
pub record Switch : Type 0 where
  pub ports : ℕ
  pub asks : List (List (Option Grant))
  pub turns : List (List ℕ)
  pub switches : List (List ℕ)

-- what the input port asks for
abbrev pub ask_at : Switch → ℕ → ℕ → Option Grant
ask_at x d port = slice_index_or (lane x.asks d) port None

-- the pointer of an input port
abbrev pub turn_at : Switch → ℕ → ℕ → ℕ
turn_at x d port = slice_index_or (lane x.turns d) port 0

-- the pointer of an output
abbrev pub switch_at : Switch → ℕ → ℕ → ℕ
switch_at x d o = slice_index_or (lane x.switches d) o 0

-- the better of what is asked for so far and another, from the pointer on
abbrev pub better_ask : ℕ → Option Grant → Grant → Grant
better_ask pointer None g = g
better_ask pointer (Some b) g = if comes_first pointer g.channel b.channel then g else b

-- the input port asks for another grant; all else stays
abbrev pub with_ask : Switch → ℕ → ℕ → Option Grant → Switch
with_ask x d port g = record x { asks = slice_set x.asks d (slice_set (lane x.asks d) port g) }

-- no input port of domain d asks for anything; all else stays
abbrev pub without_asks : Switch → ℕ → Switch
without_asks x d = record x { asks = slice_set x.asks d (replicate x.ports None) }

-- another pointer of an input port; all else stays
abbrev pub with_turn : Switch → ℕ → ℕ → ℕ → Switch
with_turn x d port k = record x { turns = slice_set x.turns d (slice_set (lane x.turns d) port k) }

-- another pointer of an output; all else stays
abbrev pub with_switch : Switch → ℕ → ℕ → ℕ → Switch
with_switch x d o k = record x { switches = slice_set x.switches d (slice_set (lane x.switches d) o k) }

-- the input port that the output picks among those that ask for it
abbrev pub chosen_in : Switch → ℕ → ℕ → Option ℕ
chosen_in x d o = pick x.ports (λ port. asks_for (ask_at x d port) o) (switch_at x d o)

-- the grant of an input port
abbrev pub granted_to : Switch → ℕ → ℕ → Option Granted
granted_to x d port = option_map (λ g. let r : Granted = record { port = port; grant = g } in r) (ask_at x d port)

-- what the output grants
abbrev pub granted_in : Switch → ℕ → ℕ → Option Granted
granted_in x d o = option_and_then (granted_to x d) (chosen_in x d o)

-- only for a grant the pointers move: the input port's to behind the channel, the output's to behind the port
abbrev pub moved : Switch → ℕ → ℕ → Option Granted → Switch
moved x d o None = x
moved x d o (Some r) = with_switch (with_turn x d r.port (r.grant.channel + 1)) d o (r.port + 1)

-- each domain has an ask and a pointer for each input port, and a pointer for each output
pub record IsSwitch (x : Switch) : Type 0 where
  pub few_ports : x.ports ≤ 7
  pub turns : length x.turns ≡ length x.asks
  pub switches : length x.switches ≡ length x.asks
  pub ask_places : (d : ℕ) → d < length x.asks → length (lane x.asks d) ≡ x.ports
  pub turn_places : (d : ℕ) → d < length x.asks → length (lane x.turns d) ≡ x.ports
  pub switch_places : (d : ℕ) → d < length x.asks → length (lane x.switches d) ≡ x.ports
  -- what is asked for are channels that there are
  pub channels : (d port : ℕ) (g : Grant) → ask_at x d port ≡ Some g → g.channel < 8

-- the switch at the start: nothing is asked for
abbrev pub start_of : Plan → Switch
start_of p = record {
  ports = ports p;
  asks = map (λ d. replicate (ports p) None) (range_with_len 0 (length p.domains));
  turns = map (λ d. replicate (ports p) 0) (range_with_len 0 (length p.domains));
  switches = map (λ d. replicate (ports p) 0) (range_with_len 0 (length p.domains));
}
