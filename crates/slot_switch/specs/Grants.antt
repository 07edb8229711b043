-- What the outputs of the switch grant, one after the other, and what stays.
use Rattle.std.specs.Prelude.{◌≡◌, ◌≢◌, ℕ, ◌<◌, List, length, nat_lt, Option, Some, None, option_and_then, slice_get, if◌then◌else◌}
use Rattle.noc_model.specs.declared.Grant.{Grant}
use Rattle.noc_model.specs.Step.{granted_to as to_port, after, after_grant}
use Rattle.vc_partition.specs.Lanes.{lane}
use Rattle.slot_switch.specs.Switch.{Switch, ask_at, turn_at, switch_at, chosen_in}

-- the lanes u have become w, with as many places, and only those of domain d have changed
pub record OnlyLane {T : Type 0} (u w : List (List T)) (d : ℕ) : Type 0 where
  pub others : (e : ℕ) → e ≢ d → lane w e ≡ lane u e
  pub places : length (lane w d) ≡ length (lane u d)
  pub domains : length w ≡ length u

-- only what domain d asks for has changed
pub record OnlyAsks (x : Switch) (d : ℕ) (y : Switch) : Type 0 where
  pub asks : OnlyLane x.asks y.asks d
  pub rest : y ≡ record x { asks = y.asks }

-- only what is kept for domain d has changed
pub record OnlyDomain (x y : Switch) (d : ℕ) : Type 0 where
  pub port_count : y.ports ≡ x.ports
  pub asks : OnlyLane x.asks y.asks d
  pub turns : OnlyLane x.turns y.turns d
  pub switches : OnlyLane x.switches y.switches d

-- what the input port is granted by the outputs below o
abbrev pub granted_below : ℕ → Switch → ℕ → ℕ → Option Grant
granted_below o x d port =
    option_and_then (λ g. if nat_lt g.out o then to_port (chosen_in x d g.out) port g else None) (ask_at x d port)

-- the pointer of output k, where the outputs below o have granted
abbrev pub switch_below : ℕ → Switch → ℕ → ℕ → ℕ
switch_below o x d k = if nat_lt k o then after (chosen_in x d k) (switch_at x d k) else switch_at x d k

-- the outputs of domain d below o have granted: the switch x has become y, and the grants u have become w
pub record HaveGranted (x y : Switch) (u w : List (List (Option Grant))) (d o : ℕ) : Type 0 where
  pub rest : y ≡ record x { turns = y.turns; switches = y.switches }
  pub given : (k : ℕ) → k < x.ports → slice_get (lane w d) k ≡ Some (granted_below o x d k)
  pub moved : (k : ℕ) → k < x.ports → turn_at y d k ≡ after_grant (granted_below o x d k) (turn_at x d k)
  pub picked : (k : ℕ) → k < x.ports → switch_at y d k ≡ switch_below o x d k
  pub turns : OnlyLane x.turns y.turns d
  pub switches : OnlyLane x.switches y.switches d
  pub grants : OnlyLane u w d
