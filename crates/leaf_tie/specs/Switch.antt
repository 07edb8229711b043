-- Which flit of a domain goes by which output: the ready places, one of each input port, one of these for each output.
use Rattle.std.specs.Prelude.{◌≡◌, ℕ, ◌+◌, ◌-◌, ◌*◌, ◌/◌, ◌%◌, ◌<◌, ◌≤◌, Bool, true, false, List, [], ◌∷◌, ◌++◌, ◌==◌, ◌&&◌, if◌then◌else◌, ℤ}
use Rattle.vl_tree.specs.declared.tree.Op.TheVariants.{And}
use Rattle.vl_tree.specs.Values.{Name, Expr, net, bit, part, not, two, choose, cat, Item, wire, reg, assign}
use Rattle.vl_model.specs.Meaning.{Widths, Values, value_of, one_if}
use Rattle.gen_kit.specs.Families.{in_bits, row_parts}
use Rattle.noc_model.specs.declared.Stage.{Stage}
use Rattle.noc_model.specs.declared.Stage.TheVariants.{Idle, Routed, Active}
use Rattle.noc_model.specs.Plan.{Plan, link_channels, ports, in_channels}
use Rattle.noc_model.specs.Tile.{Tile, TileIn}
use Rattle.noc_model.specs.Step.{takes, is_ready}
use Rattle.gen_kit.specs.Masks.{mask}
use Rattle.gen_kit.specs.Groups.{Group}
use Rattle.gen_kit.specs.Rotate.{RotateNames, rotate_group, pointer_moves, is_empty, PointsTo}
use Rattle.leaf_tie.specs.Places.{stage_at, queue_at, is_active}
use Rattle.gen_kit.specs.Families.{for_each, or_upto, defined}
use Rattle.leaf_tie.specs.Buffers.{is_filled}

-- whether the channel is active on the output
abbrev pub goes_by : Stage → ℕ → Bool
goes_by Idle o = false
goes_by (Routed to) o = false
goes_by (Active to w) o = to == o

-- whether the place may send by the output in this cycle
abbrev pub ready_for : Plan → ℕ → ℕ → ℤ → Tile → TileIn → ℕ → ℕ → Bool
ready_for p d n t s i o place = goes_by (stage_at p d s place) o
    && is_ready p d n t s i (place / link_channels p d) (place % link_channels p d)

-- one output's ready places: those with a flit, active on a channel that the output takes a flit for.
-- able k says, in one bit, whether it does for channel k
abbrev pub ready_expr : Name → (ℕ → Name) → (ℕ → Expr) → ℕ → ℕ → Expr
ready_expr filled active able high last = two And (net filled) (or_upto last (λ k. choose (able k) (net (active k))
    (in_bits (high + 1) 0)))

-- the ready places of an output, for each output that is there
pub record ReadyIn (p : Plan) (d n o : ℕ) (filled : Name) (active : ℕ → Name) (able : ℕ
    → Expr) (high last : ℕ) (w : Widths) (v : Values) (t : ℤ) (s : Tile) (i : TileIn) : Type 0 where
  pub flits : v.net filled ≡ mask (high + 1) (λ place. is_filled (queue_at p d s place))
  pub channels : (k : ℕ) → k ≤ last → v.net (active k) ≡ mask (high + 1) (λ place. is_active (stage_at p d s place) o k)
  pub ables : (k : ℕ) → k ≤ last → value_of w v (able k) ≡ one_if (takes p d n t s i o k)
  -- what is active on the output has a channel of it
  pub few : (place k : ℕ) → is_active (stage_at p d s place) o k ≡ true → k ≤ last

-- the nets of a domain's switch
pub record SwitchNames : Type 0 where
  -- by output
  pub ready : ℕ → Name
  pub asks : ℕ → Name
  pub choice : ℕ → RotateNames
  -- by input port
  pub turn : ℕ → RotateNames
  pub granted : ℕ → Name
  -- of all places
  pub all : Name
  pub picked : Name
  pub leaves : Name

-- last: one less than the ports; channel: one less than the channels of a link. Vectors over places have
-- (last + 1) * (channel + 1) bits
pub record SwitchSize : Type 0 where
  pub last : ℕ
  pub channel : ℕ

-- how many places there are
abbrev pub place_count : SwitchSize → ℕ
place_count z = (z.last + 1) * (z.channel + 1)

-- the places of a port in a vector
abbrev pub port_part : SwitchSize → Name → ℕ → Expr
port_part z n port = part n (port * (z.channel + 1) + z.channel) (port * (z.channel + 1))

-- the nets of an input port's turn
abbrev pub port_nets : SwitchNames → SwitchSize → ℕ → List Item
port_nets a z port = wire z.channel (a.turn port).request ∷ assign (a.turn port).request (port_part z a.all port)
    ∷ (rotate_group (a.turn port) z.channel).nets

-- the nets of an output's choice
abbrev pub output_nets : SwitchNames → SwitchSize → ℕ → List Item
output_nets a z o =
    wire (place_count z - 1) (a.asks o) ∷ assign (a.asks o) (two And (net a.picked) (net (a.ready o)))
    ∷ wire z.last (a.choice o).request ∷ assign (a.choice o).request (cat (row_parts (λ port. not
    (is_empty z.channel (port_part z (a.asks o) port))) z.last))
    ∷ (rotate_group (a.choice o) z.last).nets

-- the places of an input port that a flit leaves
abbrev pub grant_nets : SwitchNames → SwitchSize → ℕ → List Item
grant_nets a z port =
    wire z.channel (a.granted port)
    ∷ assign (a.granted port) (choose (or_upto z.last (λ o. bit (a.choice o).winner port)) (net
    (a.turn port).winner) (in_bits (z.channel + 1) 0))
    ∷ []

-- the nets of the outputs' ready places, one for each port, are assigned before
abbrev pub switch_group : SwitchNames → SwitchSize → Group
switch_group a z = record {
  heads = for_each (z.last + 1) (λ o. reg z.last (a.choice o).pointer ∷ [])
      ++ for_each (z.last + 1) (λ port. reg z.channel (a.turn port).pointer ∷ []);
  nets =
      wire (place_count z - 1) a.all ∷ assign a.all (or_upto z.last (λ o. net (a.ready o)))
      ∷ (for_each (z.last + 1) (port_nets a z)
      ++ (wire (place_count z - 1) a.picked ∷ assign a.picked (cat (row_parts (λ port. net
      (a.turn port).winner) z.last))
      ∷ (for_each (z.last + 1) (output_nets a z) ++ (for_each (z.last + 1) (grant_nets a z)
      ++ (wire (place_count z - 1) a.leaves ∷ assign a.leaves (cat (row_parts (λ port. net
      (a.granted port)) z.last)) ∷ [])))));
  moves =
      for_each (z.last + 1) (λ o. pointer_moves (a.choice o).pointer (a.choice o).winner z.last)
      ++ for_each (z.last + 1) (λ port. pointer_moves (a.turn port).pointer (a.granted port) z.channel);
}

-- ---- one channel at each port

-- an output chooses among its ready places as they are
abbrev pub lone_choice : SwitchNames → ℕ → RotateNames
lone_choice a o = record {
  request = a.ready o;
  pointer = (a.choice o).pointer;
  some = (a.choice o).some;
  winner = (a.choice o).winner;
}

-- what an output has, where it is there
abbrev pub lone_heads : SwitchNames → ℕ → (ℕ → Bool) → ℕ → List Item
lone_heads a last there o = if there o then (rotate_group (lone_choice a o) last).heads else []

-- what it chooses, where it is there
abbrev pub lone_nets : SwitchNames → ℕ → (ℕ → Bool) → ℕ → List Item
lone_nets a last there o = if there o then (rotate_group (lone_choice a o) last).nets else []

-- what moves its pointer, where it is there
abbrev pub lone_moves : SwitchNames → ℕ → (ℕ → Bool) → ℕ → List Item
lone_moves a last there o = if there o then (rotate_group (lone_choice a o) last).moves else []

-- the place that an output chose, where it is there
abbrev pub chosen_place : SwitchNames → ℕ → (ℕ → Bool) → ℕ → Expr
chosen_place a last there o = if there o then net (a.choice o).winner else in_bits (last + 1) 0

-- the switch of a domain with one channel at each port: a port has nothing to pick. last: one less than the ports;
-- there: whether the domain has the output
abbrev pub lone_switch_group : SwitchNames → ℕ → (ℕ → Bool) → Group
lone_switch_group a last there = record {
  heads = for_each (last + 1) (lone_heads a last there);
  nets = for_each (last + 1) (lone_nets a last there)
      ++ defined last a.leaves (or_upto last (chosen_place a last there));
  moves = for_each (last + 1) (lone_moves a last there);
}

-- the ready places of the outputs that are there are shown, and their pointers stand
pub record LoneIn (p : Plan) (d n : ℕ) (a : SwitchNames) (there : ℕ → Bool) (v : Values) (t : ℤ) (s : Tile)
    (i : TileIn) : Type 0 where
  pub one_channel : link_channels p d ≡ 1
  pub readies : (o : ℕ) → o < ports p → there o ≡ true → v.net (a.ready o) ≡ mask (ports p) (ready_for p d n t s i o)
  pub choices : (o : ℕ) → o < ports p → there o ≡ true → PointsTo (lone_choice a o) (ports p - 1) v (s.switch o)
  -- a stage names an output that is there
  pub outputs : (port c o w : ℕ) → s.stage port c ≡ Active o w → (o < ports p) × (there o ≡ true)

-- ---- more channels

-- the sizes are the plan's, the ready places are shown, and the pointers stand
pub record SwitchIn (p : Plan) (d n : ℕ) (a : SwitchNames) (z : SwitchSize) (v : Values) (t : ℤ) (s : Tile)
    (i : TileIn) : Type 0 where
  pub port_count : z.last + 1 ≡ ports p
  pub channel_count : z.channel + 1 ≡ link_channels p d
  pub readies : (o : ℕ) → o ≤ z.last → v.net (a.ready o) ≡ mask (place_count z) (ready_for p d n t s i o)
  pub turns : (port : ℕ) → port ≤ z.last → PointsTo (a.turn port) z.channel v (s.turn port)
  pub choices : (o : ℕ) → o ≤ z.last → PointsTo (a.choice o) z.last v (s.switch o)
  -- a stage names an output that is there, and no place beyond a port's channels is ready
  pub outputs : (port c o w : ℕ) → s.stage port c ≡ Active o w → o ≤ z.last
  pub beyond : (port c : ℕ) → in_channels p d port ≤ c → is_ready p d n t s i port c ≡ false
  pub few : (port : ℕ) → in_channels p d port ≤ link_channels p d
