-- The switch of a domain: its outputs send, one after the other.
use Rattle.std.specs.Prelude.{◌≡◌, ◌≢◌, ℕ, ◌-◌, ◌<◌, ◌≤◌, ◌&&◌, nat_lt, true, false, not, List, length, drop, slice_index_or, slice_set, Option, Some, None, option_and_then, option_map, if◌then◌else◌, ℤ, pos}
use Rattle.noc_model.specs.declared.Flit.{Flit}
use Rattle.noc_model.specs.declared.LinkFlit.{LinkFlit}
use Rattle.noc_model.specs.declared.Grant.{Grant}
use Rattle.noc_model.specs.declared.Stage.TheVariants.{Idle}
use Rattle.noc_model.specs.Plan.{Plan, ports, link_channels, at_local}
use Rattle.noc_model.specs.Inputs.{place}
use Rattle.noc_model.specs.Tile.{Tile, TileIn}
use Rattle.noc_model.specs.Step.{front, is_tail, is_channel, is_on, is_tail_on, one_if, after, after_grant, with_channel, grant, chosen, sent}
use Rattle.noc_model.specs.Holder.{IsHolder}
use Rattle.noc_model.specs.SoundState.{HasOutput}
use Rattle.credit_links.specs.Counts.{count_at}
use Rattle.vc_alloc.specs.Allocator.{held_at}
use Rattle.slot_switch.specs.declared.Granted.{Granted}
use Rattle.slot_switch.specs.Switch.{switch_at, moved}
use Rattle.slot_switch.specs.Asked.{AsksAs}
use Rattle.router_core.specs.Heads.{front_of, placed}
use Rattle.router_core.specs.Parts.{Parts}
use Rattle.router_core.specs.Pulses.{ArePulses}
use Rattle.router_core.specs.Sends.{ends, passed_parts}
use Rattle.router_core.specs.Sizes.{IsMade}
use Rattle.router_core.specs.Shown.{Shows}

-- ---- one output

-- what is granted may go: there are its channels, a credit, and the output channel that it gives back
pub record CanPass (p : Plan) (d : ℕ) (r : Parts) (x : Granted) : Type 0 where
  pub port : x.port < ports p
  pub channel : x.grant.channel < link_channels p d
  pub output : x.grant.out < ports p
  pub to : x.grant.to < link_channels p d
  pub some : x.grant.out ≢ 0 → 0 < count_at r.credits d (place p d x.grant.out x.grant.to)
  pub held : ends r p d x.port x.grant ≡ true → held_at r.allocator d x.grant.out x.grant.to ≡ true

-- the router after output o sent what it granted
abbrev pub sent_parts : Parts → Plan → ℕ → ℕ → Option Granted → Parts
sent_parts r p d o None = r
sent_parts r p d o (Some x) = passed_parts (record r { switch = moved r.switch d o (Some x) }) p d x.port x.grant

-- the flit that it sent
abbrev pub sent_by : Parts → Plan → ℕ → Option Granted → Option LinkFlit
sent_by r p d x =
    option_and_then (λ (y : Granted). with_channel y.grant.to (front_of r.buffers d (place p d y.port y.grant.channel))) x

-- ---- all outputs

-- the tile after these grants, by which these flits left by the outputs, where the outputs chose these input ports
abbrev pub through : Tile → (ℕ → Option Grant) → (ℕ → Option LinkFlit) → (ℕ → Option ℕ) → Tile
through v grants flits chose = record v {
  queue = λ port c. drop (one_if (is_channel (grants port) c)) (v.queue port c);
  stage = λ port c. if is_channel (grants port) c && is_tail (front (v.queue port c)) then Idle else v.stage port c;
  pulse = λ port c. at_local port false (is_channel (grants port) c);
  held = λ o w. v.held o w && not (is_tail_on (flits o) w);
  credits = λ o w. v.credits o w - one_if (is_on (flits o) w);
  switch = λ o. after (chose o) (v.switch o);
  turn = λ port. after_grant (grants port) (v.turn port);
}

-- the grant, if it is of an output below o
abbrev pub under : ℕ → Option Grant → Option Grant
under o None = None
under o (Some g) = if nat_lt g.out o then Some g else None

-- what is for an output q below o
abbrev pub until : {T : Type 0} → ℕ → (ℕ → Option T) → ℕ → Option T
until o f q = if nat_lt q o then f q else None

-- the tile after the outputs below o sent what the definition sends of the tile s
abbrev pub crossed_below : ℕ → Plan → ℕ → ℕ → ℤ → Tile → TileIn → Tile → Tile
crossed_below o p d n t s i v =
    through v (λ port. under o (grant p d n t s i port)) (until o (sent p d n t s i)) (until o (chosen p d n t s i))

-- the tile after its heads were placed, and its flits sent
abbrev pub switched : Plan → ℕ → ℕ → ℤ → Tile → TileIn → Tile
switched p d n t s i = through (placed p d n s) (grant p d n t s i) (sent p d n t s i) (chosen p d n t s i)

-- the router shows the tile v, and its ports ask for what the tile s asks for in cycle t, whose flits and credits v has
pub record IsSending (p : Plan) (d : ℕ) (r : Parts) (s v : Tile) (t : ℕ) (i : TileIn) : Type 0 where
  pub shows : Shows r p d v
  pub quiet : (port c : ℕ) → v.pulse port c ≡ false
  pub asks : AsksAs r.switch p d r.tile (pos t) s i
  pub queue : (port c : ℕ) → port < ports p → c < link_channels p d → v.queue port c ≡ s.queue port c
  pub credits : (o w : ℕ) → v.credits o w ≡ s.credits o w
  pub switch : (o : ℕ) → v.switch o ≡ s.switch o
  pub held : (o w port c : ℕ) → IsHolder p d s o w port c → v.held o w ≡ true
  pub outs : (port c : ℕ) → port < ports p → c < link_channels p d → HasOutput p d r.tile (s.stage port c)

-- the router can send
pub record CanSend (p : Plan) (d : ℕ) (r : Parts) : Type 0 where
  pub tile : Tile
  pub placed : Tile
  pub cycle : ℕ
  pub inputs : TileIn
  pub sending : IsSending p d r tile placed cycle inputs

-- a flit takes the place of what was there
abbrev pub laid : Option LinkFlit → Option LinkFlit → Option LinkFlit
laid None old = old
laid (Some x) old = Some x

-- the flit of what goes out, without its channel
abbrev pub flit_of : Option LinkFlit → Option Flit
flit_of x = option_map (λ (y : LinkFlit). y.flit) x

-- what lies at output o
abbrev pub laid_at : List (Option LinkFlit) → ℕ → Option LinkFlit
laid_at links o = slice_index_or links o None

-- the links where a flit, if there is one, was laid at output o
abbrev pub laid_on : List (Option LinkFlit) → ℕ → Option LinkFlit → List (Option LinkFlit)
laid_on links o None = links
laid_on links o (Some x) = slice_set links o (Some x)

-- from the router r and the links xs on, the outputs of domain d below o have sent
pub record SendsBelow (o : ℕ) (p : Plan) (d : ℕ) (r q : Parts) (xs ys : List (Option LinkFlit)) : Type 0 where
  pub made : IsMade q p
  pub rest : q ≡ record r { buffers = q.buffers; stages = q.stages; pulses = q.pulses; allocator = q.allocator; switch = q.switch; credits = q.credits }
  pub asks : q.switch.asks ≡ r.switch.asks
  pub ahead : (k : ℕ) → o ≤ k → switch_at q.switch d k ≡ switch_at r.switch d k
  pub best : q.allocator.best ≡ r.allocator.best
  pub kept : ArePulses p r.pulses → ArePulses p q.pulses
  pub links : length ys ≡ length xs
  pub own : (s v : Tile) (t : ℕ) (i : TileIn) → IsSending p d r s v t i
      → Shows q p d (crossed_below o p d r.tile (pos t) s i v)
  pub others : (e : ℕ) (s : Tile) → e ≢ d → Shows r p e s → Shows q p e s
  pub sent : (s v : Tile) (t : ℕ) (i : TileIn) (k : ℕ) → IsSending p d r s v t i → k < ports p
      → laid_at ys k ≡ laid (until o (sent p d r.tile (pos t) s i) k) (laid_at xs k)
