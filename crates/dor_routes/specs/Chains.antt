-- Channels that packets hold while they wait for others.
use Rattle.std.specs.Prelude.{◌≡◌, ℕ, List, [], ◌∷◌, Some}
use Rattle.noc_model.specs.Plan.{Plan}
use Rattle.noc_model.specs.Place.{neighbour, rank}
use Rattle.noc_model.specs.Walk.{Stop, stop_at, next_stop, out_of, out_class}

-- the channels of a class on the link that leaves a tile by an output
pub record Channel : Type 0 where
  pub tile : ℕ
  pub out : ℕ
  pub class : ℕ

-- the rank of a channel, which rises along every route
abbrev pub channel_rank : Plan → Channel → ℕ
channel_rank p c = rank p c.tile c.out c.class

-- what a packet for dest takes at a stop
abbrev pub taken_at : Plan → ℕ → Stop → Channel
taken_at p dest s = record { tile = s.tile; out = out_of p dest s; class = out_class p dest s }

-- a packet that holds one may wait for the other: some route from a local port takes them one after the other
pub record MayWait (p : Plan) (a b : Channel) : Type 0 where
  pub dest : ℕ
  pub from : ℕ
  pub steps : ℕ
  pub beyond : ℕ
  pub here : Stop
  pub there : Stop
  pub reached : stop_at p dest from steps ≡ Some here
  pub next : next_stop p dest here ≡ Some there
  pub link : neighbour p there.tile (out_of p dest there) ≡ Some beyond
  pub holds : a ≡ taken_at p dest here
  pub wants : b ≡ taken_at p dest there

-- each waits for the next one
abbrev pub Chain : Plan → Channel → List Channel → Channel → Type 0
Chain p a [] b = MayWait p a b
Chain p a (c ∷ cs) b = MayWait p a c × Chain p c cs b
