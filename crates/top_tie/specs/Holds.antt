-- What a leaf must be to hold the tile parts of all domains: its items, its names, its ports.
use Rattle.std.specs.Prelude.{◌≡◌, ℕ, ◌+◌, ◌-◌, ◌<◌, true, List, [], ◌∷◌, ◌++◌, ◌⊎◌, length, min, nat_lt, if◌then◌else◌, Some, codes}
use Rattle.vl_tree.specs.Values.{Name, Leaf, Design}
use Rattle.vl_model.specs.Leaf.{leaf_widths}
use Rattle.vl_model.specs.Lines.{leaf_named}
use Rattle.noc_model.specs.Plan.{Plan, link_channels, hosts, tiles}
use Rattle.gen_kit.specs.Groups.{Group, all_items}
use Rattle.gen_kit.specs.Ports.{name_with, host_name}
use Rattle.gen_kit.specs.Shape.{credit_bits}
use Rattle.gen_kit.specs.Replayed.{host_of}
use Rattle.gen_kit.specs.Work.{leaf_name}
use Rattle.leaf_tie.specs.Buffers.{BufferSize}
use Rattle.leaf_tie.specs.Tie.{LeafNames, PortNames, HasLink}
use Rattle.leaf_tie.specs.Glue.{NetNames, GlueFits}
use Rattle.leaf_tie.specs.Names.{bundle_name}
use Rattle.leaf_tie.specs.Outs.{OutNames, link_out_group, local_out_group, credit_out_group}
use Rattle.leaf_tie.specs.Whole.{leaf_groups, Joined}

-- ---- what the leaves of a text have in common

-- how many bits registers, pointers and words have, and how the credits of a link are numbered
pub record TextSizes : Type 0 where
  pub buffer : BufferSize
  pub slot_high : ℕ
  pub dest_bits : ℕ
  pub link_flit : ℕ
  pub link_channel : ℕ
  -- the number of a domain's first credit
  pub base : ℕ → ℕ
  -- of which domain and channel a credit is
  pub domain : ℕ → ℕ
  pub channel : ℕ → ℕ

-- the sizes are enough for the plan, and each credit of a link has its own number
pub record FitsPlan (p : Plan) (z : TextSizes) : Type 0 where
  pub glue : GlueFits p z.buffer z.slot_high z.dest_bits z.link_flit z.link_channel
  pub below : (d x : ℕ) → d < length p.domains → x < link_channels p d → z.base d + x < credit_bits p
  pub domain : (d x : ℕ) → d < length p.domains → x < link_channels p d → z.domain (z.base d + x) ≡ d
  pub channel : (d x : ℕ) → d < length p.domains → x < link_channels p d → z.channel (z.base d + x) ≡ x

-- ---- names

-- the names of a leaf: registers and memories, other nets, and ports
pub record TileNames : Type 0 where
  pub kept : LeafNames
  pub nets : NetNames
  pub ports : PortNames
  pub outs : OutNames

-- the bit of credit r in its bundle
abbrev pub bundle_bit : ℕ → ℕ
bundle_bit r = if nat_lt r 64 then r else r - 64

-- the ports are those of a plan's text
pub record AreShapePorts (p : Plan) (n : ℕ) (q : PortNames) (out : OutNames) : Type 0 where
  pub link_in : (o : ℕ) → HasLink p n o → q.link_in o ≡ name_with (codes "li") (n ∷ o ∷ [])
  pub link_out : (o : ℕ) → HasLink p n o → out.link_out o ≡ name_with (codes "lo") (n ∷ o ∷ [])
  pub credit_in : (o r : ℕ) → HasLink p n o → r < credit_bits p → q.credit_in o r ≡ bundle_name (codes "ci") n o r
  pub credit_bit : (r : ℕ) → r < credit_bits p → q.credit_bit r ≡ bundle_bit r
  pub offered : (d : ℕ) → hosts p n d ≡ true → q.offered d ≡ host_name (codes "ov") (host_of d n)
  pub address : (d : ℕ) → hosts p n d ≡ true → q.address d ≡ host_name (codes "oa") (host_of d n)
  pub payload : (d : ℕ) → hosts p n d ≡ true → q.payload d ≡ host_name (codes "op") (host_of d n)
  pub last : (d : ℕ) → hosts p n d ≡ true → q.last d ≡ host_name (codes "ol") (host_of d n)
  pub hears : (d : ℕ) → hosts p n d ≡ true → q.hears d ≡ host_name (codes "hr") (host_of d n)
  pub ready : (d : ℕ) → hosts p n d ≡ true → out.ready d ≡ host_name (codes "rd") (host_of d n)
  pub drop : (d : ℕ) → hosts p n d ≡ true → out.drop d ≡ host_name (codes "dr") (host_of d n)
  pub valid : (d : ℕ) → hosts p n d ≡ true → out.valid d ≡ host_name (codes "ev") (host_of d n)
  pub head : (d : ℕ) → hosts p n d ≡ true → out.head d ≡ host_name (codes "eh") (host_of d n)
  pub tail : (d : ℕ) → hosts p n d ≡ true → out.tail d ≡ host_name (codes "et") (host_of d n)
  pub word : (d : ℕ) → hosts p n d ≡ true → out.payload d ≡ host_name (codes "ep") (host_of d n)

-- ---- the leaf

-- the group that gives out the bundle with credit r
abbrev pub bundle_group : Plan → ℕ → TextSizes → LeafNames → ℕ → ℕ → Group
bundle_group p n z kept port r =
    if nat_lt r 64
    then credit_out_group kept (name_with (codes "co") (n ∷ port ∷ [])) port 0 (min (credit_bits p) 64) z.domain
    z.channel
    else credit_out_group kept (name_with (codes "co") (n ∷ port ∷ 1 ∷ [])) port 64 (credit_bits p - 64) z.domain
    z.channel

-- the group is one of these
abbrev pub IsAmong : List Group → Group → Type 0
IsAmong [] g = ⊥
IsAmong (x ∷ xs) g = (x ≡ g) ⊎ IsAmong xs g

-- the items of the leaf are those of all groups of its tile, and of others that give the output ports
pub record HoldsTile (p : Plan) (n : ℕ) (z : TextSizes) (l : Leaf) : Type 0 where
  pub names : TileNames
  pub others : List Group
  pub items : l.items ≡ all_items (leaf_groups p n names.kept names.nets names.ports z.base z.buffer z.slot_high
      z.dest_bits z.link_flit z.link_channel ++ others)
  pub joined : Joined p n names.kept names.nets names.ports (leaf_widths l)
  pub named : AreShapePorts p n names.ports names.outs
  -- ports of one bit
  pub offered : (d : ℕ) → hosts p n d ≡ true → (leaf_widths l).net (names.ports.offered d) ≡ 1
  pub hears : (d : ℕ) → hosts p n d ≡ true → (leaf_widths l).net (names.ports.hears d) ≡ 1
  pub links : (o : ℕ) → HasLink p n o → IsAmong others (link_out_group p names.kept names.outs o)
  pub credits : (o r : ℕ) → HasLink p n o → r < credit_bits p → IsAmong others (bundle_group p n z names.kept o r)
  pub locals : (d : ℕ) → d < length p.domains → hosts p n d ≡ true
      → IsAmong others (local_out_group p names.kept names.nets names.outs z.buffer z.dest_bits d)

-- each leaf of the design that has a tile's name holds that tile
abbrev pub HoldsTiles : Plan → TextSizes → Design → Type 0
HoldsTiles p z d = (n : ℕ) (l : Leaf) → n < tiles p → leaf_named d.leaves (leaf_name n) ≡ Some l → HoldsTile p n z l
