-- What the laws say.
use Rattle.std.specs.Prelude.{◌≡◌, ◌+◌, ◌/◌, ◌%◌, ◌^◌, ◌<◌, ℕ, length, List, [], ◌∷◌, Some, None, codes}
use Rattle.vl_tree.specs.declared.fault.TextFault.TheVariants.{NameTwice, Driver, Instance}
use Rattle.vl_tree.specs.Values.{Design}
use Rattle.vl_model.specs.Lines.{leaf_lines, module_sites, leaf_named}
use Rattle.vl_model.specs.Leaf.{leaf_widths, IsLeafRun}
use Rattle.vl_model.specs.Meaning.{Values, one_if}
use Rattle.vl_model.specs.Rules.{Rule, first_fault_of, name_twice, wrong_driver, wrong_joins, IsSoundLeaf, IsSound as IsSoundDesign}
use Rattle.noc_model.specs.Plan.{Plan, tiles, link_channels}
use Rattle.noc_model.specs.Sound.{IsSound}
use Rattle.noc_model.specs.Tile.{TileIn}
use Rattle.flit_word.specs.Words.{dest_bits, channel_bits, flit_bits}
use Rattle.gen_kit.specs.Work.{leaf_name}
use Rattle.leaf_tie.specs.Glue.{GlueFits, state_at, rows_at}
use Rattle.leaf_tie.specs.Names.{leaf_names, net_names, port_names, out_names, bundle_name, credit_base, leaf_sizes, slot_high, leaf_module}
use Rattle.leaf_tie.specs.Outs.{LeafOut}
use Rattle.leaf_tie.specs.Tie.{HasLink, LeafIn, LeafTie}
use Rattle.leaf_tie.specs.Whole.{Joined}

-- The sizes of a leaf are enough for its plan.
abbrev pub SizesMeet : Type 0
SizesMeet = (p : Plan) → IsSound p → GlueFits p (leaf_sizes p) (slot_high p) (dest_bits p) (flit_bits p)
    (channel_bits p)

-- the rules on names: each is declared once, what wants a driver has one, and instances join each port once
abbrev pub name_rules : List Rule
name_rules = (NameTwice, name_twice) ∷ (Driver, wrong_driver) ∷ (Instance, wrong_joins) ∷ []

-- A leaf keeps the rules on names.
abbrev pub NamesKept : Type 0
NamesKept = (p : Plan) (n : ℕ) → IsSound p → n < tiles p
    → first_fault_of name_rules (module_sites [] (leaf_lines (leaf_module p n))) ≡ None

-- The names of a leaf are joined as its groups ask for.
abbrev pub NamesJoined : Type 0
NamesJoined = (p : Plan) (n : ℕ) → IsSound p → n < tiles p
    → Joined p n leaf_names net_names (port_names n) (leaf_widths (leaf_module p n))

-- The leaf of each tile of a sound plan is sound.
abbrev pub LeafSound : Type 0
LeafSound = (p : Plan) (n : ℕ) → IsSound p → n < tiles p → IsSoundLeaf (leaf_module p n)

-- the registers of the tile's leaf hold the tile parts of all domains in cycle t, and its output ports show what they
-- give out: the words of links, the ejection places, drop pulses and ready bits, and the credits of each channel
pub record ModuleHolds (p : Plan) (n : ℕ) (v : ℕ → Values) (i : ℕ → ℕ → TileIn) (t : ℕ) : Type 0 where
  pub tie : LeafTie p n leaf_names (leaf_sizes p) (dest_bits p) (flit_bits p) (channel_bits p) (v t) t
      (state_at p n i t) (rows_at p n i t)
  pub outs : LeafOut p n (out_names n) (dest_bits p) (flit_bits p) (channel_bits p) (v t) (state_at p n i t)
      (rows_at p n i t)
  pub credits : (d port x : ℕ) → d < length p.domains → HasLink p n port → x < link_channels p d
      → (v t).net (bundle_name (codes "co") n port (credit_base p d + x)) / 2 ^ (port_names n).credit_bit
      (credit_base p d + x) % 2 ≡ one_if ((state_at p n i t d).pulse port x)

-- In a sound design with the leaf of the tile, each run of the leaf does so in every cycle, where its input ports show
-- what comes to the tile.
abbrev pub ModuleRun : Type 0
ModuleRun = (p : Plan) (n : ℕ) (design : Design) (v : ℕ → Values) (i : ℕ → ℕ → TileIn) → IsSound p → n < tiles p
    → IsSoundDesign design → leaf_named design.leaves (leaf_name n) ≡ Some (leaf_module p n)
    → IsLeafRun (leaf_module p n) v
    → ((t : ℕ) → LeafIn p n (port_names n) (credit_base p) (dest_bits p) (flit_bits p) (channel_bits p) (v t) t
    (state_at p n i t) (i t))
    → (t : ℕ) → ModuleHolds p n v i t
