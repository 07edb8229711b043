-- What goes through the crossbar of a tile, and beside it what the definition sends.
use Rattle.std.specs.Prelude.{◌≡◌, ◌≢◌, ◌⊎◌, ℕ, ◌<◌, List, length, Option, Some, None, option_map, slice_get, slice_set, slice_index_or, ℤ}
use Rattle.noc_model.specs.declared.Flit.{Flit}
use Rattle.noc_model.specs.declared.LinkFlit.{LinkFlit}
use Rattle.noc_model.specs.declared.Grant.{Grant}
use Rattle.noc_model.specs.Plan.{Plan, ports, in_channels, at_local}
use Rattle.noc_model.specs.Place.{owner}
use Rattle.noc_model.specs.Inputs.{place, input_count}
use Rattle.noc_model.specs.Tile.{Tile, TileIn}
use Rattle.noc_model.specs.Step.{front, grant, sent, with_channel}
use Rattle.vc_partition.specs.Lanes.{lane}

module _ {T : Type 0} where
  -- the lanes have a place for each port of each domain
  abbrev pub HavePorts : Plan → List (List T) → Type 0
  HavePorts p v = (d : ℕ) → d < length p.domains → (d < length v) × (length (lane v d) ≡ ports p)

  -- the lanes have a place for each input of each domain
  abbrev pub HaveInputs : Plan → List (List T) → Type 0
  HaveInputs p v = (d : ℕ) → d < length p.domains → (d < length v) × (length (lane v d) ≡ input_count p d)

-- a port of a domain
abbrev pub IsInput : Plan → ℕ → ℕ → Type 0
IsInput p d port = (d < length p.domains) × (port < ports p)

-- the input port of domain d is granted this
abbrev pub IsGranted : List (List (Option Grant)) → ℕ → ℕ → Grant → Type 0
IsGranted grants d port g = slice_get (lane grants d) port ≡ Some (Some g)

-- grants are to channels and outputs of the plan
abbrev pub AreWithin : Plan → List (List (Option Grant)) → Type 0
AreWithin p grants = (d port : ℕ) (g : Grant) → IsInput p d port → IsGranted grants d port g
    → (g.out < ports p) × (g.channel < in_channels p d port)

-- no link is granted twice, over all domains, and no domain's local output
pub record AreSingle (p : Plan) (grants : List (List (Option Grant))) : Type 0 where
  pub link : (d e port port' : ℕ) (g g' : Grant) → IsInput p d port → IsInput p e port'
      → IsGranted grants d port g → IsGranted grants e port' g' → g.out ≢ 0 → g.out ≡ g'.out
      → (d ≡ e) × (port ≡ port')
  pub local : (d port port' : ℕ) (g g' : Grant) → IsInput p d port → IsInput p d port'
      → IsGranted grants d port g → IsGranted grants d port' g' → g.out ≡ 0 → g'.out ≡ 0
      → port ≡ port'

-- the front flit of the input that was granted
abbrev pub flit_of : Plan → List (List (Option Flit)) → ℕ → ℕ → Grant → Option Flit
flit_of p fronts d port g = slice_index_or (lane fronts d) (place p d port g.channel) None

-- the links, where a granted flit is moved to its output
abbrev pub linked : Grant → Option Flit → List (Option LinkFlit) → List (Option LinkFlit)
linked g f links = at_local g.out links (slice_set links g.out (with_channel g.to f))

-- the ejection places then
abbrev pub ejected : ℕ → Grant → Option Flit → List (Option Flit) → List (Option Flit)
ejected d g f eject = at_local g.out (slice_set eject d f) eject

-- The flits of some input ports have been moved: where one is granted, its flit is at its output, with its channel
-- there; and all other entries are empty.
pub record HaveCrossed (Moved : ℕ → ℕ → Type 0) (p : Plan) (grants : List (List (Option Grant)))
    (fronts : List (List (Option Flit))) (links : List (Option LinkFlit)) (eject : List (Option Flit)) : Type 0 where
  pub link : (d port : ℕ) (g : Grant) → Moved d port → IsGranted grants d port g → g.out ≢ 0
      → slice_get links g.out ≡ Some (with_channel g.to (flit_of p fronts d port g))
  pub no_link : (o : ℕ) → o < ports p
      → ((d port : ℕ) (g : Grant) → Moved d port → IsGranted grants d port g → g.out ≢ 0 → g.out ≢ o)
      → slice_get links o ≡ Some None
  pub local : (d port : ℕ) (g : Grant) → Moved d port → IsGranted grants d port g → g.out ≡ 0
      → slice_get eject d ≡ Some (flit_of p fronts d port g)
  pub no_local : (d : ℕ) → d < length p.domains
      → ((port : ℕ) (g : Grant) → Moved d port → IsGranted grants d port g → g.out ≢ 0)
      → slice_get eject d ≡ Some None

-- the ports of the domains below m, and those of domain m below q
abbrev pub IsBefore : Plan → ℕ → ℕ → ℕ → ℕ → Type 0
IsBefore p m q d port = IsInput p d port × ((d < m) ⊎ ((d ≡ m) × (port < q)))

-- the lists have, of each domain of tile n in cycle t, the grants and the front flits
pub record IsShown (p : Plan) (n : ℕ) (t : ℤ) (s : ℕ → Tile) (i : ℕ → TileIn) (grants : List (List (Option Grant)))
    (fronts : List (List (Option Flit))) : Type 0 where
  pub granted : (d port : ℕ) → IsInput p d port → slice_get (lane grants d) port ≡ Some (grant p d n t (s d) (i d) port)
  pub flit : (d port c : ℕ) → IsInput p d port → c < in_channels p d port
      → slice_get (lane fronts d) (place p d port c) ≡ Some (front ((s d).queue port c))

-- the flit without its channel
abbrev pub flit_alone : Option LinkFlit → Option Flit
flit_alone x = option_map (λ (y : LinkFlit). y.flit) x

-- each link has what the domain that owns it sends, and each ejection place what its domain sends there
pub record HaveSent (p : Plan) (n : ℕ) (t : ℤ) (s : ℕ → Tile) (i : ℕ → TileIn) (links : List (Option LinkFlit))
    (eject : List (Option Flit)) : Type 0 where
  pub link : (d o : ℕ) → d < length p.domains → o < ports p → o ≢ 0 → owner p n o t ≡ d
      → slice_get links o ≡ Some (sent p d n t (s d) (i d) o)
  pub local : (d : ℕ) → d < length p.domains → slice_get eject d ≡ Some (flit_alone (sent p d n t (s d) (i d) 0))
