-- The flits that enter a domain's network, that are delivered, and that are inside, at the places that there are.
use Rattle.std.specs.Prelude.{ℕ, zero, suc, Bool, true, List, [], ◌∷◌, ◌++◌, if◌then◌else◌, ◌&&◌, Option, Some, None, is_some, option_to_list, pos}
use Rattle.noc_model.specs.declared.Flit.{Flit}
use Rattle.noc_model.specs.declared.LinkFlit.{LinkFlit}
use Rattle.noc_model.specs.Plan.{Plan, tiles, ports, hosts, in_channels, at_local}
use Rattle.noc_model.specs.Place.{neighbour}
use Rattle.noc_model.specs.Tile.{Tile}
use Rattle.noc_model.specs.Step.{entry, word_in}
use Rattle.noc_model.specs.Run.{State, Input, fed, step}

-- the lists at 0, at 1 and so on, below n
abbrev pub gathered : ℕ → (ℕ → List Flit) → List Flit
gathered zero f = []
gathered (suc n) f = gathered n f ++ f n

-- the list, where it is there
abbrev pub where_there : Bool → List Flit → List Flit
where_there b fs = if b then fs else []

-- whether the port is local, or has a link
abbrev pub is_port : Plan → ℕ → ℕ → Bool
is_port p n port = at_local port true (is_some (neighbour p n port))

-- in the buffers of the tile's input channels
abbrev pub in_lists : Plan → ℕ → ℕ → Tile → List Flit
in_lists p d n s = gathered (ports p)
    (λ port. where_there (is_port p n port) (gathered (in_channels p d port) (s.queue port)))

-- the flit of a link register
abbrev pub flit_of : Option LinkFlit → List Flit
flit_of None = []
flit_of (Some x) = x.flit ∷ []

-- on the links that leave it
abbrev pub on_links : Plan → ℕ → Tile → List Flit
on_links p n s =
    gathered (ports p) (λ o. where_there (is_some (neighbour p n o)) (gathered p.stages (λ i. flit_of (s.row o i))))

-- in its ejection place
abbrev pub to_be_heard : Plan → ℕ → ℕ → Tile → List Flit
to_be_heard p d n s = where_there (hosts p n d) (option_to_list s.ejected)

-- at the tile
abbrev pub inside_tile : Plan → ℕ → ℕ → Tile → List Flit
inside_tile p d n s = in_lists p d n s ++ on_links p n s ++ to_be_heard p d n s

-- in the network
abbrev pub inside : Plan → ℕ → State → List Flit
inside p d s = gathered (tiles p) (λ n. inside_tile p d n (s n))

-- a word that is taken, and not dropped, enters as a flit
abbrev pub enters_at : Plan → ℕ → State → Input → ℕ → List Flit
enters_at p d s x n = where_there (hosts p n d)
    (option_to_list (entry p d (s n).packet (word_in p (s n) (fed p d s x n))))

-- the flit of a got event of the tile
abbrev pub delivered_at : Plan → ℕ → State → Input → ℕ → List Flit
delivered_at p d s x n = where_there (hosts p n d && x.hears n) (option_to_list (s n).ejected)

-- what enters in the cycles of these inputs, from cycle t and the state s on
abbrev pub entered : Plan → ℕ → ℕ → State → List Input → List Flit
entered p d t s [] = []
entered p d t s (x ∷ xs) = gathered (tiles p) (enters_at p d s x) ++ entered p d (suc t) (step p d (pos t) s x) xs

-- what is delivered in them at tile n
abbrev pub delivered_to : Plan → ℕ → ℕ → State → List Input → ℕ → List Flit
delivered_to p d t s [] n = []
delivered_to p d t s (x ∷ xs) n = delivered_at p d s x n ++ delivered_to p d (suc t) (step p d (pos t) s x) xs n

-- and at all tiles
abbrev pub delivered : Plan → ℕ → ℕ → State → List Input → List Flit
delivered p d t s xs = gathered (tiles p) (delivered_to p d t s xs)
