-- The owner table: who owns each link in each cycle.
use Rattle.std.specs.Prelude.{ℕ, List, [], ◌∷◌, ◌++◌, is_some, if◌then◌else◌, pos}
use Rattle.noc_model.specs.Plan.{Plan, tiles, ports, name_of}
use Rattle.noc_model.specs.Place.{neighbour, owner}
use Rattle.surf_cli.specs.Texts.{texts_below, field}

-- a line: cycle, tile, port and a name
abbrev pub link_line : ℕ → ℕ → ℕ → List ℕ → List ℕ
link_line t n port name = field t ++ field n ++ field port ++ name ++ 10 ∷ []

-- the line of a link, with the name of its owner
abbrev pub owner_line : Plan → ℕ → ℕ → ℕ → List ℕ
owner_line p t n port = link_line t n port (name_of p (owner p n port (pos t)))

-- only a port with a link has a line
unfoldable pub port_text : Plan → ℕ → ℕ → ℕ → List ℕ
port_text p t n port = if is_some (neighbour p n port) then owner_line p t n port else []

-- the lines of tile n in a cycle
unfoldable pub tile_text : Plan → ℕ → ℕ → List ℕ
tile_text p t n = texts_below (ports p) (port_text p t n)

-- the lines of a cycle
unfoldable pub cycle_text : Plan → ℕ → List ℕ
cycle_text p t = texts_below (tiles p) (tile_text p t)

-- the owner table of the cycles 0 to cycles - 1
unfoldable pub schedule_text : Plan → ℕ → List ℕ
schedule_text p cycles = texts_below cycles (cycle_text p)
