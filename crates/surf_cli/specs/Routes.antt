-- The table of routes: how a packet leaves each tile for each tile.
use Rattle.std.specs.Prelude.{ℕ, List, [], ◌∷◌, ◌++◌, decimal}
use Rattle.noc_model.specs.Plan.{Plan, tiles}
use Rattle.noc_model.specs.Place.{route, class_after}
use Rattle.surf_cli.specs.Texts.{texts_below, field}

-- a line: two tiles, port and class
abbrev pub route_line : ℕ → ℕ → ℕ → ℕ → List ℕ
route_line n dest port class = field n ++ field dest ++ field port ++ (decimal class ++ 10 ∷ [])

-- the port by which a packet leaves tile n for dest, and the class of that output for one that enters the network at n
unfoldable pub route_text : Plan → ℕ → ℕ → List ℕ
route_text p n dest = route_line n dest (route p n dest) (class_after p n 0 0 (route p n dest))

-- the lines of the routes that begin at tile n
unfoldable pub routes_from : Plan → ℕ → List ℕ
routes_from p n = texts_below (tiles p) (route_text p n)

-- the routes from each tile to each tile
unfoldable pub routes_text : Plan → List ℕ
routes_text p = texts_below (tiles p) (routes_from p)
