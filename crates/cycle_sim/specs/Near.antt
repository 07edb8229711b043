-- The neighbours of all tiles, as a table.
use Rattle.std.specs.Prelude.{◌≡◌, ℕ, ◌*◌, ◌/◌, ◌%◌, List, Option, map}
use Rattle.std.specs.List.{range_with_len}
use Rattle.noc_model.specs.Plan.{Plan, tiles, ports}
use Rattle.noc_model.specs.Place.{neighbour}
use Rattle.cycle_sim.specs.declared.near.Near.{Near}

-- the tile at the other end of each link, by the number of the link
abbrev pub ends_of : Plan → List (Option ℕ)
ends_of p = map (λ k. neighbour p (k / ports p) (k % ports p)) (range_with_len 0 (tiles p * ports p))

-- the table is that of the plan
abbrev pub IsNear : Plan → Near → Type 0
IsNear p near = near.ends.items ≡ ends_of p
