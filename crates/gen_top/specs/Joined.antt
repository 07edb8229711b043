-- The wires of the top and the joins of an instance, in parts.
use Rattle.std.specs.Prelude.{ℕ, ◌-◌, ◌==◌, nat_lt, List, [], ◌∷◌, map, filter, flat_map, if◌then◌else◌, codes}
use Rattle.vl_tree.specs.declared.tree.Join.{Join}
use Rattle.vl_tree.specs.declared.tree.TopItem.{TopItem}
use Rattle.vl_tree.specs.declared.tree.TopItem.TheVariants.{Wire}
use Rattle.noc_model.specs.declared.Host.{Host}
use Rattle.noc_model.specs.Plan.{Plan}
use Rattle.noc_model.specs.Place.{neighbour, opposite}
use Rattle.noc_model.specs.Events.{tabulate}
use Rattle.gen_kit.specs.Ports.{name_with}
use Rattle.gen_kit.specs.Shape.{Tied, credit_bits, host_ties, second_ties, link_ties, link_wires}

-- the numbers below k
abbrev pub below : ℕ → List ℕ
below k = tabulate k (λ n. n)

-- the wires for the credits of a link behind the first 64
abbrev pub more_wires : Plan → ℕ → ℕ → List TopItem
more_wires p n q =
    if nat_lt 64 (credit_bits p)
    then Wire (credit_bits p - 64 - 1) (name_with (codes "cw") (n ∷ q ∷ 1 ∷ [])) ∷ []
    else []

-- the wires for the links that leave a tile by the ports below k
abbrev pub wires_below : Plan → ℕ → ℕ → List TopItem
wires_below p n k = flat_map (λ q. link_wires p n q (neighbour p n q)) (below k)

-- what an instance joins for these ties
abbrev pub joins_of : List Tied → List Join
joins_of ts = map (λ (t : Tied). record { port = t.port.name; net = t.net }) ts

-- the ties of those attachments that are of the tile
abbrev pub hosts_at : ℕ → List Host → List Tied
hosts_at n hs = flat_map host_ties (filter (λ (h : Host). h.tile == n) hs)

-- the ties for the credits behind the first 64
abbrev pub more_ties : Plan → ℕ → ℕ → ℕ → List Tied
more_ties p n q m = if nat_lt 64 (credit_bits p) then second_ties p n q m (opposite q) else []

-- the ties of the links by the ports below k
abbrev pub ties_below : Plan → ℕ → ℕ → List Tied
ties_below p n k = flat_map (λ q. link_ties p n q (neighbour p n q)) (below k)
