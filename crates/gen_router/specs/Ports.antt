-- The ports of a leaf, in parts.
use Rattle.std.specs.Prelude.{ℕ, zero, suc, ◌-◌, ◌==◌, nat_lt, min, true, false, List, [], ◌∷◌, ◌++◌, flat_map, filter, is_some, if◌then◌else◌, codes}
use Rattle.vl_tree.specs.declared.tree.Port.{Port}
use Rattle.vl_tree.specs.Values.{Name, Leaf}
use Rattle.flit_word.specs.Words.{link_bits}
use Rattle.noc_model.specs.declared.Host.{Host}
use Rattle.noc_model.specs.Plan.{Plan}
use Rattle.noc_model.specs.Place.{neighbour}
use Rattle.gen_kit.specs.Ports.{name_with, host_ports}
use Rattle.gen_kit.specs.Shape.{credit_bits}

-- the leaf with more ports behind its own
abbrev pub with_ports : Leaf → List Port → Leaf
with_ports l ps = record { name = l.name; ports = l.ports ++ ps; items = l.items }

-- a port of the tile, of h + 1 bits
abbrev pub ins : List ℕ → ℕ → ℕ → ℕ → Port
ins head h n k = record { output = false; high = h; name = name_with head (n ∷ k ∷ []) }

-- a port out of the tile, of h + 1 bits
abbrev pub outs : List ℕ → ℕ → ℕ → ℕ → Port
outs head h n k = record { output = true; high = h; name = name_with head (n ∷ k ∷ []) }

-- what an attachment offers, and whether it hears
abbrev pub offer_ports : ℕ → ℕ → List Port
offer_ports n d = ins (codes "ov") 0 n d ∷ ins (codes "oa") 31 n d ∷ ins (codes "op") 31 n d ∷ ins (codes "ol") 0 n d
    ∷ ins (codes "hr") 0 n d ∷ []

-- what it is shown
abbrev pub ejection_ports : ℕ → ℕ → List Port
ejection_ports n d = outs (codes "rd") 0 n d ∷ outs (codes "dr") 0 n d ∷ outs (codes "ev") 0 n d
    ∷ outs (codes "eh") 0 n d ∷ outs (codes "et") 0 n d ∷ outs (codes "ep") 31 n d ∷ []

-- the ports of the hosts that are of the tile
abbrev pub tile_hosts : ℕ → List Host → List Port
tile_hosts n hs = flat_map host_ports (filter (λ (h : Host). h.tile == n) hs)

-- a link's words and credits, all of them or the first 64
abbrev pub first_ports : Plan → ℕ → ℕ → List Port
first_ports p n o = ins (codes "li") (link_bits p - 1) n o ∷ outs (codes "lo") (link_bits p - 1) n o
    ∷ ins (codes "ci") (min (credit_bits p) 64 - 1) n o ∷ outs (codes "co") (min (credit_bits p) 64 - 1) n o ∷ []

-- its other credits
abbrev pub second_ports : Plan → ℕ → ℕ → List Port
second_ports p n o =
    record { output = false; high = credit_bits p - 64 - 1; name = name_with (codes "ci") (n ∷ o ∷ 1 ∷ []) }
    ∷ record { output = true; high = credit_bits p - 64 - 1; name = name_with (codes "co") (n ∷ o ∷ 1 ∷ []) }
    ∷ []

-- where there are any
abbrev pub other_ports : Plan → ℕ → ℕ → List Port
other_ports p n o = if nat_lt 64 (credit_bits p) then second_ports p n o else []

-- the ports of a link, where there is one
abbrev pub link_ports : Plan → ℕ → ℕ → List Port
link_ports p n o = if is_some (neighbour p n o)
    then first_ports p n o ++ other_ports p n o
    else []

-- those of the links by the outputs below k
abbrev pub tile_links : Plan → ℕ → ℕ → List Port
tile_links p n zero = []
tile_links p n (suc k) = tile_links p n k ++ link_ports p n k
