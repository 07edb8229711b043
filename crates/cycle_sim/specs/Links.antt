-- What comes to a tile over its links.
use Rattle.std.specs.Prelude.{◌≡◌, ℕ, ◌+◌, ◌*◌, ◌<◌, ◌==◌, nat_lt, List, [], ◌++◌, Option, Some, None, if◌then◌else◌, slice_index_or, pos, ◌-ℤ◌}
use Rattle.noc_model.specs.declared.LinkFlit.{LinkFlit}
use Rattle.noc_model.specs.Plan.{Plan, ports, link_channels}
use Rattle.noc_model.specs.Place.{neighbour, opposite, owner}
use Rattle.noc_model.specs.Tile.{Tile, TileIn}
use Rattle.noc_model.specs.Step.{flit_on, one_if}
use Rattle.credit_links.specs.Rows.{last_place}
use Rattle.router_core.specs.declared.attachments.Told.{Told}
use Rattle.router_core.specs.Pulses.{pulse_at, is_pulse}

-- the registers of all links, by the number of the link that leaves tile n by the port
abbrev pub link_number : Plan → ℕ → ℕ → ℕ
link_number p n port = n * ports p + port

-- the registers of the link that leaves tile n by the port
abbrev pub row_of : Plan → List (List (Option LinkFlit)) → ℕ → ℕ → List (Option LinkFlit)
row_of p rows n port = slice_index_or rows (link_number p n port) []

-- what comes off the link from a neighbour, where the domain owned the link when it went on
abbrev pub arrival_from : Plan → ℕ → ℕ → List (List (Option LinkFlit)) → ℕ → Option ℕ → Option LinkFlit
arrival_from p d t rows port None = None
arrival_from p d t rows port (Some m) =
    if owner p m (opposite port) (pos t -ℤ pos p.stages) == d then last_place (row_of p rows m (opposite port)) else None

-- the flit of domain d that arrives at tile n by the port in cycle t
abbrev pub arrival_at : Plan → ℕ → ℕ → ℕ → List (List (Option LinkFlit)) → ℕ → Option LinkFlit
arrival_at p d n t rows port = arrival_from p d t rows port (neighbour p n port)

-- the credit pulses of a tile
abbrev pub pulses_of : List (List (List (Option ℕ))) → ℕ → List (List (Option ℕ))
pulses_of pulses m = slice_index_or pulses m []

-- the channel that a neighbour has a credit pulse for
abbrev pub credit_from : ℕ → List (List (List (Option ℕ))) → ℕ → Option ℕ → Option ℕ
credit_from d pulses port None = None
credit_from d pulses port (Some m) = pulse_at (pulses_of pulses m) d (opposite port)

-- the channel of domain d for which a credit comes back at tile n by the port
abbrev pub credit_at : Plan → ℕ → ℕ → List (List (List (Option ℕ))) → ℕ → Option ℕ
credit_at p d n pulses port = credit_from d pulses port (neighbour p n port)

-- the tile where this flit, if it is one, has arrived by the port
abbrev pub arrived : ℕ → Option LinkFlit → Tile → Tile
arrived port x s = record s { queue = λ q c. if q == port then s.queue q c ++ flit_on x c else s.queue q c }

-- the tile where a credit has come back by the port for this channel, if it is one
abbrev pub returned : ℕ → Option ℕ → Tile → Tile
returned port x s = record s { credits = λ o w. if o == port then s.credits o w + one_if (is_pulse x w) else s.credits o w }

-- the tile where these flits have arrived by the ports below k
abbrev pub received : (ℕ → Option LinkFlit) → ℕ → Tile → Tile
received x k s = record s {
  queue = λ port c. if nat_lt port k then s.queue port c ++ flit_on (x port) c else s.queue port c;
}

-- the tile where these credits have come back by the ports below k
abbrev pub repaid : (ℕ → Option ℕ) → ℕ → Tile → Tile
repaid x k s = record s {
  credits = λ o w. if nat_lt o k then s.credits o w + one_if (is_pulse (x o) w) else s.credits o w;
}

-- what comes into tile n for domain d: the flits from the last registers, the credits of the pulses, and what the
-- outside does
pub record ComesIn (p : Plan) (d n t : ℕ) (rows : List (List (Option LinkFlit))) (pulses : List (List (List (Option ℕ))))
    (told : Told) (i : TileIn) : Type 0 where
  pub arrives : (port : ℕ) → i.arrives port ≡ arrival_at p d n t rows port
  pub returns : (o w : ℕ) → w < link_channels p d → i.returns o w ≡ is_pulse (credit_at p d n pulses o) w
  pub offer : i.offer ≡ told.offer
  pub hears : i.hears ≡ told.hears
