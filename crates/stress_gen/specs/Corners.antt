-- The plan of a stress run.
use Rattle.std.specs.Prelude.{ℕ, ◌+◌, ◌*◌, ◌%◌, Bool, false, ◌||◌, ◌==◌, if◌then◌else◌, List, [], ◌∷◌, map, flat_map}
use Rattle.std.specs.List.{range_with_len}
use Rattle.noc_model.specs.declared.plan.DomainPart.{DomainPart}
use Rattle.noc_model.specs.declared.Host.{Host}
use Rattle.noc_model.specs.declared.Range.{Range}
use Rattle.noc_model.specs.Plan.{Plan}

-- a domain of one channel, whose name is d and this digit
abbrev pub domain : ℕ → DomainPart
domain d = record { name = 100 ∷ (48 + d) ∷ []; channels = 1 }

-- whether the tile is a corner of a square of four by four
abbrev pub is_corner : ℕ → Bool
is_corner n = (n == 0) || ((n == 3) || ((n == 12) || (n == 15)))

-- the attachment of a tile and a domain
abbrev pub host : ℕ → ℕ → Host
host n d = record { tile = n; domain = d }

-- a corner hosts all four domains, and each other tile the domain of its column
abbrev pub hosts_at : ℕ → List Host
hosts_at n = if is_corner n then map (host n) (range_with_len 0 4) else host n (n % 4) ∷ []

-- 4096 addresses, of which the first is 4096 times the tile
abbrev pub range_of : ℕ → Range
range_of n = record { tile = n; first = 4096 * n; last = 4096 * n + 4095 }

-- a mesh of four by four tiles and four domains, which share the corners
abbrev pub shared_corners : Plan
shared_corners = record {
  torus = false;
  dims = 4 ∷ 4 ∷ [];
  stages = 1;
  buffer = 4;
  domains = map domain (range_with_len 0 4);
  hosts = flat_map hosts_at (range_with_len 0 16);
  ranges = map range_of (range_with_len 0 16);
  slots = range_with_len 0 4;
}
