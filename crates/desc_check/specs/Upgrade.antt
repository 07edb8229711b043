-- The draft of version 2 that says a plan.
use Rattle.std.specs.Prelude.{ℕ, Bool, not, ◌==◌, List, length, map, filter, codes, pos, if◌then◌else◌}
use Rattle.std.specs.List.{range_with_len}
use Rattle.noc_model.specs.declared.plan.DomainPart.{DomainPart}
use Rattle.noc_model.specs.declared.Range.{Range}
use Rattle.noc_model.specs.Plan.{Plan, tiles, name_of, hosts}
use Rattle.noc_desc.specs.declared.Draft.{Draft}
use Rattle.noc_desc.specs.declared.DraftDomain.{DraftDomain}
use Rattle.noc_desc.specs.declared.DraftTile.{DraftTile}
use Rattle.noc_desc.specs.declared.DraftRange.{DraftRange}

-- the domains that tile n hosts, by number
abbrev pub hosted_by : Plan → ℕ → List ℕ
hosted_by p n = filter (hosts p n) (range_with_len 0 (length p.domains))

-- tile n as the description has it: the names of the domains that it hosts
abbrev pub tile_of : Plan → ℕ → DraftTile
tile_of p n = record { at = pos n; domains = map (name_of p) (hosted_by p n) }

-- whether tile n hosts a domain
abbrev pub hosts_some : Plan → ℕ → Bool
hosts_some p n = not (length (hosted_by p n) == 0)

-- the tiles that host a domain, by number
abbrev pub hosting : Plan → List ℕ
hosting p = filter (hosts_some p) (range_with_len 0 (tiles p))

-- a domain as the description has it
abbrev pub domain_draft : DomainPart → DraftDomain
domain_draft x = record { name = x.name; channels = pos x.channels }

-- a range as the description has it
abbrev pub range_draft : Range → DraftRange
range_draft x = record { tile = pos x.tile; first = pos x.first; last = pos x.last }

-- the name of the shape
abbrev pub shape_of : Plan → List ℕ
shape_of p = if p.torus then codes "torus" else codes "mesh"

-- the draft: its slots are names in the plan's order, and all its lists are there, also when they are empty
abbrev pub upgrade_of : Plan → Draft
upgrade_of p = record {
  version = pos 2;
  shape = shape_of p;
  dims = map (λ k. pos k) p.dims;
  stages = pos p.stages;
  buffer = pos p.buffer;
  domains = map domain_draft p.domains;
  tiles = map (tile_of p) (hosting p);
  ranges = map range_draft p.ranges;
  slots = map (name_of p) p.slots;
}
