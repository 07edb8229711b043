-- The greatest sizes of a network.
use Rattle.std.specs.Prelude.{ℕ}

-- sides of a network
abbrev pub most_sides : ℕ
most_sides = 3

-- tiles along a side
abbrev pub most_side : ℕ
most_side = 16

-- tiles in all
abbrev pub most_tiles : ℕ
most_tiles = 256

-- registers of a link
abbrev pub most_stages : ℕ
most_stages = 4

-- flits in a channel's buffer
abbrev pub most_buffer : ℕ
most_buffer = 16

-- bytes of a name
abbrev pub most_name : ℕ
most_name = 16

-- domains
abbrev pub most_domains : ℕ
most_domains = 16

-- channels of each class, of a domain
abbrev pub most_channels : ℕ
most_channels = 4

-- attachments
abbrev pub most_hosts : ℕ
most_hosts = 256

-- address ranges
abbrev pub most_ranges : ℕ
most_ranges = 1024

-- buffer slots in all
abbrev pub most_places : ℕ
most_places = 24576

-- slots of the wave schedule
abbrev pub most_slots : ℕ
most_slots = 64

-- cycles of a run
abbrev pub most_cycles : ℕ
most_cycles = 65536
