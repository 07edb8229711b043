-- The plan of a network, what is counted from it, and what is looked up in it.
use Rattle.std.specs.Prelude.{ℕ, zero, suc, ◌+◌, ◌*◌, Bool, List, [], ◌∷◌, length, if◌then◌else◌, ◌==◌, nat_le, ◌&&◌, Option, Some, None, slice_get, find, position, sum_by}
use Rattle.std.specs.List.{list_any}
use Rattle.std.specs.Str.{bytes_eq}
use Rattle.noc_model.specs.declared.plan.DomainPart.{DomainPart}
use Rattle.noc_model.specs.declared.Host.{Host}
use Rattle.noc_model.specs.declared.Range.{Range}

-- a torus or a mesh with these sides. A domain has a name and channels of each class, a host is a tile with a domain
-- that it hosts, a range has the addresses of a tile, and a slot has the domain that owns a link in it
pub record Plan : Type 0 where
  pub torus : Bool
  pub dims : List ℕ
  pub stages : ℕ
  pub buffer : ℕ
  pub domains : List DomainPart
  pub hosts : List Host
  pub ranges : List Range
  pub slots : List ℕ

-- the product of the sides
abbrev pub product : List ℕ → ℕ
product [] = 1
product (k ∷ ks) = k * product ks

-- the number of tiles
abbrev pub tiles : Plan → ℕ
tiles p = product p.dims

-- the number of a tile's ports: the local one, and two for each side, with a link or without
abbrev pub ports : Plan → ℕ
ports p = 1 + 2 * length p.dims

-- the cycles from entering one link to entering the next, unstalled
abbrev pub hop : Plan → ℕ
hop p = p.stages + 3

-- the number of channel classes: two on a torus, for its datelines
abbrev pub classes : Plan → ℕ
classes p = if p.torus then 2 else 1

-- the name of a domain, and none where there is no domain
abbrev pub name_in : Option DomainPart → List ℕ
name_in None = []
name_in (Some x) = x.name

-- the name at place d of these
abbrev pub name_at : List DomainPart → ℕ → List ℕ
name_at xs d = name_in (slice_get xs d)

-- the name of domain d
abbrev pub name_of : Plan → ℕ → List ℕ
name_of p d = name_at p.domains d

-- the channels of a domain, of one class, and none where there is no domain
abbrev pub channels_in : Option DomainPart → ℕ
channels_in None = 0
channels_in (Some x) = x.channels

-- the domain of this name
abbrev pub domain_named : Plan → List ℕ → Option ℕ
domain_named p name = position (λ (x : DomainPart). bytes_eq x.name name) p.domains

-- the channels of domain d, of one class
abbrev pub channels : Plan → ℕ → ℕ
channels p d = channels_in (slice_get p.domains d)

-- the channels of domain d on a link
abbrev pub link_channels : Plan → ℕ → ℕ
link_channels p d = classes p * channels p d

-- one thing at the local port, 0, and another at the others
abbrev pub at_local {ℓ} : {A : Type ℓ} → ℕ → A → A → A
at_local zero x y = x
at_local (suc port) x y = y

-- the channels of domain d at an input port: the local one has those of one class
abbrev pub in_channels : Plan → ℕ → ℕ → ℕ
in_channels p d port = at_local port (channels p d) (link_channels p d)

-- the channels of domain d at an output port: the local one has one
abbrev pub out_channels : Plan → ℕ → ℕ → ℕ
out_channels p d port = at_local port 1 (link_channels p d)

-- the channels of all domains on a link
abbrev pub all_link_channels : ℕ → List DomainPart → ℕ
all_link_channels class_count xs = sum_by (λ (x : DomainPart). class_count * x.channels) xs

-- the buffer slots of the network, where every port counts as one with a link
abbrev pub places : Plan → ℕ
places p = tiles p * ports p * all_link_channels (classes p) p.domains * p.buffer

-- whether the host is of this tile and domain
abbrev pub is_host : ℕ → ℕ → Host → Bool
is_host n d h = (h.tile == n) && (h.domain == d)

-- whether tile n hosts domain d
abbrev pub hosts : Plan → ℕ → ℕ → Bool
hosts p n d = list_any (is_host n d) p.hosts

-- the number of the attachment of tile n and domain d
abbrev pub attach_of : Plan → ℕ → ℕ → Option ℕ
attach_of p n d = position (is_host n d) p.hosts

-- whether the range has the address
abbrev pub holds_address : ℕ → Range → Bool
holds_address address r = nat_le r.first address && nat_le address r.last

-- the range that has the address
abbrev pub range_of : Plan → ℕ → Option Range
range_of p address = find (holds_address address) p.ranges

-- the tile of the range, where that tile hosts the domain
abbrev pub hosted_tile : Plan → ℕ → Option Range → Option ℕ
hosted_tile p d None = None
hosted_tile p d (Some r) = if hosts p r.tile d then Some r.tile else None

-- the tile that domain d reaches by the address
abbrev pub lookup : Plan → ℕ → ℕ → Option ℕ
lookup p d address = hosted_tile p d (range_of p address)
