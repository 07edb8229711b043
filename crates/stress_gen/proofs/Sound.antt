-- The plan of a stress run is sound, and what follows for any sound plan.
use Rattle.std.proofs.Common.{◌≡◌, ◌≢◌, ℕ, zero, suc, ◌+◌, ◌<◌, ◌≤◌, inl, inr, Bool, true, false, List, [], ◌∷◌, length, refl, sym, ap, ◌∙◌, arith, Some}
use Rattle.std.specs.Prelude.{AllPairs, map, slice_get, slice_index, slice_index_or, if◌then◌else◌, ◌==◌}
use Rattle.std.specs.List.{AllByRecursion, range_with_len}
use Rattle.std.proofs.lemmas.List.Elements.{All-from_recursion}
use Rattle.std.proofs.lemmas.List.FromFn.{get_or-map-range_with_len}
use Rattle.std.proofs.lemmas.Bool.Decides.{nat_tests}
use Rattle.std.proofs.lemmas.Option.{slice_get-get_or, none-some}
use Rattle.noc_model.specs.declared.plan.DomainPart.{DomainPart}
use Rattle.noc_model.specs.declared.Host.{Host}
use Rattle.noc_model.specs.Examples.{named_from}
use Rattle.noc_model.specs.Plan.{Plan, name_of, name_in}
use Rattle.noc_model.specs.Sound.{IsSound, IsName, IsNameByte}
use Rattle.noc_model.specs.Events.{hosts_of}
use Rattle.noc_model.proofs.Checked.{sound}
use Rattle.noc_model.proofs.HostTiles.{host_tiles, hosts_of-tiles, host-within}
use Rattle.stress_gen.specs.Corners.{domain, shared_corners}

-- the same plan with names of one letter
abbrev lettered : Plan
lettered = record shared_corners { domains = named_from 97 (1 ∷ 1 ∷ 1 ∷ 1 ∷ []) }

lettered-sound : IsSound lettered
lettered-sound = sound lettered refl refl

-- a letter and a digit are a name
named : (d : ℕ) → d ≤ 9 → IsName (domain d).name
named d few = (omega arith, omega arith, All-from_recursion IsNameByte (100 ∷ (48 + d) ∷ []) (inr (inr (inl (omega arith, omega arith))), (inl (omega arith, omega arith), tt)))

all-named : AllByRecursion (λ (x : DomainPart). IsName x.name) (map domain (range_with_len 0 4))
all-named = (named 0 (omega arith), (named 1 (omega arith), (named 2 (omega arith), (named 3 (omega arith), tt))))

-- domains of different numbers have different names
apart : (i j : ℕ) → i < j → (domain i).name ≢ (domain j).name
apart i j less e = let same : 48 + i ≡ 48 + j = ap (λ (bs : List ℕ). slice_index bs 1) e in absurd (omega arith)

all-apart : AllPairs (λ (x y : DomainPart). x.name ≢ y.name) shared_corners.domains
all-apart i j d less below e =
    let at : (k : ℕ) → k < 4 → slice_index_or shared_corners.domains k d ≡ domain k = λ k few. get_or-map-range_with_len domain 0 4 k k d few (omega arith) in
    apart i j less (sym (ap (λ (x : DomainPart). x.name) (at i (omega arith))) ∙ e ∙ ap (λ (x : DomainPart). x.name) (at j below))

pub shared_corners-sound : IsSound shared_corners
shared_corners-sound = record {
  dims = lettered-sound.dims;
  sides = lettered-sound.sides;
  tile_count = lettered-sound.tile_count;
  stages = lettered-sound.stages;
  buffer = lettered-sound.buffer;
  domains = lettered-sound.domains;
  names = All-from_recursion (λ (x : DomainPart). IsName x.name) shared_corners.domains all-named;
  names_apart = all-apart;
  channels = All-from_recursion (λ (x : DomainPart). (1 ≤ x.channels) × (x.channels ≤ 4)) shared_corners.domains
      ((omega arith, omega arith), ((omega arith, omega arith), ((omega arith, omega arith), ((omega arith, omega arith), tt))));
  hosts = lettered-sound.hosts;
  hosts_in_order = lettered-sound.hosts_in_order;
  host_count = lettered-sound.host_count;
  ranges = lettered-sound.ranges;
  ranges_apart = lettered-sound.ranges_apart;
  range_count = lettered-sound.range_count;
  place_count = lettered-sound.place_count;
  slot_count = lettered-sound.slot_count;
  slots = lettered-sound.slots;
  each_has_slot = lettered-sound.each_has_slot;
}

-- ---- any sound plan

-- a domain that no plan reads
abbrev no_domain : DomainPart
no_domain = record { name = []; channels = 0 }

-- a name is short
pub name-few : (p : Plan) (d : ℕ) → IsSound p → d < length p.domains → length (name_of p d) ≤ 16
name-few p d s within =
    let is : name_of p d ≡ (slice_index_or p.domains d no_domain).name = ap name_in (slice_get-get_or p.domains d no_domain within) in
    let few = (s.names d no_domain within).1 in
    omega (arith, few, ap length is)

-- a domain that is hosted has a tile
pub one-tile : (p : Plan) (j : ℕ) (h : Host) → IsSound p → slice_get p.hosts j ≡ Some h → 1 ≤ length (hosts_of p h.domain)
one-tile p j h s at = rw (hosts_of-tiles p h.domain s) (some p.hosts j at)
  where
    some : (hs : List Host) (j : ℕ) → slice_get hs j ≡ Some h → 1 ≤ length (host_tiles h.domain hs)
    some [] j e = absurd (none-some h e)
    some (g ∷ hs) zero e = let one : g ≡ h = cc in first (g.domain == h.domain) (grind (arith, nat_tests))
      where
        first : (b : Bool) → b ≡ true → 1 ≤ length (if b then g.tile ∷ host_tiles h.domain hs else host_tiles h.domain hs)
        first true e = omega arith
        first false e = absurd (cc)
    some (g ∷ hs) (suc j) e = later (g.domain == h.domain) (some hs j e)
      where
        later : (b : Bool) → 1 ≤ length (host_tiles h.domain hs) → 1 ≤ length (if b then g.tile ∷ host_tiles h.domain hs else host_tiles h.domain hs)
        later true few = omega arith
        later false few = few

-- the tiles of a domain are tiles
pub tile-within : (p : Plan) (d k : ℕ) → IsSound p → slice_index (hosts_of p d) k ≤ 255
tile-within p d k s = rw (hosts_of-tiles p d s) (small p.hosts (λ j h at. host-small j h at) k)
  where
    host-small : (j : ℕ) (h : Host) → slice_get p.hosts j ≡ Some h → h.tile ≤ 255
    host-small j h at = let w = host-within p j h s at in let few = s.tile_count in omega (arith, w.0, few)

    small : (hs : List Host) → ((j : ℕ) (h : Host) → slice_get hs j ≡ Some h → h.tile ≤ 255) → (k : ℕ) → slice_index (host_tiles d hs) k ≤ 255
    small [] each k = none k
      where
        none : (k : ℕ) → slice_index [] k ≤ 255
        none k = omega arith
    small (h ∷ hs) each k = go (h.domain == d) k (small hs (λ j. each (suc j)))
      where
        go : (b : Bool) (k : ℕ) → ((i : ℕ) → slice_index (host_tiles d hs) i ≤ 255) → slice_index (if b then h.tile ∷ host_tiles d hs else host_tiles d hs) k ≤ 255
        go false k rest = rest k
        go true zero rest = each 0 h refl
        go true (suc k) rest = rest k

-- so one that is drawn is small
pub drawn-small : (p : Plan) (d k tile : ℕ) (ts : List ℕ) → IsSound p → ts ≡ hosts_of p d → tile ≡ slice_index ts k → tile ≤ 255
drawn-small p d k tile ts s all is = let e : tile ≡ slice_index (hosts_of p d) k = is ∙ ap (λ (us : List ℕ). slice_index us k) all in omega (arith, e, tile-within p d k s)
