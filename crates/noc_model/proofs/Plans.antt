-- Sides, coordinates and steps of a plan.
use Rattle.std.proofs.Common.{◌≡◌, ℕ, ◌+◌, ◌*◌, ◌<◌, ◌≤◌, Bool, true, false, Option, Some, None, List, [], ◌∷◌, length, refl, arith, add_comm, mul_comm, if◌then◌else◌, ◌&&◌, ◌||◌}
use Rattle.std.specs.Prelude.{slice_index, slice_index_or, slice_set, nat_lt, option_map}
use Rattle.std.proofs.lemmas.List.{get_or_default}
use Rattle.std.proofs.lemmas.Nat.{mul-add-lt}
use Rattle.noc_model.specs.Plan.{Plan, product}
use Rattle.noc_model.proofs.Coords.{Within, within-set, within-coords_in, positive}
use Rattle.noc_model.specs.Sound.{AreSides}
use Rattle.noc_model.specs.declared.ways.Way.TheVariants.{Plus, Minus}
use Rattle.noc_model.specs.Place.{coords_in, tile_in, side, coord, next_in, last_in, neighbour, way_of}

-- a side is the list's entry, whatever stands past the list's end
pub side-at : (p : Plan) (i d : ℕ) → i < length p.dims → side p i ≡ slice_index_or p.dims i d
unfolding side
side-at p i d there = get_or_default p.dims i 1 d there

pub side-few : (p : Plan) (i : ℕ) → AreSides p.dims → i < length p.dims → side p i ≤ 16
unfolding side
side-few p i sides there = (sides i 1 there).1

if-map : (b : Bool) (f : ℕ → ℕ) (y : ℕ) → (if b then Some (f y) else None) ≡ option_map f (if b then Some y else None)
if-map true f y = refl
if-map false f y = refl

-- a neighbour is the tile whose coordinate is the next one by plus or by minus, where there is one
pub neighbour-plus : (p : Plan) (n port i : ℕ) (next : Option ℕ) → way_of port ≡ Plus i
    → next ≡ (if nat_lt 1 (side p i) && (p.torus || nat_lt (coord p n i + 1) (side p i)) then Some (next_in (side p i) (coord p n i)) else None)
    → neighbour p n port ≡ option_map (λ y. tile_in p.dims (slice_set (coords_in p.dims n) i y)) next
unfolding neighbour
neighbour-plus p n port i next way e =
    rw (way, e) (if-map (nat_lt 1 (side p i) && (p.torus || nat_lt (coord p n i + 1) (side p i))) (λ y. tile_in p.dims (slice_set (coords_in p.dims n) i y)) (next_in (side p i) (coord p n i)))

pub neighbour-minus : (p : Plan) (n port i : ℕ) (next : Option ℕ) → way_of port ≡ Minus i
    → next ≡ (if nat_lt 1 (side p i) && (p.torus || nat_lt 0 (coord p n i)) then Some (last_in (side p i) (coord p n i)) else None)
    → neighbour p n port ≡ option_map (λ y. tile_in p.dims (slice_set (coords_in p.dims n) i y)) next
unfolding neighbour
neighbour-minus p n port i next way e =
    rw (way, e) (if-map (nat_lt 1 (side p i) && (p.torus || nat_lt 0 (coord p n i))) (λ y. tile_in p.dims (slice_set (coords_in p.dims n) i y)) (last_in (side p i) (coord p n i)))

-- a changed coordinate gives a tile
pub tile_in-below : (ks cs : List ℕ) → Within ks cs → tile_in ks cs < product ks
tile_in-below [] [] h = omega arith
tile_in-below [] (c ∷ cs) h = absurd h
tile_in-below (k ∷ ks) [] h = absurd h
tile_in-below (k ∷ ks) (c ∷ cs) h =
    let rest = tile_in-below ks cs h.1 in
    let up : c + k * tile_in ks cs < k * product ks =
    rw (add_comm c (k * tile_in ks cs), mul_comm k (tile_in ks cs)) (mul-add-lt (tile_in ks cs) k c (product ks) rest h.0) in
    up

pub moved-below : (ks : List ℕ) (n i y : ℕ) → AreSides ks → i < length ks → y < slice_index ks i
    → tile_in ks (slice_set (coords_in ks n) i y) < product ks
moved-below ks n i y sides there below =
    tile_in-below ks (slice_set (coords_in ks n) i y)
    (within-set ks (coords_in ks n) i y (within-coords_in ks n (positive ks sides)) (rw (get_or_default ks i 1 0 there) below))
