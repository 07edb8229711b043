-- Coordinates, ports, neighbours, routes, classes, ranks and owners. A tile has a number, and is reached by a port's
-- number.
use Rattle.std.specs.Prelude.{ℕ, zero, suc, ◌+◌, ◌-◌, ◌*◌, ◌/◌, ◌%◌, Bool, false, List, [], ◌∷◌, length, if◌then◌else◌, ◌==◌, nat_le, nat_lt, ◌&&◌, ◌||◌, Option, Some, None, slice_set, slice_index, slice_index_or, sum_by, ℤ, pos, negsuc, ◌+ℤ◌, ◌-ℤ◌}
use Rattle.noc_model.specs.declared.ways.Way.{Way}
use Rattle.noc_model.specs.declared.ways.Way.TheVariants.{Local, Plus, Minus}
use Rattle.noc_model.specs.Limits.{most_side}
use Rattle.noc_model.specs.Plan.{Plan, hop}

-- the coordinates of a tile, one for each side
abbrev pub coords_in : List ℕ → ℕ → List ℕ
coords_in [] n = []
coords_in (k ∷ ks) n = n % k ∷ coords_in ks (n / k)

-- the tile at these coordinates
abbrev pub tile_in : List ℕ → List ℕ → ℕ
tile_in [] cs = 0
tile_in (k ∷ ks) [] = 0
tile_in (k ∷ ks) (c ∷ cs) = c + k * tile_in ks cs

-- the coordinate of tile n in dimension i
unfoldable pub coord : Plan → ℕ → ℕ → ℕ
coord p n i = slice_index (coords_in p.dims n) i

-- the side in dimension i
unfoldable pub side : Plan → ℕ → ℕ
side p i = slice_index_or p.dims i 1

-- port 0 is local, 1 + 2 i is plus in dimension i, and 2 + 2 i is minus
abbrev pub way_of : ℕ → Way
way_of zero = Local
way_of (suc n) = if n % 2 == 0 then Plus (n / 2) else Minus (n / 2)

-- the port of a way
abbrev pub port_of : Way → ℕ
port_of Local = 0
port_of (Plus i) = 1 + 2 * i
port_of (Minus i) = 2 + 2 * i

-- plus and minus of one dimension are opposite
abbrev pub opposite_way : Way → Way
opposite_way Local = Local
opposite_way (Plus i) = Minus i
opposite_way (Minus i) = Plus i

-- the port by which a link arrives that leaves by this one
unfoldable pub opposite : ℕ → ℕ
opposite port = port_of (opposite_way (way_of port))

-- one more, round the ring of k
abbrev pub next_in : ℕ → ℕ → ℕ
next_in k x = if x + 1 == k then 0 else x + 1

-- one less, round the ring of k
abbrev pub last_in : ℕ → ℕ → ℕ
last_in k x = if x == 0 then k - 1 else x - 1

-- whether a link leaves tile n that way: none in a side of 1, and on a mesh none over the edge
abbrev pub has_link : Plan → ℕ → Way → Bool
has_link p n Local = false
has_link p n (Plus i) = nat_lt 1 (side p i) && (p.torus || nat_lt (coord p n i + 1) (side p i))
has_link p n (Minus i) = nat_lt 1 (side p i) && (p.torus || nat_lt 0 (coord p n i))

-- the tile that way, where there is a link: one coordinate changes by one
abbrev pub tile_that_way : Plan → ℕ → Way → ℕ
tile_that_way p n Local = n
tile_that_way p n (Plus i) = tile_in p.dims (slice_set (coords_in p.dims n) i (next_in (side p i) (coord p n i)))
tile_that_way p n (Minus i) = tile_in p.dims (slice_set (coords_in p.dims n) i (last_in (side p i) (coord p n i)))

-- the tile at the other end of the link that leaves tile n by the port
unfoldable pub neighbour : Plan → ℕ → ℕ → Option ℕ
neighbour p n port = if has_link p n (way_of port) then Some (tile_that_way p n (way_of port)) else None

-- whether one of two coordinates is 0 and the other the side k minus 1
abbrev pub are_edges : ℕ → ℕ → ℕ → Bool
are_edges k x y = ((x == 0) && (y + 1 == k)) || ((y == 0) && (x + 1 == k))

-- whether the link that leaves tile n that way is a wrap link: on a torus, from edge to edge. In a side of 2 each
-- link is one
abbrev pub is_wrap_way : Plan → ℕ → Way → Bool
is_wrap_way p n Local = false
is_wrap_way p n (Plus i) = p.torus && (nat_lt 1 (side p i)
    && are_edges (side p i) (coord p n i) (next_in (side p i) (coord p n i)))
is_wrap_way p n (Minus i) = p.torus && (nat_lt 1 (side p i)
    && are_edges (side p i) (coord p n i) (last_in (side p i) (coord p n i)))

-- whether the link that leaves tile n by the port is a wrap link
unfoldable pub is_wrap : Plan → ℕ → ℕ → Bool
is_wrap p n port = is_wrap_way p n (way_of port)

-- ---- routes

-- whether the way from the coordinate x to another, y, is by plus: on a torus with a side of k the shorter way, and
-- plus at a tie
abbrev pub goes_plus : Bool → ℕ → ℕ → ℕ → Bool
goes_plus torus k x y = if torus then nat_le (2 * ((y + k - x) % k)) k else nat_lt x y

-- the way in the first dimension, from i on, in which the coordinates differ
abbrev pub way_from : Bool → ℕ → List ℕ → List ℕ → List ℕ → Way
way_from torus i [] xs ys = Local
way_from torus i (k ∷ ks) [] ys = Local
way_from torus i (k ∷ ks) (x ∷ xs) [] = Local
way_from torus i (k ∷ ks) (x ∷ xs) (y ∷ ys) =
    if x == y then way_from torus (suc i) ks xs ys
    else (if goes_plus torus k x y then Plus i else Minus i)

-- the port by which a flit for dest leaves the tile at: dimension-order routing (Dally and Towles)
unfoldable pub route : Plan → ℕ → ℕ → ℕ
route p at dest = port_of (way_from p.torus 0 p.dims (coords_in p.dims at) (coords_in p.dims dest))

-- ---- classes and ranks

-- whether both are ways of one dimension
abbrev pub is_same_dim : Way → Way → Bool
is_same_dim Local w = false
is_same_dim (Plus i) Local = false
is_same_dim (Plus i) (Plus j) = i == j
is_same_dim (Plus i) (Minus j) = i == j
is_same_dim (Minus i) Local = false
is_same_dim (Minus i) (Plus j) = i == j
is_same_dim (Minus i) (Minus j) = i == j

-- the class in which a packet goes on by an output: 1 on a wrap link, the dateline; else, within a dimension, the
-- class that it came in; else 0. On a mesh no link is a wrap link, so all classes are 0
unfoldable pub class_after : Plan → ℕ → ℕ → ℕ → ℕ → ℕ
class_after p n in_port in_class out_port =
    if is_wrap p n out_port then 1
    else (if is_same_dim (way_of in_port) (way_of out_port) then in_class else 0)

-- how far along its ring of k a link stands that leaves the x-th tile, counted from the edge in class 0, and from
-- behind it in class 1
abbrev pub position : ℕ → ℕ → ℕ → ℕ
position k x c = if c == 0 then x else (x + 1) % k

-- by dimension, then class, then position; minus counts tiles from the other edge
abbrev pub rank_of : Plan → ℕ → ℕ → Way → ℕ
rank_of p n c Local = 0
rank_of p n c (Plus i) = (2 * i + c) * most_side + position (side p i) (coord p n i) c
rank_of p n c (Minus i) = (2 * i + c) * most_side + position (side p i) (side p i - 1 - coord p n i) c

-- the rank of the channels of class c on the link that leaves tile n by the port: it rises along every route
unfoldable pub rank : Plan → ℕ → ℕ → ℕ → ℕ
rank p n out_port c = rank_of p n c (way_of out_port)

-- ---- owners

-- the number below k that differs from z by a multiple of k
abbrev pub modulo : ℤ → ℕ → ℕ
modulo (pos a) k = a % k
modulo (negsuc a) k = k - 1 - a % k

-- the sum of the coordinates: slots move over the network like a wave
unfoldable pub wave : Plan → ℕ → ℕ
wave p n = sum_by (λ c. c) (coords_in p.dims n)

-- the number of the slot that the link which leaves that way has in cycle t
abbrev pub slot_of : Plan → ℕ → ℤ → Way → ℕ
slot_of p n t Local = 0
slot_of p n t (Plus i) = modulo (t -ℤ pos (hop p * wave p n)) (length p.slots)
slot_of p n t (Minus i) = modulo (t +ℤ pos (hop p * wave p n)) (length p.slots)

-- the domain that owns the link which leaves by the port in cycle t, any whole number. The local output is each
-- domain's own, so nothing reads an owner of port 0
unfoldable pub owner : Plan → ℕ → ℕ → ℤ → ℕ
owner p n port t = slice_index p.slots (slot_of p n t (way_of port))
