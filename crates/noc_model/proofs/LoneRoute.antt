-- The route of a word: it ends at the tile that it is for, and goes straight on but for turns and wrap links.
use Rattle.std.proofs.Common.{◌≡◌, ◌≢◌, ℕ, zero, suc, ◌+◌, ◌-◌, ◌<◌, ◌≤◌, ◌⊎◌, inl, inr, Bool, true, false, Option, List, [], ◌∷◌, length, refl, sym, ap, ◌∙◌, arith, ◌==◌}
use Rattle.std.specs.Prelude.{Some, None, is_some, slice_set, slice_index, slice_index_or, nat_le, if◌then◌else◌}
use Rattle.std.proofs.lemmas.Bool.Decides.{nat_tests}
use Rattle.noc_model.specs.declared.ways.Way.{Way}
use Rattle.noc_model.specs.declared.ways.Way.TheVariants.{Local, Plus, Minus}
use Rattle.noc_model.specs.Plan.{Plan, tiles}
use Rattle.noc_model.specs.Sound.{IsSound}
use Rattle.noc_model.specs.Place.{coords_in, tile_in, next_in, last_in, way_of, port_of, side, coord, has_link, tile_that_way, neighbour, is_wrap, goes_plus, way_from, route}
use Rattle.noc_model.specs.SoundState.{IsOutput}
use Rattle.noc_model.specs.Lone.{HasRoute, differing}
use Rattle.noc_model.proofs.Coords.{AllPositive, length-coords, tile_in-coords_in, in-sides, next-below, last-below}
use Rattle.noc_model.proofs.Wave.{way_of-port_of, port_of-way_of, moved, neighbour-is, coord-below}
use Rattle.noc_model.proofs.Kept.{positive-sound}
use Rattle.noc_model.proofs.Outputs.{route-output}
use Rattle.noc_model.proofs.StateKept.{neighbour-inside}
use Rattle.noc_model.proofs.Rank.{by, to, Differs, First, Leads, home, leads, leads-to, move, stays-next}

-- ---- ways and lists of coordinates

-- where no coordinate differs the lists are equal
local-same : (torus : Bool) (i : ℕ) (ks xs ys : List ℕ) → length xs ≡ length ks → length ys ≡ length ks
    → way_from torus i ks xs ys ≡ Local → xs ≡ ys
local-same torus i [] [] [] lx ly e = refl
local-same torus i [] [] (y ∷ ys) lx ly e = absurd (omega arith)
local-same torus i [] (x ∷ xs) ys lx ly e = absurd (omega arith)
local-same torus i (k ∷ ks) [] ys lx ly e = absurd (omega arith)
local-same torus i (k ∷ ks) (x ∷ xs) [] lx ly e = absurd (omega arith)
local-same torus i (k ∷ ks) (x ∷ xs) (y ∷ ys) lx ly e =
    go (x == y) refl (goes_plus torus k x y) (λ h. local-same torus (suc i) ks xs ys (omega arith) (omega arith) h) e
  where
    go : (b : Bool) → (x == y) ≡ b → (g : Bool) → (way_from torus (suc i) ks xs ys ≡ Local → xs ≡ ys)
        → (if b then way_from torus (suc i) ks xs ys else (if g then Plus i else Minus i)) ≡ Local → x ∷ xs ≡ y ∷ ys
    go true same g rest h = let at : x ≡ y = grind (arith, nat_tests, same) in ap (λ z. z ∷ xs) at ∙ ap (λ zs. y ∷ zs) (rest h)
    go false other true rest h = absurd (cc h)
    go false other false rest h = absurd (cc h)

add-suc : (i m : ℕ) → suc i + m ≡ i + suc m
add-suc i m = omega arith

by-at : (torus : Bool) (b : Bool) (i k x y : ℕ) → x ≢ y → goes_plus torus k x y ≡ b → (w : Way)
    → (if x == y then w else (if goes_plus torus k x y then Plus i else Minus i)) ≡ by b i
by-at torus b i k x y differ goes w = go (x == y) refl (goes_plus torus k x y) goes
  where
    go : (t : Bool) → (x == y) ≡ t → (g : Bool) → g ≡ b → (if t then w else (if g then Plus i else Minus i)) ≡ by b i
    go true same g e = absurd (differ (grind (arith, nat_tests, same)))
    go false other true e = ap (λ c. by c i) e
    go false other false e = ap (λ c. by c i) e

-- the first coordinate that differs gives the way
first-way : (torus : Bool) (i : ℕ) (ks xs ys : List ℕ) (m : ℕ) (b : Bool) → length xs ≡ length ks
    → length ys ≡ length ks → m < length ks → Differs torus ks xs ys m b
    → way_from torus i ks xs ys ≡ by b (i + m)
first-way torus i [] xs ys m b lx ly less h = absurd (omega arith)
first-way torus i (k ∷ ks) [] ys m b lx ly less h = absurd (omega arith)
first-way torus i (k ∷ ks) (x ∷ xs) [] m b lx ly less h = absurd (omega arith)
first-way torus i (k ∷ ks) (x ∷ xs) (y ∷ ys) zero b lx ly less h =
    let e : i ≡ i + 0 = omega arith in
    by-at torus b i k x y h.differ h.goes (way_from torus (suc i) ks xs ys) ∙ ap (by b) e
first-way torus i (k ∷ ks) (x ∷ xs) (y ∷ ys) (suc m) b lx ly less h =
    let same : x ≡ y = h.below 0 (omega arith) in
    let test : (x == y) ≡ true = grind (arith, nat_tests, same) in
    ap (λ t. if t then way_from torus (suc i) ks xs ys else (if goes_plus torus k x y then Plus i else Minus i)) test
    ∙ first-way torus (suc i) ks xs ys m b (omega arith) (omega arith) (omega arith) (record { below = λ l low. h.below (suc l) (omega arith); differ = h.differ; goes = h.goes })
    ∙ ap (by b) (add-suc i m)

-- whether two numbers differ, as a count
abbrev pub unlike : ℕ → ℕ → ℕ
unlike x y = if x == y then 0 else 1

-- a change of one coordinate
differing-set : (xs ys : List ℕ) (i z : ℕ) → i < length xs → length xs ≡ length ys
    → differing (slice_set xs i z) ys + unlike (slice_index xs i) (slice_index ys i) ≡ differing xs ys + unlike z (slice_index ys i)
differing-set [] ys i z less same = absurd (omega arith)
differing-set (x ∷ xs) [] i z less same = absurd (omega arith)
differing-set (x ∷ xs) (y ∷ ys) zero z less same = omega arith
differing-set (x ∷ xs) (y ∷ ys) (suc i) z less same = omega (arith, differing-set xs ys i z (omega arith) (omega arith))

pub differing-none : (xs : List ℕ) → differing xs xs ≡ 0
differing-none [] = refl
differing-none (x ∷ xs) = let none : unlike x x ≡ 0 = (let e : x ≡ x = refl in grind (arith, nat_tests)) in omega (arith, none, differing-none xs)

-- ---- how far it is

-- from the coordinate x to y round a ring of k, by plus or by minus
abbrev pub far : Bool → ℕ → ℕ → ℕ → ℕ
far true k x y = if nat_le x y then y - x else y + k - x
far false k x y = if nat_le y x then x - y else x + k - y

abbrev pub apart : Bool → ℕ → ℕ → ℕ → ℕ
apart torus k x y = far (goes_plus torus k x y) k x y

abbrev pub distance : Bool → List ℕ → List ℕ → List ℕ → ℕ
distance torus [] xs ys = 0
distance torus (k ∷ ks) [] ys = 0
distance torus (k ∷ ks) (x ∷ xs) [] = 0
distance torus (k ∷ ks) (x ∷ xs) (y ∷ ys) = apart torus k x y + distance torus ks xs ys

distance-set : (torus : Bool) (ks xs ys : List ℕ) (i z : ℕ) → i < length ks → length xs ≡ length ks
    → length ys ≡ length ks
    → distance torus ks (slice_set xs i z) ys + apart torus (slice_index_or ks i 1) (slice_index xs i) (slice_index ys i)
    ≡ distance torus ks xs ys + apart torus (slice_index_or ks i 1) z (slice_index ys i)
distance-set torus [] xs ys i z less lx ly = absurd (omega arith)
distance-set torus (k ∷ ks) [] ys i z less lx ly = absurd (omega arith)
distance-set torus (k ∷ ks) (x ∷ xs) [] i z less lx ly = absurd (omega arith)
distance-set torus (k ∷ ks) (x ∷ xs) (y ∷ ys) zero z less lx ly = omega arith
distance-set torus (k ∷ ks) (x ∷ xs) (y ∷ ys) (suc i) z less lx ly =
    omega (arith, distance-set torus ks xs ys i z (omega arith) (omega arith) (omega arith))

far-same : (b : Bool) (k y : ℕ) → far b k y y ≡ 0
far-same true k y = let e : nat_le y y ≡ true = grind (arith, nat_tests) in rw e (omega arith)
far-same false k y = let e : nat_le y y ≡ true = grind (arith, nat_tests) in rw e (omega arith)

plus-nearer : (k x y : ℕ) → x < k → y < k → x ≢ y → far true k (next_in k x) y + 1 ≡ far true k x y
plus-nearer k x y hx hy differ = grind (arith, nat_tests)

minus-nearer : (k x y : ℕ) → x < k → y < k → x ≢ y → far false k (last_in k x) y + 1 ≡ far false k x y
minus-nearer k x y hx hy differ = grind (arith, nat_tests)

nearer : (b : Bool) (k x y : ℕ) → x < k → y < k → x ≢ y → far b k (to b k x) y + 1 ≡ far b k x y
nearer true k x y hx hy differ = plus-nearer k x y hx hy differ
nearer false k x y hx hy differ = minus-nearer k x y hx hy differ

apart-nearer : (torus b : Bool) (k x y : ℕ) → x < k → y < k → x ≢ y → goes_plus torus k x y ≡ b
    → (to b k x ≡ y) ⊎ (goes_plus torus k (to b k x) y ≡ b)
    → apart torus k (to b k x) y + 1 ≡ apart torus k x y
apart-nearer torus b k x y hx hy differ goes (inr on) =
    ap (λ c. far c k (to b k x) y + 1) on ∙ nearer b k x y hx hy differ ∙ ap (λ c. far c k x y) (sym goes)
apart-nearer torus b k x y hx hy differ goes (inl there) =
    let none : apart torus k (to b k x) y ≡ 0 =
    ap (λ z. apart torus k z y) there ∙ far-same (goes_plus torus k y y) k y in
    let none' : far b k (to b k x) y ≡ 0 = ap (λ z. far b k z y) there ∙ far-same b k y in
    let one = nearer b k x y hx hy differ in
    let all : apart torus k x y ≡ far b k x y = ap (λ c. far c k x y) goes in
    omega (arith, none, none', one, all)

-- ---- one link

-- tile m is the next on the route from n to dest: one further along dimension i
pub record IsHop (p : Plan) (n dest m i : ℕ) (b : Bool) : Type 0 where
  pub first : First p n dest i b
  pub linked : has_link p n (by b i) ≡ true
  pub out : way_of (route p n dest) ≡ by b i
  pub at : tile_that_way p n (by b i) ≡ m

pub hop-is : (p : Plan) (n dest m : ℕ) → neighbour p n (route p n dest) ≡ Some m
    → (i : ℕ) × (b : Bool) × IsHop p n dest m i b
hop-is p n dest m e = let link = neighbour-is p n (route p n dest) m e in go (way_of (route p n dest)) refl link.0 link.1 (leads-to p n dest)
  where
    go : (w : Way) → way_of (route p n dest) ≡ w → has_link p n w ≡ true → tile_that_way p n w ≡ m → Leads p n dest w
        → (i : ℕ) × (b : Bool) × IsHop p n dest m i b
    go Local out linked at home = absurd (cc linked)
    go w out linked at (leads b i first) = (i, b, record { first = first; linked = linked; out = out; at = at })

hop-coords : (p : Plan) (n dest m i : ℕ) (b : Bool) → AllPositive p.dims → IsHop p n dest m i b
    → coords_in p.dims m ≡ slice_set (coords_in p.dims n) i (to b (side p i) (coord p n i))
hop-coords p n dest m i true positive hop =
    let mv = move p n i true positive hop.linked in
    ap (coords_in p.dims) (sym hop.at)
    ∙ moved p n i (next_in (side p i) (coord p n i)) positive (next-below (side p i) (coord p n i) mv.from)
hop-coords p n dest m i false positive hop =
    let mv = move p n i false positive hop.linked in
    ap (coords_in p.dims) (sym hop.at)
    ∙ moved p n i (last_in (side p i) (coord p n i)) positive (last-below (side p i) (coord p n i) mv.from)

hop-coord : (p : Plan) (n dest m i : ℕ) (b : Bool) → AllPositive p.dims → IsHop p n dest m i b
    → coord p m i ≡ to b (side p i) (coord p n i)
hop-coord p n dest m i b positive hop = ap (λ k. coord p k i) (sym hop.at) ∙ (move p n i b positive hop.linked).at

hop-differing : (p : Plan) (n dest m i : ℕ) (b : Bool) → AllPositive p.dims → IsHop p n dest m i b
    → differing (coords_in p.dims m) (coords_in p.dims dest) + 1 ≡ differing (coords_in p.dims n) (coords_in p.dims dest) + unlike (coord p m i) (coord p dest i)
unfolding coord side
hop-differing p n dest m i b positive hop =
    let mv = move p n i b positive hop.linked in
    let lx = length-coords p.dims n in
    let ly = length-coords p.dims dest in
    let there = in-sides p.dims i mv.some in
    let z : ℕ = to b (side p i) (coord p n i) in
    let changed =
    differing-set (coords_in p.dims n) (coords_in p.dims dest) i z (omega (arith, lx, there)) (lx ∙ sym ly) in
    let was : unlike (coord p n i) (coord p dest i) ≡ 1 = one (coord p n i) (coord p dest i) hop.first.differ in
    let now : unlike z (coord p dest i) ≡ unlike (coord p m i) (coord p dest i) =
    ap (λ k. unlike k (coord p dest i)) (sym (hop-coord p n dest m i b positive hop)) in
    let next : differing (coords_in p.dims m) (coords_in p.dims dest) ≡ differing (slice_set (coords_in p.dims n) i z) (coords_in p.dims dest) =
    ap (λ cs. differing cs (coords_in p.dims dest)) (hop-coords p n dest m i b positive hop) in
    omega (arith, changed, was, now, next)
  where
    one : (x y : ℕ) → x ≢ y → unlike x y ≡ 1
    one x y differ = grind (arith, nat_tests)

pub hop-nearer : (p : Plan) (n dest m i : ℕ) (b : Bool) → AllPositive p.dims → IsHop p n dest m i b
    → distance p.torus p.dims (coords_in p.dims m) (coords_in p.dims dest) + 1 ≡ distance p.torus p.dims (coords_in p.dims n) (coords_in p.dims dest)
unfolding coord side
hop-nearer p n dest m i b positive hop =
    let mv = move p n i b positive hop.linked in
    let lx = length-coords p.dims n in
    let ly = length-coords p.dims dest in
    let there = in-sides p.dims i mv.some in
    let z : ℕ = to b (side p i) (coord p n i) in
    let changed = distance-set p.torus p.dims (coords_in p.dims n) (coords_in p.dims dest) i z there lx ly in
    let less =
    apart-nearer p.torus b (side p i) (coord p n i) (coord p dest i) mv.from (coord-below p dest i positive mv.some) hop.first.differ hop.first.goes (stays-next p n dest i b positive hop.linked hop.first) in
    let next : distance p.torus p.dims (coords_in p.dims m) (coords_in p.dims dest) ≡ distance p.torus p.dims (slice_set (coords_in p.dims n) i z) (coords_in p.dims dest) =
    ap (λ cs. distance p.torus p.dims cs (coords_in p.dims dest)) (hop-coords p n dest m i b positive hop) in
    omega (arith, changed, less, next)

-- where the dimension goes on, so does the port
first-route : (p : Plan) (n dest i : ℕ) (b : Bool) → i < length p.dims → First p n dest i b
    → route p n dest ≡ port_of (by b i)
unfolding coord side route
first-route p n dest i b there first =
    ap port_of (first-way p.torus 0 p.dims (coords_in p.dims n) (coords_in p.dims dest) i b (length-coords p.dims n) (length-coords p.dims dest) there
    (record { below = first.below; differ = first.differ; goes = first.goes }) ∙ ap (by b) none)
  where
    none : 0 + i ≡ i
    none = omega arith

hop-on : (p : Plan) (n dest m i : ℕ) (b : Bool) → AllPositive p.dims → IsHop p n dest m i b
    → coord p m i ≢ coord p dest i → route p m dest ≡ route p n dest
unfolding side
hop-on p n dest m i b positive hop differ =
    let mv = move p n i b positive hop.linked in
    let at = hop-coord p n dest m i b positive hop in
    first-route p m dest i b (in-sides p.dims i mv.some) (record {
      below = λ l less. ap (λ k. coord p k l) (sym hop.at) ∙ mv.others l less ∙ hop.first.below l less;
      differ = differ;
      goes = ap (λ c. goes_plus p.torus (side p i) c (coord p dest i)) at ∙ go (stays-next p n dest i b positive hop.linked hop.first);
    }) ∙ sym (ap port_of hop.out) ∙ port_of-way_of (route p n dest)
  where
    go : (to b (side p i) (coord p n i) ≡ coord p dest i) ⊎ (goes_plus p.torus (side p i) (to b (side p i) (coord p n i)) (coord p dest i) ≡ b)
        → goes_plus p.torus (side p i) (to b (side p i) (coord p n i)) (coord p dest i) ≡ b
    go (inl same) = absurd (differ (hop-coord p n dest m i b positive hop ∙ same))
    go (inr e) = e

differing-some : (xs ys : List ℕ) (i : ℕ) → i < length xs → length xs ≡ length ys → slice_index xs i ≢ slice_index ys i
    → 1 ≤ differing xs ys
differing-some [] ys i less same differ = absurd (omega arith)
differing-some (x ∷ xs) [] i less same differ = absurd (omega arith)
differing-some (x ∷ xs) (y ∷ ys) zero less same differ = let one : unlike x y ≡ 1 = (let h : x ≢ y = differ in grind (arith, nat_tests)) in omega (arith, one)
differing-some (x ∷ xs) (y ∷ ys) (suc i) less same differ =
    omega (arith, differing-some xs ys i (omega arith) (omega arith) differ)

hop-some : (p : Plan) (n dest m i : ℕ) (b : Bool) → AllPositive p.dims → IsHop p n dest m i b
    → 1 ≤ differing (coords_in p.dims n) (coords_in p.dims dest)
unfolding coord side
hop-some p n dest m i b positive hop =
    let mv = move p n i b positive hop.linked in
    let lx = length-coords p.dims n in
    differing-some (coords_in p.dims n) (coords_in p.dims dest) i (omega (arith, lx, in-sides p.dims i mv.some)) (lx ∙ sym (length-coords p.dims dest)) hop.first.differ

-- a link of a route: straight on by the same port, over a wrap link, or the last one of its dimension
pub data Goes (p : Plan) (n dest m : ℕ) : Type 0 where
  straight : is_wrap p n (route p n dest) ≡ false → route p m dest ≡ route p n dest
      → differing (coords_in p.dims m) (coords_in p.dims dest) ≡ differing (coords_in p.dims n) (coords_in p.dims dest)
      → 1 ≤ differing (coords_in p.dims n) (coords_in p.dims dest) → Goes p n dest m
  wraps_round : is_wrap p n (route p n dest) ≡ true
      → differing (coords_in p.dims m) (coords_in p.dims dest) ≤ differing (coords_in p.dims n) (coords_in p.dims dest)
      → Goes p n dest m
  ends : differing (coords_in p.dims m) (coords_in p.dims dest) + 1 ≡ differing (coords_in p.dims n) (coords_in p.dims dest)
      → Goes p n dest m

pub hop-goes : (p : Plan) (n dest m : ℕ) → AllPositive p.dims → neighbour p n (route p n dest) ≡ Some m
    → Goes p n dest m
hop-goes p n dest m positive e = let hop = hop-is p n dest m e in along hop.0 hop.1 hop.2
  where
    along : (i : ℕ) (b : Bool) → IsHop p n dest m i b → Goes p n dest m
    along i b hop = go (coord p m i == coord p dest i) refl (is_wrap p n (route p n dest)) refl (hop-differing p n dest m i b positive hop)
      where
        go : (t : Bool) → (coord p m i == coord p dest i) ≡ t → (w : Bool) → is_wrap p n (route p n dest) ≡ w
            → differing (coords_in p.dims m) (coords_in p.dims dest) + 1 ≡ differing (coords_in p.dims n) (coords_in p.dims dest) + (if t then 0 else 1)
            → Goes p n dest m
        go true same w is count = ends (omega (arith, count))
        go false other true is count = wraps_round is (omega (arith, count))
        go false other false is count =
            straight is (hop-on p n dest m i b positive hop (λ at. grind (arith, nat_tests, at, other))) (omega (arith, count)) (hop-some p n dest m i b positive hop)

-- ---- the end

-- a word is routed to the local port where it is at home, and there only
pub home-route : (p : Plan) (n : ℕ) → route p n n ≡ 0
home-route p n = go (way_of (route p n n)) refl (leads-to p n n)
  where
    go : (w : Way) → way_of (route p n n) ≡ w → Leads p n n w → route p n n ≡ 0
    go Local e home = sym (port_of-way_of (route p n n)) ∙ ap port_of e
    go w e (leads b i first) = absurd (first.differ refl)

route-home : (p : Plan) (n dest : ℕ) → AllPositive p.dims → n < tiles p → dest < tiles p → route p n dest ≡ 0 → n ≡ dest
unfolding route
route-home p n dest positive inside dest_inside e =
    let way : way_from p.torus 0 p.dims (coords_in p.dims n) (coords_in p.dims dest) ≡ Local =
    sym (way_of-port_of (way_from p.torus 0 p.dims (coords_in p.dims n) (coords_in p.dims dest))) ∙ ap way_of e in
    let same =
    local-same p.torus 0 p.dims (coords_in p.dims n) (coords_in p.dims dest) (length-coords p.dims n) (length-coords p.dims dest) way in
    sym (tile_in-coords_in p.dims n positive inside) ∙ ap (tile_in p.dims) same
    ∙ tile_in-coords_in p.dims dest positive dest_inside

route-within : (p : Plan) (dest k n : ℕ) → AllPositive p.dims → n < tiles p → dest < tiles p
    → distance p.torus p.dims (coords_in p.dims n) (coords_in p.dims dest) < k → HasRoute p n dest
route-within p dest zero n positive inside dest_inside less = absurd (omega arith)
route-within p dest (suc k) n positive inside dest_inside less =
    go (route-output p n dest positive) (λ m there near. route-within p dest k m positive there dest_inside near)
  where
    next : (m : ℕ) → neighbour p n (route p n dest) ≡ Some m
        → distance p.torus p.dims (coords_in p.dims m) (coords_in p.dims dest) < k
    next m e =
        let hop = hop-is p n dest m e in
        let near = hop-nearer p n dest m hop.0 hop.1 positive hop.2 in
        omega (arith, near, less)

    along : (o : Option ℕ) → neighbour p n (route p n dest) ≡ o → is_some o ≡ true
        → ((m : ℕ) → m < tiles p → distance p.torus p.dims (coords_in p.dims m) (coords_in p.dims dest) < k → HasRoute p m dest)
        → HasRoute p n dest
    along None e some rest = absurd (cc some)
    along (Some m) e some rest =
        let more = rest m (neighbour-inside p n (route p n dest) m positive e) (next m e) in
        record { tiles = m ∷ more.tiles; is_route = (e, more.is_route) }

    go : IsOutput p n (route p n dest)
        → ((m : ℕ) → m < tiles p → distance p.torus p.dims (coords_in p.dims m) (coords_in p.dims dest) < k → HasRoute p m dest)
        → HasRoute p n dest
    go (inl local) rest = record { tiles = []; is_route = route-home p n dest positive inside dest_inside local }
    go (inr linked) rest = along (neighbour p n (route p n dest)) refl linked rest

-- each tile has a route to each
pub route-exists : (p : Plan) (n dest : ℕ) → IsSound p → n < tiles p → dest < tiles p → HasRoute p n dest
route-exists p n dest sound inside dest_inside =
    route-within p dest (suc (distance p.torus p.dims (coords_in p.dims n) (coords_in p.dims dest))) n (positive-sound p sound) inside dest_inside (omega arith)
