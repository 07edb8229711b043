-- A route's output is there, and so are the channels that are given out on it.
use Rattle.std.proofs.Common.{◌≡◌, ◌≢◌, ℕ, zero, suc, ◌+◌, ◌*◌, ◌/◌, ◌%◌, ◌<◌, ◌≤◌, ◌⊎◌, inl, inr, Bool, true, false, length, refl, sym, ◌∙◌, ap, arith, lit<, ◌&&◌, ◌||◌, Option}
use Rattle.std.specs.Prelude.{Some, None, is_some, nat_lt, not, slice_index, slice_index_or, if◌then◌else◌, option_map}
use Rattle.std.proofs.lemmas.Bool.Decides.{nat_tests}
use Rattle.std.proofs.lemmas.List.{get_or_past}
use Rattle.noc_model.specs.Plan.{Plan, channels, link_channels, classes, in_channels, out_channels, ports, at_local}
use Rattle.noc_model.specs.declared.ways.Way.{Way}
use Rattle.noc_model.specs.declared.ways.Way.TheVariants.{Local, Plus, Minus}
use Rattle.noc_model.specs.Place.{coords_in, way_of, port_of, side, coord, has_link, neighbour, route, goes_plus, class_after, is_wrap, is_wrap_way, is_same_dim, are_edges, next_in, last_in}
use Rattle.noc_model.specs.Inputs.{pack}
use Rattle.noc_model.specs.Pick.{pick, least}
use Rattle.noc_model.specs.Tile.{Tile}
use Rattle.noc_model.specs.Step.{class_of, free_channel, free_for, is_candidate, winner, taken_channel, waits_for}
use Rattle.noc_model.specs.SoundState.{IsOutput}
use Rattle.noc_model.proofs.Coords.{AllPositive, within-coords_in, length-within, coord-within}
use Rattle.noc_model.proofs.Wave.{port_of-way_of}
use Rattle.noc_model.proofs.Rank.{by, First, Leads, home, leads, leads-to}
use Rattle.noc_model.proofs.Inputs.{input-within, pack-below, class-below, classes-some}
use Rattle.noc_model.proofs.Least.{least-member, pick-member}
use Rattle.noc_model.proofs.Switch.{then-is}

-- where coordinates differ they are on a side
on_side : (p : Plan) (n dest i : ℕ) → AllPositive p.dims → coord p n i ≢ coord p dest i
    → (coord p n i < side p i) × (coord p dest i < side p i)
unfolding coord side
on_side p n dest i positive differ = go order
  where
    order : (i < length p.dims) ⊎ (length p.dims ≤ i)
    order = grind arith

    none : (m : ℕ) → length p.dims ≤ i → slice_index (coords_in p.dims m) i ≡ 0
    none m past =
        get_or_past (coords_in p.dims m) i 0 (rw (length-within p.dims (coords_in p.dims m) (within-coords_in p.dims m positive)) past)

    go : (i < length p.dims) ⊎ (length p.dims ≤ i)
        → (slice_index (coords_in p.dims n) i < slice_index_or p.dims i 1) × (slice_index (coords_in p.dims dest) i < slice_index_or p.dims i 1)
    go (inl there) = (
      coord-within p.dims (coords_in p.dims n) i (within-coords_in p.dims n positive) there,
      coord-within p.dims (coords_in p.dims dest) i (within-coords_in p.dims dest positive) there,
    )
    go (inr past) = absurd (differ (none n past ∙ sym (none dest past)))

plus-link : (torus : Bool) (k x y : ℕ) → x < k → y < k → x ≢ y → goes_plus torus k x y ≡ true
    → (nat_lt 1 k && (torus || nat_lt (x + 1) k)) ≡ true
plus-link torus k x y hx hy differ goes = grind (arith, nat_tests)

minus-link : (torus : Bool) (k x y : ℕ) → x < k → y < k → x ≢ y → goes_plus torus k x y ≡ false
    → (nat_lt 1 k && (torus || nat_lt 0 x)) ≡ true
minus-link torus k x y hx hy differ goes = grind (arith, nat_tests)

first-link : (p : Plan) (n dest i : ℕ) (b : Bool) → AllPositive p.dims → First p n dest i b
    → has_link p n (by b i) ≡ true
first-link p n dest i true positive first =
    let on = on_side p n dest i positive first.differ in
    plus-link p.torus (side p i) (coord p n i) (coord p dest i) on.0 on.1 first.differ first.goes
first-link p n dest i false positive first =
    let on = on_side p n dest i positive first.differ in
    minus-link p.torus (side p i) (coord p n i) (coord p dest i) on.0 on.1 first.differ first.goes

linked-some : (p : Plan) (n o : ℕ) (w : Way) → way_of o ≡ w → has_link p n w ≡ true → is_some (neighbour p n o) ≡ true
unfolding neighbour
linked-some p n o w e linked = rw (e, linked) refl

-- a route goes by an output that is there
pub route-output : (p : Plan) (n dest : ℕ) → AllPositive p.dims → IsOutput p n (route p n dest)
route-output p n dest positive = go (way_of (route p n dest)) refl (leads-to p n dest)
  where
    go : (w : Way) → way_of (route p n dest) ≡ w → Leads p n dest w → IsOutput p n (route p n dest)
    go Local e home = inl (sym (port_of-way_of (route p n dest)) ∙ ap port_of e)
    go w e (leads b i first) =
        inr (linked-some p n (route p n dest) (by b i) e (first-link p n dest i b positive first))

-- ---- classes and channels

few-class : (torus wrap same : Bool) (c : ℕ) → (wrap ≡ true → torus ≡ true) → c < (if torus then 2 else 1)
    → (if wrap then 1 else (if same then c else 0)) < (if torus then 2 else 1)
few-class true true same c h low = lit< tt
few-class false true same c h low = absurd (let bad = h refl in cc)
few-class torus false true c h low = low
few-class torus false false c h low = let some = classes-some torus in omega arith

pub and-first : (a b : Bool) → (a && b) ≡ true → a ≡ true
and-first true b e = refl
and-first false b e = absurd (cc e)

wrap-torus : (p : Plan) (n : ℕ) (w : Way) → is_wrap_way p n w ≡ true → p.torus ≡ true
wrap-torus p n Local e = absurd (cc e)
wrap-torus p n (Plus i) e =
    and-first p.torus (nat_lt 1 (side p i) && are_edges (side p i) (coord p n i) (next_in (side p i) (coord p n i))) e
wrap-torus p n (Minus i) e =
    and-first p.torus (nat_lt 1 (side p i) && are_edges (side p i) (coord p n i) (last_in (side p i) (coord p n i))) e

pub class-few : (p : Plan) (n in_port in_class out_port : ℕ) → in_class < classes p
    → class_after p n in_port in_class out_port < classes p
unfolding class_after is_wrap
class-few p n in_port in_class out_port low =
    few-class p.torus (is_wrap_way p n (way_of out_port)) (is_same_dim (way_of in_port) (way_of out_port)) in_class (wrap-torus p n (way_of out_port)) low

no_dim-local : (w : Way) → is_same_dim w Local ≡ false
no_dim-local Local = refl
no_dim-local (Plus i) = refl
no_dim-local (Minus i) = refl

pub class-local : (p : Plan) (n in_port in_class : ℕ) → class_after p n in_port in_class 0 ≡ 0
unfolding class_after is_wrap
class-local p n in_port in_class = rw no_dim-local refl

-- an input channel is of a class
pub channel-class : (p : Plan) (d port c : ℕ) → c < in_channels p d port → c / channels p d < classes p
channel-class p d port c below = class-below p d c (input-within p d port c below)

pub option-map-is : {A B : Type 0} (f : A → B) (o : Option A) (y : B) → option_map f o ≡ Some y
    → (x : A) × (o ≡ Some x) × (f x ≡ y)
option-map-is f None y e = absurd (cc e)
option-map-is f (Some x) y e = (x, refl, cc)

free-few : (p : Plan) (d : ℕ) (s : Tile) (o class w : ℕ) → class < classes p → (o ≡ 0 → class ≡ 0)
    → free_channel p d s o class ≡ Some w → w < out_channels p d o
free-few p d s zero class w low local e =
    let found = option-map-is (pack p d class) (least 1 (λ j. not (s.held 0 (pack p d class j)))) w e in
    let member = least-member 1 (λ j. not (s.held 0 (pack p d class j))) found.0 found.1 in
    let at : class ≡ 0 = local refl in
    let none : class * channels p d ≡ 0 = rw at (omega arith) in
    omega (arith, found.2, member.0)
free-few p d s (suc o) class w low local e =
    let found =
    option-map-is (pack p d class) (least (channels p d) (λ j. not (s.held (suc o) (pack p d class j)))) w e in
    let member = least-member (channels p d) (λ j. not (s.held (suc o) (pack p d class j))) found.0 found.1 in
    rw (← found.2) (pack-below p d class found.0 low member.0)

-- a channel of a class at an output is one of the output's
pub free-there : (p : Plan) (d o class j : ℕ) → class < classes p → (o ≡ 0 → class ≡ 0)
    → j < at_local o 1 (channels p d) → pack p d class j < out_channels p d o
free-there p d zero class j low local below =
    let at : class ≡ 0 = local refl in
    let none : class * channels p d ≡ 0 = rw at (omega arith) in
    omega (arith, none)
free-there p d (suc o) class j low local below = pack-below p d class j low below

pub class-zero : (p : Plan) (d n port c o : ℕ) → o ≡ 0 → class_of p d n port c o ≡ 0
class-zero p d n port c o e = rw e (class-local p n port (c / channels p d))

-- the channel that is given out is one of the output's
pub taken-channel_few : (p : Plan) (d n : ℕ) (s : Tile) (o w : ℕ) → taken_channel p d n s o ≡ Some w
    → w < out_channels p d o
unfolding taken_channel winner
taken-channel_few p d n s o w e =
    let got =
    then-is (λ k. free_for p d n s o (k / link_channels p d) (k % link_channels p d)) (pick (ports p * link_channels p d) (is_candidate p d n s o) (s.allocation o)) w e in
    let member = pick-member (ports p * link_channels p d) (is_candidate p d n s o) (s.allocation o) got.0 got.1 in
    let inside : got.0 % link_channels p d < in_channels p d (got.0 / link_channels p d) =
    below-true (got.0 % link_channels p d) (in_channels p d (got.0 / link_channels p d)) (and-first (nat_lt (got.0 % link_channels p d) (in_channels p d (got.0 / link_channels p d))) (waits_for (s.stage (got.0 / link_channels p d) (got.0 % link_channels p d)) o && is_some (free_for p d n s o (got.0 / link_channels p d) (got.0 % link_channels p d))) member.1) in
    free-few p d s o (class_of p d n (got.0 / link_channels p d) (got.0 % link_channels p d) o) w
    (class-few p n (got.0 / link_channels p d) (got.0 % link_channels p d / channels p d) o (channel-class p d (got.0 / link_channels p d) (got.0 % link_channels p d) inside))
    (class-zero p d n (got.0 / link_channels p d) (got.0 % link_channels p d) o)
    got.2
  where
    below-true : (a b : ℕ) → nat_lt a b ≡ true → a < b
    below-true a b e = grind (arith, nat_tests)
