-- Links by number, and what comes over them.
use Rattle.std.proofs.Common.{◌≡◌, ◌≢◌, ℕ, zero, suc, ◌+◌, ◌*◌, ◌/◌, ◌%◌, ◌<◌, Bool, true, false, Option, List, [], ◌∷◌, ◌++◌, length, map, get_or, refl, sym, ap, ◌∙◌, arith, mul_comm, ⊎_elim}
use Rattle.std.specs.Prelude.{Some, None, IfSome, ◌==◌, is_some, slice_get, if◌then◌else◌, pos, ◌-ℤ◌}
use Rattle.std.specs.List.{range_with_len}
use Rattle.std.proofs.Math.Nat.{mod-lt}
use Rattle.std.proofs.lemmas.Nat.{mul-add-lt, div_below, div-mul-add, mod-mul-add}
use Rattle.std.proofs.lemmas.List.FromFn.{map-range_with_len_more, get_or-map-range_with_len, length-map-range_with_len}
use Rattle.std.proofs.lemmas.Option.{get_or_from_slice_get}
use Rattle.vc_partition.specs.Lanes.{lane}
use Rattle.std.proofs.lemmas.Bool.Decides.{nat_tests, eqb_tells}
use Rattle.noc_model.specs.declared.LinkFlit.{LinkFlit}
use Rattle.noc_model.specs.declared.ways.Way.{Way}
use Rattle.noc_model.specs.Plan.{Plan, tiles, ports}
use Rattle.noc_model.specs.Sound.{IsSound}
use Rattle.noc_model.specs.Place.{way_of, port_of, opposite_way, opposite, neighbour, owner}
use Rattle.noc_model.proofs.Coords.{positive}
use Rattle.noc_model.proofs.Links.{link-from}
use Rattle.noc_model.proofs.StateKept.{neighbour-inside}
use Rattle.noc_model.proofs.Switched.{link-below}
use Rattle.credit_links.specs.Rows.{last_place}
use Rattle.router_core.specs.Pulses.{pulse_at}
use Rattle.cycle_sim.specs.declared.near.Near.{Near}
use Rattle.cycle_sim.specs.Near.{IsNear}
use Rattle.cycle_sim.specs.Links.{row_of, arrival_from, arrival_at, pulses_of, credit_from, credit_at}

pub number-below : (p : Plan) (m o : ℕ) → m < tiles p → o < ports p → m * ports p + o < tiles p * ports p
number-below p m o inside below = rw (mul_comm (tiles p) (ports p)) (mul-add-lt m (ports p) o (tiles p) inside below)

-- links with one number are one link
pub same-link : (p : Plan) (m o n q : ℕ) → o < ports p → q < ports p → m * ports p + o ≡ n * ports p + q → (m ≡ n) × (o ≡ q)
same-link p m o n q low low' e = (
  sym (div-mul-add m (ports p) o low) ∙ ap (λ k. k / ports p) e ∙ div-mul-add n (ports p) q low',
  sym (mod-mul-add m (ports p) o low) ∙ ap (λ k. k % ports p) e ∙ mod-mul-add n (ports p) q low',
)

-- the other end of a link is a tile, and the link comes to one of its ports
pub link-ends : (p : Plan) (n port m : ℕ) → IsSound p → n < tiles p → neighbour p n port ≡ Some m → (m < tiles p) × (opposite port < ports p)
link-ends p n port m sound inside e =
    let all = positive p.dims sound.sides in
    let back = (link-from p n port m all inside e).back in
    (neighbour-inside p n port m all e, link-below p m (opposite port) (ap is_some back))

-- the port at the other end
pub back-port : (port k : ℕ) (w v : Way) → k ≡ port_of v → v ≡ opposite_way w → w ≡ way_of port → k ≡ opposite port
unfolding opposite
back-port port k w v a b c = a ∙ ap port_of (b ∙ ap opposite_way c)

pub number-is : (p : Plan) (m o count back : ℕ) → count ≡ ports p → back ≡ o → m * count + back ≡ m * ports p + o
number-is p m o count back a b = ap (λ k. m * k + back) a ∙ ap (λ k. m * ports p + k) b

abbrev nothing : Option LinkFlit
nothing = None

pub none-either : (b : Bool) → (if b then nothing else nothing) ≡ nothing
none-either true = refl
none-either false = refl

module _ (p : Plan) (d n t : ℕ) (rows : List (List (Option LinkFlit))) (port : ℕ) where
  pub arrival-unlinked : neighbour p n port ≡ None → arrival_at p d n t rows port ≡ None
  arrival-unlinked e = ap (arrival_from p d t rows port) e

  pub arrival-linked : (m : ℕ) → neighbour p n port ≡ Some m
      → arrival_at p d n t rows port ≡ (if owner p m (opposite port) (pos t -ℤ pos p.stages) == d then last_place (row_of p rows m (opposite port)) else None)
  arrival-linked m e = ap (arrival_from p d t rows port) e

  module _ (m : ℕ) (linked : neighbour p n port ≡ Some m) where
    abbrev pub holder : ℕ
    holder = owner p m (opposite port) (pos t -ℤ pos p.stages)

    pub arrival-own : (row : List (Option LinkFlit)) (x : Option LinkFlit) → holder ≡ d → row ≡ row_of p rows m (opposite port) → last_place row ≡ x
        → arrival_at p d n t rows port ≡ x
    arrival-own row x own at last =
        let same : (holder == d) ≡ true = grind (arith, nat_tests, own) in
        ap (arrival_from p d t rows port) linked ∙ ap (λ b. if b then last_place (row_of p rows m (opposite port)) else None) same ∙ sym (ap last_place at) ∙ last

    pub arrival-other : holder ≢ d → arrival_at p d n t rows port ≡ None
    arrival-other other =
        let apart : (holder == d) ≡ false = grind (arith, nat_tests, other) in
        ap (arrival_from p d t rows port) linked ∙ ap (λ b. if b then last_place (row_of p rows m (opposite port)) else None) apart

    pub arrival-empty : (row : List (Option LinkFlit)) → row ≡ row_of p rows m (opposite port) → last_place row ≡ None → arrival_at p d n t rows port ≡ None
    arrival-empty row at last =
        let empty : last_place (row_of p rows m (opposite port)) ≡ None = sym (ap last_place at) ∙ last in
        ap (arrival_from p d t rows port) linked ∙ ap (λ x. if holder == d then x else None) empty ∙ none-either (holder == d)

module _ (p : Plan) (d n : ℕ) (pulses : List (List (List (Option ℕ)))) (port : ℕ) where
  pub credit-unlinked : neighbour p n port ≡ None → credit_at p d n pulses port ≡ None
  credit-unlinked e = ap (credit_from d pulses port) e

  pub credit-linked : (m : ℕ) → neighbour p n port ≡ Some m → credit_at p d n pulses port ≡ pulse_at (pulses_of pulses m) d (opposite port)
  credit-linked m e = ap (credit_from d pulses port) e

-- a pulse that was read
pub read-at : (pulses : List (List (List (Option ℕ)))) (v : List (List (Option ℕ))) (m d k o : ℕ) (x y : Option ℕ) → v ≡ pulses_of pulses m → k ≡ o
    → slice_get (lane v d) k ≡ Some x → x ≡ y → pulse_at (pulses_of pulses m) d o ≡ y
read-at pulses v m d k o x y at port got is =
    ap (λ w. pulse_at w d o) (sym at) ∙ ap (pulse_at v d) (sym port) ∙ get_or_from_slice_get (lane v d) k x None got ∙ is

-- a credit comes back by a link, and so not by the local port
pub credit-port : (p : Plan) (d n : ℕ) (pulses : List (List (List (Option ℕ)))) (port w : ℕ) → credit_at p d n pulses port ≡ Some w → port ≢ 0
unfolding neighbour
credit-port p d n pulses zero w e = absurd (cc e)
credit-port p d n pulses (suc port) w e = λ z. omega arith

-- ---- a walk over pairs

positive-factor : (a b k : ℕ) → k < a * b → 0 < b
positive-factor a zero k less = absurd (let none : a * 0 ≡ 0 = omega arith in omega (arith, less, none))
positive-factor a (suc b) k less = omega arith

-- a number below a product is a pair's
pub quotient-below : (k a b : ℕ) → k < a * b → k / b < a
quotient-below k a b less = div_below k b a (positive-factor a b k less) less

pub remainder-below : (k a b : ℕ) → k < a * b → k % b < b
remainder-below k a b less = mod-lt k (positive-factor a b k less)

pub some-there : (o : Option ℕ) → is_some o ≡ true → (m : ℕ) × (o ≡ Some m)
some-there None e = absurd (cc e)
some-there (Some m) e = (m, refl)

-- ---- the table of neighbours

abbrev end : Plan → ℕ → Option ℕ
end p k = neighbour p (k / ports p) (k % ports p)

pub near-length : (p : Plan) (near : Near) → IsNear p near → length near.ends.items ≡ tiles p * ports p
near-length p near is = ap length is ∙ length-map-range_with_len (end p) 0 (tiles p * ports p)

pub near-at : (p : Plan) (near : Near) (n port : ℕ) → IsNear p near → n < tiles p → port < ports p → get_or near.ends.items (n * ports p + port) None ≡ neighbour p n port
near-at p near n port is inside low =
    ap (λ xs. get_or xs (n * ports p + port) None) is
    ∙ get_or-map-range_with_len (end p) 0 (tiles p * ports p) (n * ports p + port) (n * ports p + port) None (number-below p n port inside low) (omega arith)
    ∙ ap (λ q. neighbour p q ((n * ports p + port) % ports p)) (div-mul-add n (ports p) port low)
    ∙ ap (neighbour p n) (mod-mul-add n (ports p) port low)

-- a neighbour is a tile
pub near-inside : (p : Plan) (n port : ℕ) (o : Option ℕ) → IsSound p → n < tiles p → o ≡ neighbour p n port → IfSome o (λ m. m < tiles p)
near-inside p n port None sound inside e = tt
near-inside p n port (Some m) sound inside e = (link-ends p n port m sound inside (sym e)).0

-- one link more
pub ends-more : (p : Plan) (xs ys : List (Option ℕ)) (k : ℕ) (x : Option ℕ) → ys ≡ xs ++ x ∷ [] → xs ≡ map (end p) (range_with_len 0 k) → x ≡ end p k
    → ys ≡ map (end p) (range_with_len 0 (k + 1))
ends-more p xs ys k x pushed before is =
    pushed ∙ ap (λ l. l ++ x ∷ []) before ∙ ap (λ o. map (end p) (range_with_len 0 k) ++ o ∷ []) is ∙ sym (map-range_with_len_more (end p) 0 k k (omega arith))
