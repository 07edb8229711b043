-- The table of the ways from a tile, built from its last bit on.
use Rattle.std.proofs.Common.{◌≡◌, ℕ, zero, suc, ◌+◌, ◌*◌, ◌^◌, ◌%◌, ◌/◌, ◌<◌, List, [], ◌∷◌, refl, sym, ap, ◌∙◌, arith, add-one}
use Rattle.std.proofs.Math.Nat.{add-mul-mod_self_left, add-mul-div_left, mod-add-div, pow-suc}
use Rattle.vl_tree.specs.Values.{Name, Expr}
use Rattle.noc_model.specs.Plan.{Plan, product, tiles, ports}
use Rattle.noc_model.specs.Place.{coords_in, route, port_of, way_from}
use Rattle.noc_model.specs.Sound.{IsSound}
use Rattle.noc_model.proofs.Coords.{AllPositive}
use Rattle.noc_model.proofs.Kept.{positive-sound}
use Rattle.gen_kit.specs.Families.{in_bits}
use Rattle.gen_kit.specs.Mux.{table, merged}
use Rattle.leaf_parts.specs.Ways.{way_bit, ways_from}

-- ---- numbers behind the last tile

coords_more : (ks : List ℕ) (x q : ℕ) → AllPositive ks → coords_in ks (x + product ks * q) ≡ coords_in ks x
coords_more [] x q h = refl
coords_more (k ∷ ks) x q h =
    let e : x + product (k ∷ ks) * q ≡ x + k * (product ks * q) = omega arith in
    ap (coords_in (k ∷ ks)) e
    ∙ (ap (λ c. c ∷ coords_in ks ((x + k * (product ks * q)) / k)) (add-mul-mod_self_left x k (product ks * q))
    ∙ ap (λ cs. x % k ∷ cs) (ap (coords_in ks) (add-mul-div_left x (product ks * q) h.0) ∙ coords_more ks (x / k) q h.1))

coords_modulo : (ks : List ℕ) (x : ℕ) → AllPositive ks → coords_in ks (x % product ks) ≡ coords_in ks x
coords_modulo ks x h =
    sym (coords_more ks (x % product ks) (x / product ks) h) ∙ ap (coords_in ks) (mod-add-div x (product ks))

pub way_modulo : (p : Plan) (n to : ℕ) → IsSound p → way_bit p n (to % tiles p) ≡ way_bit p n to
unfolding route
way_modulo p n to sound =
    ap (λ cs. 2 ^ port_of (way_from p.torus 0 p.dims (coords_in p.dims n) cs)) (coords_modulo p.dims to (positive-sound p sound))

-- ---- tables

table_same : (n : Name) (width : ℕ) (f g : ℕ → ℕ) (i k : ℕ) → ((x : ℕ) → f x ≡ g x) → table n width f i k ≡ table n width g i k
table_same n width f g i zero e = ap (in_bits width) (e 0)
table_same n width f g i (suc k) e =
    ap (λ t. merged n i t (table n width (λ x. f (2 * x)) (i + 1) k)) (table_same n width (λ x. f (2 * x + 1)) (λ x. g (2 * x + 1)) (i + 1) k (λ x. e (2 * x + 1)))
    ∙ ap (λ t. merged n i (table n width (λ x. g (2 * x + 1)) (i + 1) k) t) (table_same n width (λ x. f (2 * x)) (λ x. g (2 * x)) (i + 1) k (λ x. e (2 * x)))

pub ways_none : (p : Plan) (n : ℕ) (name : Name) (low i : ℕ) → ways_from p n name low i 0 ≡ in_bits (ports p) (way_bit p n low)
ways_none p n name low i = let e : 0 * 2 ^ i + low ≡ low = omega arith in ap (λ to. in_bits (ports p) (way_bit p n to)) e

double : (i : ℕ) → 2 ^ (i + 1) ≡ 2 * 2 ^ i
double i = rw (add-one i) (let e = pow-suc 2 i in omega (arith, e))

pub ways_more : (p : Plan) (n : ℕ) (name : Name) (low i count : ℕ) → ways_from p n name low i (suc count)
    ≡ merged name i (ways_from p n name (low + 2 ^ i) (i + 1) count) (ways_from p n name low (i + 1) count)
ways_more p n name low i count =
    let d = double i in
    let odd : (x : ℕ) → way_bit p n ((2 * x + 1) * 2 ^ i + low) ≡ way_bit p n (x * 2 ^ (i + 1) + (low + 2 ^ i)) =
    λ x. ap (way_bit p n) (let m : x * 2 ^ (i + 1) ≡ x * (2 * 2 ^ i) = ap (λ y. x * y) d in omega (arith, m)) in
    let even : (x : ℕ) → way_bit p n ((2 * x) * 2 ^ i + low) ≡ way_bit p n (x * 2 ^ (i + 1) + low) =
    λ x. ap (way_bit p n) (let m : x * 2 ^ (i + 1) ≡ x * (2 * 2 ^ i) = ap (λ y. x * y) d in omega (arith, m)) in
    ap (λ t. merged name i t (table name (ports p) (λ x. way_bit p n ((2 * x) * 2 ^ i + low)) (i + 1) count))
    (table_same name (ports p) (λ x. way_bit p n ((2 * x + 1) * 2 ^ i + low)) (λ x. way_bit p n (x * 2 ^ (i + 1) + (low + 2 ^ i))) (i + 1) count odd)
    ∙ ap (λ t. merged name i (ways_from p n name (low + 2 ^ i) (i + 1) count) t)
    (table_same name (ports p) (λ x. way_bit p n ((2 * x) * 2 ^ i + low)) (λ x. way_bit p n (x * 2 ^ (i + 1) + low)) (i + 1) count even)

pub ways_all : (p : Plan) (n : ℕ) (name : Name) (count : ℕ) → ways_from p n name 0 0 count ≡ table name (ports p) (λ to. 2 ^ route p n to) 0 count
ways_all p n name count = table_same name (ports p) (λ x. way_bit p n (x * 2 ^ 0 + 0)) (λ to. way_bit p n to) 0 count (λ x. ap (way_bit p n) (let e : x * 2 ^ 0 + 0 ≡ x = omega arith in e))
