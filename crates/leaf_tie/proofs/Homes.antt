-- A route goes by the local output only at its destination.
use Rattle.std.proofs.Common.{◌≡◌, ℕ, suc, ◌<◌, Bool, true, false, List, [], ◌∷◌, length, refl, sym, ◌∙◌, ap, arith, subst, ◌==◌, ◌||◌}
use Rattle.std.specs.Prelude.{All, if◌then◌else◌}
use Rattle.std.specs.List.{list_any}
use Rattle.std.proofs.lemmas.Bool.Decides.{nat_tests}
use Rattle.std.proofs.lemmas.List.Elements.{All-head, All-tail}
use Rattle.noc_model.specs.declared.Host.{Host}
use Rattle.noc_model.specs.Plan.{Plan, tiles, hosts, is_host}
use Rattle.noc_model.specs.Place.{coords_in, tile_in, port_of, way_from, goes_plus, route}
use Rattle.noc_model.specs.declared.ways.Way.{Way}
use Rattle.noc_model.specs.declared.ways.Way.TheVariants.{Local, Plus, Minus}
use Rattle.noc_model.specs.Sound.{IsSound}
use Rattle.noc_model.proofs.Coords.{AllPositive, positive, length-coords, tile_in-coords_in}

way-home : (torus : Bool) (i : ℕ) (ks xs ys : List ℕ) → length xs ≡ length ks → length ys ≡ length ks → way_from torus i ks xs ys ≡ Local → xs ≡ ys
way-home torus i [] [] [] lx ly e = refl
way-home torus i [] (x ∷ xs) ys lx ly e = absurd (omega (arith, lx))
way-home torus i [] [] (y ∷ ys) lx ly e = absurd (omega (arith, ly))
way-home torus i (k ∷ ks) [] ys lx ly e = absurd (omega (arith, lx))
way-home torus i (k ∷ ks) (x ∷ xs) [] lx ly e = absurd (omega (arith, ly))
way-home torus i (k ∷ ks) (x ∷ xs) (y ∷ ys) lx ly e = go (x == y) refl e (way-home torus (suc i) ks xs ys (omega (arith, lx)) (omega (arith, ly)))
  where
    onward : (b : Bool) → (if b then Plus i else Minus i) ≡ Local → ⊥
    onward true f = cc f
    onward false f = cc f

    go : (b : Bool) → (x == y) ≡ b → (if b then way_from torus (suc i) ks xs ys else (if goes_plus torus k x y then Plus i else Minus i)) ≡ Local
        → (way_from torus (suc i) ks xs ys ≡ Local → xs ≡ ys) → x ∷ xs ≡ y ∷ ys
    go true is f rest =
        let same : x ≡ y = grind (arith, nat_tests, is) in
        ap (λ z. z ∷ xs) same ∙ ap (λ zs. y ∷ zs) (rest f)
    go false is f rest = absurd (onward (goes_plus torus k x y) f)

local-way : (w : Way) → port_of w ≡ 0 → w ≡ Local
local-way Local e = refl
local-way (Plus i) e = absurd (omega (arith, e))
local-way (Minus i) e = absurd (omega (arith, e))

pub route-home : (p : Plan) (n dest : ℕ) → AllPositive p.dims → n < tiles p → dest < tiles p → route p n dest ≡ 0 → dest ≡ n
unfolding route
route-home p n dest positive here there e =
    let same : coords_in p.dims n ≡ coords_in p.dims dest = way-home p.torus 0 p.dims (coords_in p.dims n) (coords_in p.dims dest) (length-coords p.dims n) (length-coords p.dims dest) (local-way _ e) in
    sym (tile_in-coords_in p.dims dest positive there) ∙ ap (tile_in p.dims) (sym same) ∙ tile_in-coords_in p.dims n positive here

host-inside : (m k n d : ℕ) (hs : List Host) → All (λ (h : Host). (h.tile < m) × (h.domain < k)) hs → list_any (is_host n d) hs ≡ true → n < m
host-inside m k n d [] all e = absurd (cc e)
host-inside m k n d (h ∷ hs) all e = go (is_host n d h) refl e (host-inside m k n d hs (All-tail (λ (g : Host). (g.tile < m) × (g.domain < k)) h hs all))
  where
    go : (b : Bool) → is_host n d h ≡ b → (b || list_any (is_host n d) hs) ≡ true → (list_any (is_host n d) hs ≡ true → n < m) → n < m
    go true is f rest =
        let same : h.tile ≡ n = grind (arith, nat_tests, is) in
        subst (λ z. z < m) same (All-head (λ (g : Host). (g.tile < m) × (g.domain < k)) h hs all).0
    go false is f rest = rest f

pub host-tile : (p : Plan) (n d : ℕ) → IsSound p → hosts p n d ≡ true → n < tiles p
host-tile p n d sound e = host-inside (tiles p) (length p.domains) n d p.hosts sound.hosts e

pub away-home : (p : Plan) (d n dest : ℕ) → IsSound p → n < tiles p → hosts p dest d ≡ true → hosts p n d ≡ false → (route p n dest == 0) ≡ false
away-home p d n dest sound here home absent = go (route p n dest == 0) refl
  where
    go : (b : Bool) → (route p n dest == 0) ≡ b → b ≡ false
    go false e = refl
    go true e =
        let zero_route : route p n dest ≡ 0 = grind (arith, nat_tests, e) in
        let same : dest ≡ n = route-home p n dest (positive p.dims sound.sides) here (host-tile p dest d sound home) zero_route in
        absurd (let bad : true ≡ false = sym home ∙ ap (λ k. hosts p k d) same ∙ absent in cc bad)
