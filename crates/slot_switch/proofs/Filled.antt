-- Lanes that hold the same value at each place.
use Rattle.std.proofs.Common.{◌≡◌, ℕ, zero, suc, ◌<◌, List, [], length, map, replicate, sym, ◌∙◌, ap, subst, arith, lit<}
use Rattle.std.specs.Prelude.{Some, slice_get}
use Rattle.std.specs.List.{range_with_len}
use Rattle.std.proofs.lemmas.List.{length-replicate}
use Rattle.std.proofs.lemmas.List.FromFn.{length-map-range_with_len, get_or-map-range_with_len}
use Rattle.noc_model.specs.declared.Stage.TheVariants.{Active}
use Rattle.noc_model.specs.Plan.{Plan, ports, link_channels}
use Rattle.noc_model.specs.Examples.{two_tiles}
use Rattle.vc_partition.specs.Lanes.{lane}
use Rattle.slot_switch.proofs.Asks.{map-lanes}

-- lanes of these lengths
pub filled-is : {T : Type 0} (x : T) (f : ℕ → ℕ) (n : ℕ) (counts : List ℕ) (v : List (List T))
    → v ≡ map (λ c. replicate c x) counts
    → counts ≡ map f (range_with_len 0 n) → v ≡ map (λ d. replicate (f d) x) (range_with_len 0 n)
filled-is x f n counts v is are = is ∙ ap (map (λ c. replicate c x)) are ∙ map-lanes f x (range_with_len 0 n)

pub filled-lane : {T : Type 0} (x : T) (f : ℕ → ℕ) (n : ℕ) (v : List (List T)) (d : ℕ)
    → v ≡ map (λ d. replicate (f d) x) (range_with_len 0 n)
    → d < n → lane v d ≡ replicate (f d) x
filled-lane x f n v d is there =
    ap (λ w. lane w d) is ∙ get_or-map-range_with_len (λ e. replicate (f e) x) 0 n d d [] there (omega arith)

pub filled-places : {T : Type 0} (x : T) (f : ℕ → ℕ) (n : ℕ) (counts : List ℕ) (v : List (List T)) (d : ℕ)
    → v ≡ map (λ c. replicate c x) counts
    → counts ≡ map f (range_with_len 0 n) → d < n → (d < length v) × (length (lane v d) ≡ f d)
filled-places x f n counts v d made are there =
    let is = filled-is x f n counts v made are in
    let long : length v ≡ n = ap length is ∙ length-map-range_with_len (λ e. replicate (f e) x) 0 n in (
      omega (arith, long, there),
      ap length (filled-lane x f n v d is there) ∙ length-replicate (f d) x,
    )

pub filled-get : {T : Type 0} (n k : ℕ) (x y : T) → slice_get (replicate n x) k ≡ Some y → x ≡ y
filled-get zero k x y e = absurd (cc e)
filled-get (suc n) zero x y e = cc e
filled-get (suc n) (suc k) x y e = filled-get n k x y e

-- ---- the network of two tiles

pub two-channels : (p : Plan) → p ≡ two_tiles → (d : ℕ) → d < length p.domains → (1 < ports p) × (0 < link_channels p d)
two-channels p e d there =
    let P : Plan → Type 0 = λ q. d < length q.domains → (1 < ports q) × (0 < link_channels q d) in
    subst P (sym e) (go d) there
  where
    go : (k : ℕ) → k < 2 → (1 < 3) × (0 < link_channels two_tiles k)
    go zero less = (lit< tt, lit< tt)
    go (suc zero) less = (lit< tt, lit< tt)
    go (suc (suc k)) less = absurd (omega (arith, less))

pub two-routed : (p : Plan) (d o w : ℕ) → (1 < ports p) × (0 < link_channels p d) → Active 1 0 ≡ Active o w
    → (o < ports p) × (w < link_channels p d)
two-routed p d o w bounds e =
    let same_o : 1 ≡ o = cc e in
    let same_w : 0 ≡ w = cc e in
    (omega (arith, same_o, bounds.0), omega (arith, same_w, bounds.1))

pub two-domains : (p : Plan) → p ≡ two_tiles → (length p.domains ≡ 2) × (ports p ≡ 3)
two-domains p e = (ap (λ (q : Plan). length q.domains) e, ap ports e)
