-- Lanes of the inputs that hold the same value at each place.
use Rattle.std.proofs.Common.{◌≡◌, ℕ, zero, suc, ◌<◌, List, [], length, map, replicate, get_or, sym, ◌∙◌, ap, subst, arith}
use Rattle.std.specs.List.{range_with_len}
use Rattle.std.proofs.lemmas.List.{length-replicate}
use Rattle.std.proofs.lemmas.List.FromFn.{length-map-range_with_len, get_or-map-range_with_len}
use Rattle.noc_model.specs.declared.Stage.{Stage}
use Rattle.noc_model.specs.declared.Stage.TheVariants.{Idle}
use Rattle.noc_model.specs.Plan.{Plan, tiles, ports}
use Rattle.noc_model.specs.Inputs.{input_count}
use Rattle.noc_model.specs.Examples.{two_tiles}
use Rattle.vc_partition.specs.Lanes.{lane}
use Rattle.vc_alloc.specs.Shown.{stage_at, GoesBelow}
use Rattle.vc_alloc.proofs.Starts.{map-lanes}

module _ (p : Plan) (st : Stage) (counts : List ℕ) (v : List (List Stage)) (made : v ≡ map (λ c. replicate c st) counts)
    (are : counts ≡ map (input_count p) (range_with_len 0 (length p.domains))) where
  is : v ≡ map (λ d. replicate (input_count p d) st) (range_with_len 0 (length p.domains))
  is = made ∙ ap (map (λ c. replicate c st)) are ∙ map-lanes (input_count p) st (range_with_len 0 (length p.domains))

  pub filled-domains : length v ≡ length p.domains
  filled-domains = ap length is ∙ length-map-range_with_len (λ e. replicate (input_count p e) st) 0 (length p.domains)

  pub filled-lane : (d : ℕ) → d < length p.domains → lane v d ≡ replicate (input_count p d) st
  filled-lane d there =
      ap (λ w. lane w d) is
      ∙ get_or-map-range_with_len (λ e. replicate (input_count p e) st) 0 (length p.domains) d d [] there (omega arith)

  pub filled-inputs : (d : ℕ) → d < length p.domains → length (lane v d) ≡ input_count p d
  filled-inputs d there = ap length (filled-lane d there) ∙ length-replicate (input_count p d) st

  below-in : (n c k : ℕ) → GoesBelow n st → GoesBelow n (get_or (replicate c st) k Idle)
  below-in n zero k goes = tt
  below-in n (suc c) zero goes = goes
  below-in n (suc c) (suc k) goes = below-in n c k goes

  pub filled-goes : (d k : ℕ) → d < length p.domains → GoesBelow (ports p) st → GoesBelow (ports p) (stage_at v d k)
  filled-goes d k there goes =
      let P : List Stage → Type 0 = λ l. GoesBelow (ports p) (get_or l k Idle) in
      subst P (sym (filled-lane d there)) (below-in (ports p) (input_count p d) k goes)

-- ---- the network of two tiles

pub two-domains : (p : Plan) → p ≡ two_tiles → (length p.domains ≡ 2) × (ports p ≡ 3)
two-domains p e = (ap (λ (q : Plan). length q.domains) e, ap ports e)

pub two-inputs : (p : Plan) → p ≡ two_tiles → (input_count p 0 ≡ 3) × (input_count p 1 ≡ 3) × (tiles p ≡ 2)
two-inputs p e = (ap (λ (q : Plan). input_count q 0) e, ap (λ (q : Plan). input_count q 1) e, ap tiles e)
