-- Lanes that hold the same value at each place, and one grant among them.
use Rattle.std.proofs.Common.{◌≡◌, ◌≢◌, ℕ, zero, suc, ◌<◌, List, [], ◌∷◌, length, map, replicate, set, get_or, Option, Some, None, refl, sym, ap, ◌∙◌, subst, arith, ⊎_elim, length-set, get_or-set_same}
use Rattle.std.specs.Prelude.{slice_set}
use Rattle.std.specs.List.{range_with_len}
use Rattle.std.proofs.lemmas.Bool.{cases_eq}
use Rattle.std.proofs.lemmas.Option.{get_or_from_slice_get}
use Rattle.std.proofs.lemmas.List.{length-replicate}
use Rattle.std.proofs.lemmas.List.FromFn.{length-map-range_with_len, get_or-map-range_with_len}
use Rattle.noc_model.specs.declared.Grant.{Grant}
use Rattle.noc_model.specs.Plan.{Plan, ports, in_channels}
use Rattle.noc_model.specs.Examples.{two_tiles}
use Rattle.vc_partition.specs.Lanes.{lane}
use Rattle.vc_partition.proofs.Cuts.{lane-written, lane-other, lanes-other}
use Rattle.domain_xbar.specs.Crossed.{IsGranted, AreWithin, AreSingle}

map-lanes : {T : Type 0} (f : ℕ → ℕ) (x : T) (xs : List ℕ)
    → map (λ c. replicate c x) (map f xs) ≡ map (λ d. replicate (f d) x) xs
map-lanes f x [] = refl
map-lanes f x (y ∷ ys) = ap (λ zs. replicate (f y) x ∷ zs) (map-lanes f x ys)

-- lanes of these lengths
filled-is : {T : Type 0} (x : T) (f : ℕ → ℕ) (n : ℕ) (counts : List ℕ) (v : List (List T))
    → v ≡ map (λ c. replicate c x) counts
    → counts ≡ map f (range_with_len 0 n) → v ≡ map (λ d. replicate (f d) x) (range_with_len 0 n)
filled-is x f n counts v is are = is ∙ ap (map (λ c. replicate c x)) are ∙ map-lanes f x (range_with_len 0 n)

pub filled-places : {T : Type 0} (x : T) (f : ℕ → ℕ) (n : ℕ) (counts : List ℕ) (v : List (List T)) (d : ℕ)
    → v ≡ map (λ c. replicate c x) counts
    → counts ≡ map f (range_with_len 0 n) → d < n → (d < length v) × (length (lane v d) ≡ f d)
filled-places x f n counts v d made are there =
    let is = filled-is x f n counts v made are in
    let long : length v ≡ n = ap length is ∙ length-map-range_with_len (λ e. replicate (f e) x) 0 n in (
      omega (arith, long, there),
      ap (λ w. length (lane w d)) is
          ∙ ap length (get_or-map-range_with_len (λ e. replicate (f e) x) 0 n d d [] there (omega arith))
          ∙ length-replicate (f d) x,
    )

-- each place is read so, also where there is none
all-filled : {T : Type 0} (x : T) (counts : List ℕ) (d k : ℕ)
    → get_or (lane (map (λ c. replicate c x) counts) d) k x ≡ x
all-filled x [] d k = refl
all-filled x (c ∷ cs) zero k = filled c k
  where
    filled : (n j : ℕ) → get_or (replicate n x) j x ≡ x
    filled zero j = refl
    filled (suc n) zero = refl
    filled (suc n) (suc j) = filled n j
all-filled x (c ∷ cs) (suc d) k = all-filled x cs d k

-- one grant is put where there was none
pub record IsOne (w : List (List (Option Grant))) (d port : ℕ) (g : Grant) : Type 0 where
  pub one : (e k : ℕ) (h : Grant) → IsGranted w e k h → (e ≡ d) × (k ≡ port) × (h ≡ g)

pub is-one : (counts : List ℕ) (v w : List (List (Option Grant))) (d port : ℕ) (g : Grant)
    → v ≡ map (λ c. replicate c None) counts
    → w ≡ slice_set v d (slice_set (lane v d) port (Some g)) → d < length v → port < length (lane v d)
    → IsOne w d port g
is-one counts v w d port g made put there inside = record { one = one }
  where
    none : (e k : ℕ) → get_or (lane v e) k None ≡ None
    none e k = ap (λ u. get_or (lane u e) k None) made ∙ all-filled None counts e k

    read : (e k : ℕ) (h : Grant) → IsGranted w e k h
        → get_or (lane (set v d (set (lane v d) port (Some g))) e) k None ≡ Some h
    read e k h is = ap (λ u. get_or (lane u e) k None) (sym put) ∙ get_or_from_slice_get (lane w e) k (Some h) None is

    one : (e k : ℕ) (h : Grant) → IsGranted w e k h → (e ≡ d) × (k ≡ port) × (h ≡ g)
    one e k h is = ⊎_elim
        (λ (same : e ≡ d). ⊎_elim
        (λ (at : k ≡ port).
        let both : Some h ≡ Some g =
        sym (read e k h is) ∙ ap (λ j. get_or (lane (set v d (set (lane v d) port (Some g))) j) k None) same
        ∙ ap (λ j. get_or (lane (set v d (set (lane v d) port (Some g))) d) j None) at
        ∙ lane-written v d port (Some g) None there inside in
        (same, at, cc both))
        (λ (apart : k ≢ port). absurd (let bad : Some h ≡ None =
        sym (read e k h is) ∙ ap (λ j. get_or (lane (set v d (set (lane v d) port (Some g))) j) k None) same
        ∙ lane-other v d port k (Some g) None there apart ∙ none d k in cc bad))
        (cases_eq k port))
        (λ (apart : e ≢ d). absurd (let bad : Some h ≡ None =
        sym (read e k h is) ∙ ap (λ l. get_or l k None) (lanes-other v d e port (Some g) apart) ∙ none e k in cc bad))
        (cases_eq e d)

pub one-single : (p : Plan) (w : List (List (Option Grant))) (d port : ℕ) (g : Grant) → IsOne w d port g → AreSingle p w
one-single p w d port g is = record {
  link = λ a b k j h i there here at too apart same. let x = is.one a k h at in let y = is.one b j i too in (x.0 ∙ sym y.0, x.1 ∙ sym y.1);
  local = λ a k j h i there here at too zero_h zero_i. let x = is.one a k h at in let y = is.one a j i too in x.1 ∙ sym y.1;
}

pub one-within : (p : Plan) (w : List (List (Option Grant))) (d port : ℕ) (g : Grant) → IsOne w d port g
    → g.out < ports p → g.channel < in_channels p d port → AreWithin p w
one-within p w d port g is out channel = λ e k h there at.
    let x = is.one e k h at in
    let P : Grant → Type 0 = λ (i : Grant). (i.out < ports p) × (i.channel < in_channels p e k) in
    let Q : ℕ → Type 0 = λ j. g.channel < in_channels p j k in
    let R : ℕ → Type 0 = λ j. g.channel < in_channels p d j in
    subst P (sym x.2) (out, subst Q (sym x.0) (subst R (sym x.1) channel))

pub put-places : {T : Type 0} (v w : List (List T)) (d k e n : ℕ) (x : T) → w ≡ slice_set v d (slice_set (lane v d) k x)
    → d < length v → (e < length v) × (length (lane v e) ≡ n)
    → (e < length w) × (length (lane w e) ≡ n)
put-places v w d k e n x put there has = (
  let a = ap length put ∙ length-set v d (set (lane v d) k x) in let b = has.0 in omega (arith, a, b),
  ap (λ u. length (lane u e)) put ∙ long ∙ has.1,
)
  where
    long : length (lane (set v d (set (lane v d) k x)) e) ≡ length (lane v e)
    long = ⊎_elim
        (λ (same : e ≡ d).
        ap (λ j. length (lane (set v d (set (lane v d) k x)) j)) same
        ∙ ap length (get_or-set_same v d (set (lane v d) k x) [] there) ∙ length-set (lane v d) k x
        ∙ ap (λ j. length (lane v j)) (sym same))
        (λ (apart : e ≢ d). ap length (lanes-other v d e k x apart))
        (cases_eq e d)

-- ---- the network of two tiles

pub two-domains : (p : Plan) → p ≡ two_tiles → (length p.domains ≡ 2) × (ports p ≡ 3) × (in_channels p 1 0 ≡ 1)
two-domains p e = (ap (λ (q : Plan). length q.domains) e, ap ports e, ap (λ (q : Plan). in_channels q 1 0) e)
