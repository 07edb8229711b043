-- Which names and tiles stand in the draft of a sound plan.
use Rattle.std.proofs.Common.{◌≡◌, ◌≢◌, ℕ, zero, suc, ◌<◌, ◌⊎◌, inl, inr, Bool, true, false, ◌&&◌, not, List, [], ◌∷◌, length, map, get_or, refl, sym, ap, ◌∙◌, subst, arith}
use Rattle.std.specs.Prelude.{pos, All, AllPairs, Contains}
use Rattle.std.specs.List.{range_with_len}
use Rattle.std.specs.Ordering.{int_eq}
use Rattle.std.specs.Str.{bytes_eq}
use Rattle.std.proofs.lemmas.Bool.Decides.{Decides-int_eq}
use Rattle.std.proofs.lemmas.Slice.Eq.{bytes_eq-Decides}
use Rattle.std.proofs.lemmas.Option.{slice_get-get_or}
use Rattle.std.proofs.lemmas.List.Elements.{All-filter}
use Rattle.std.proofs.lemmas.List.Kept.{AllPairs-filter}
use Rattle.noc_model.specs.declared.plan.DomainPart.{DomainPart}
use Rattle.noc_model.specs.Plan.{Plan, tiles, hosts, name_in, name_of, name_at as plan_name_at}
use Rattle.noc_model.specs.Sound.{IsSound}
use Rattle.desc_check.specs.Words.{number_of, is_among}
use Rattle.desc_check.specs.Network.{name_at, is_hosted}
use Rattle.desc_check.specs.Upgrade.{hosted_by, tile_of, hosts_some, hosting, domain_draft}
use Rattle.desc_check.proofs.Judged.{both}
use Rattle.desc_check.proofs.Members.{kept, passed, there-in-map, found-in-map, numbered, all-below, all-rise}
use Rattle.desc_check.proofs.Upgraded.{nobody, none-not}

pub joined : (a b : Bool) → a ≡ true → b ≡ true → (a && b) ≡ true
joined a b h k = rw (h, k) refl

pub same-bytes : (a : List ℕ) → bytes_eq a a ≡ true
same-bytes a = (bytes_eq-Decides a a).1 refl

pub other-bytes : (a b : List ℕ) → a ≢ b → bytes_eq a b ≡ false
other-bytes a b apart = go (bytes_eq a b) refl
  where
    go : (t : Bool) → bytes_eq a b ≡ t → t ≡ false
    go true e = absurd (apart ((bytes_eq-Decides a b).0 e))
    go false e = refl

-- ---- names

-- the draft of domain d has its name
pub name-drafted : (xs : List DomainPart) (d : ℕ) → name_at (map domain_draft xs) d ≡ plan_name_at xs d
name-drafted [] d = refl
name-drafted (x ∷ xs) zero = refl
name-drafted (x ∷ xs) (suc d) = name-drafted xs d

pub name-is : (p : Plan) (d : ℕ) (z : DomainPart) → d < length p.domains → name_of p d ≡ (get_or p.domains d z).name
name-is p d z less = ap name_in (slice_get-get_or p.domains d z less)

-- two domains have two names
pub named-apart : (p : Plan) → IsSound p → (d e : ℕ) → d < e → e < length p.domains → name_of p d ≢ name_of p e
named-apart p sound d e less under = λ same. sound.names_apart d e nobody less under
    (sym (name-is p d nobody (omega arith)) ∙ same ∙ name-is p e nobody under)

one-domain : (p : Plan) → IsSound p → (d e : ℕ) → d < length p.domains → e < length p.domains
    → name_of p d ≡ name_of p e → d ≡ e
one-domain p sound d e in-d in-e same = go order
  where
    order : (d < e) ⊎ ((d ≡ e) ⊎ (e < d))
    order = grind arith

    go : (d < e) ⊎ ((d ≡ e) ⊎ (e < d)) → d ≡ e
    go (inl less) = absurd (named-apart p sound d e less in-e same)
    go (inr (inl is)) = is
    go (inr (inr more)) = absurd (named-apart p sound e d more in-d (sym same))

-- the name of a domain stands among the names of some domains where it is one of them
pub named-among : (p : Plan) (ds : List ℕ) (d : ℕ) → Contains ds d → is_among (map (name_of p) ds)
    (name_of p d) ≡ true
named-among p ds d inside = there-in-map (λ other. bytes_eq other (name_of p d)) (name_of p) ds d inside
    (same-bytes (name_of p d))

among-named : (p : Plan) → IsSound p → (ds : List ℕ) → ((e : ℕ) → Contains ds e → e < length p.domains) → (d : ℕ)
    → d < length p.domains → is_among (map (name_of p) ds) (name_of p d) ≡ true → Contains ds d
among-named p sound ds below d less h =
    let found = found-in-map (λ other. bytes_eq other (name_of p d)) (name_of p) ds h in
    let same : name_of p found.member ≡ name_of p d =
    (bytes_eq-Decides (name_of p found.member) (name_of p d)).0 found.passes in
    subst (Contains ds) (one-domain p sound found.member d (below found.member found.inside) less same) found.inside

-- ---- tiles

pub hosted-below : (p : Plan) (n : ℕ) → All (λ d. d < length p.domains) (hosted_by p n)
hosted-below p n = All-filter (hosts p n) (λ d. d < length p.domains) (range_with_len 0 (length p.domains))
    (all-below (length p.domains))

pub hosted-rise : (p : Plan) (n : ℕ) → AllPairs (λ x y. x < y) (hosted_by p n)
hosted-rise p n = AllPairs-filter (λ x y. x < y) (hosts p n) (range_with_len 0 (length p.domains))
    (all-rise (length p.domains))

pub hosting-below : (p : Plan) → All (λ n. n < tiles p) (hosting p)
hosting-below p = All-filter (hosts_some p) (λ n. n < tiles p) (range_with_len 0 (tiles p)) (all-below (tiles p))

pub hosting-rise : (p : Plan) → AllPairs (λ x y. x < y) (hosting p)
hosting-rise p = AllPairs-filter (λ x y. x < y) (hosts_some p) (range_with_len 0 (tiles p)) (all-rise (tiles p))

member-below : (n : ℕ) (xs : List ℕ) → All (λ k. k < n) xs → (e : ℕ) → Contains xs e → e < n
member-below n xs below e inside = let less = below inside.0 e inside.1 in omega (arith, less, inside.2)

-- a tile whose draft has the domain's name hosts the domain
pub hosts-drafted : (p : Plan) → IsSound p → (n d : ℕ) → d < length p.domains
    → is_hosted (map (tile_of p) (hosting p)) n (name_of p d) ≡ true → hosts p n d ≡ true
hosts-drafted p sound n d less h =
    let found = found-in-map (λ x. int_eq x.at (pos n) && is_among x.domains (name_of p d)) (tile_of p)
    (hosting p) h in
    let parts = both (int_eq (pos found.member) (pos n))
    (is_among (map (name_of p) (hosted_by p found.member)) (name_of p d)) found.passes in
    let is : found.member ≡ n = ap number_of ((Decides-int_eq (pos found.member) (pos n)).0 parts.0) in
    let inside = among-named p sound (hosted_by p found.member)
    (member-below (length p.domains) (hosted_by p found.member) (hosted-below p found.member)) d less parts.1 in
    subst (λ m. hosts p m d ≡ true) is (passed (hosts p found.member)
    (range_with_len 0 (length p.domains)) d inside).1

-- and the draft of a tile that hosts the domain has its name
pub drafted-hosts : (p : Plan) (n d : ℕ) → n < tiles p → d < length p.domains → hosts p n d ≡ true
    → is_hosted (map (tile_of p) (hosting p)) n (name_of p d) ≡ true
drafted-hosts p n d in-n in-d h =
    let inside : Contains (hosted_by p n) d = kept (hosts p n) (range_with_len 0 (length p.domains)) d
    (numbered (length p.domains) d in-d) h in
    let count : length (hosted_by p n) ≢ 0 = (λ none. omega (arith, inside.1, none)) in
    let some : hosts_some p n ≡ true = ap not (none-not (length (hosted_by p n)) count) in
    let tile : Contains (hosting p) n = kept (hosts_some p) (range_with_len 0 (tiles p)) n
    (numbered (tiles p) n in-n) some in
    there-in-map (λ x. int_eq x.at (pos n) && is_among x.domains (name_of p d)) (tile_of p) (hosting p) n tile
    (joined (int_eq (pos n) (pos n)) (is_among (map (name_of p) (hosted_by p n)) (name_of p d))
    ((Decides-int_eq (pos n) (pos n)).1 refl) (named-among p (hosted_by p n) d inside))
