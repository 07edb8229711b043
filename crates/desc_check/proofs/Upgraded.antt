-- Lists of an upgraded draft that are made element by element.
use Rattle.std.proofs.Common.{◌≡◌, ◌≢◌, not, ◌==◌, ℕ, zero, suc, ◌+◌, ◌<◌, Bool, true, false, List, [], ◌∷◌, ◌++◌, length, map, get_or, take, refl, sym, ap, ◌∙◌, arith}
use Rattle.std.specs.Prelude.{slice_get, Some, pos}
use Rattle.std.specs.List.{filter, range_with_len}
use Rattle.std.proofs.lemmas.List.{map_more, map-append, append-nil, length-map}
use Rattle.std.proofs.lemmas.Bool.Decides.{nat_tests}
use Rattle.std.proofs.lemmas.List.Elements.{filter-append}
use Rattle.std.proofs.lemmas.Option.{get_or_from_slice_get, slice_get-get_or}
use Rattle.noc_model.specs.declared.plan.DomainPart.{DomainPart}
use Rattle.noc_model.specs.declared.Range.{Range}
use Rattle.noc_model.specs.Plan.{Plan, name_in, name_at, name_of, channels_in}
use Rattle.desc_check.specs.Upgrade.{hosted_by, hosts_some, domain_draft, range_draft}

-- one element more
pub map-next : {X Y : Type 0} (f : X → Y) (xs : List X) (ys zs : List Y) (i : ℕ) (d : X) (y : Y) → i < length xs
    → ys ≡ map f (take i xs) → zs ≡ ys ++ y ∷ [] → y ≡ f (get_or xs i d)
    → zs ≡ map f (take (i + 1) xs)
map-next f xs ys zs i d y less so_far pushed is =
    pushed ∙ ap (λ t. t ++ y ∷ []) so_far ∙ ap (λ x. map f (take i xs) ++ x ∷ []) is ∙ sym (map_more f xs i d less)

range-more : (a n j : ℕ) → a + n ≡ j → range_with_len a (n + 1) ≡ range_with_len a n ++ j ∷ []
range-more a zero j e = (let is : a ≡ j = omega arith in ap (λ x. x ∷ []) is)
range-more a (suc n) j e =
    let s : suc n + 1 ≡ suc (n + 1) = omega arith in
    rw s (ap (λ (xs : List ℕ). a ∷ xs) (range-more (a + 1) n j (omega arith)))

filter-next : (p : ℕ → Bool) (i : ℕ)
    → filter p (range_with_len 0 (i + 1)) ≡ filter p (range_with_len 0 i) ++ filter p (i ∷ [])
filter-next p i = ap (filter p) (range-more 0 i i (omega arith)) ∙ filter-append p (range_with_len 0 i) (i ∷ [])

-- one number more that is kept
pub kept-next : {Y : Type 0} (p : ℕ → Bool) (f : ℕ → Y) (ys zs : List Y) (i : ℕ) (y : Y) → p i ≡ true
    → ys ≡ map f (filter p (range_with_len 0 i)) → zs ≡ ys ++ y ∷ [] → y ≡ f i
    → zs ≡ map f (filter p (range_with_len 0 (i + 1)))
kept-next p f ys zs i y test so_far pushed is =
    let one : filter p (i ∷ []) ≡ i ∷ [] = rw test refl in
    pushed ∙ ap (λ t. t ++ y ∷ []) so_far ∙ ap (λ x. map f (filter p (range_with_len 0 i)) ++ x ∷ []) is
    ∙ sym (ap (map f) (filter-next p i ∙ ap (λ t. filter p (range_with_len 0 i) ++ t) one) ∙ map-append f (filter p (range_with_len 0 i)) (i ∷ []))

-- one number more that is not
pub left-next : {Y : Type 0} (p : ℕ → Bool) (f : ℕ → Y) (ys : List Y) (i : ℕ) → p i ≡ false
    → ys ≡ map f (filter p (range_with_len 0 i)) → ys ≡ map f (filter p (range_with_len 0 (i + 1)))
left-next p f ys i test so_far =
    let none : filter p (i ∷ []) ≡ [] = rw test refl in
    so_far
    ∙ sym (ap (map f) (filter-next p i ∙ ap (λ t. filter p (range_with_len 0 i) ++ t) none ∙ append-nil (filter p (range_with_len 0 i))))

-- a domain's draft, from its name and its channels
pub domain-is : (xs : List DomainPart) (d : ℕ) (z : DomainPart) (name : List ℕ) (channels : ℕ) → d < length xs
    → name ≡ name_at xs d → channels ≡ channels_in (slice_get xs d)
    → record { name = name; channels = pos channels } ≡ domain_draft (get_or xs d z)
domain-is xs d z name channels less named counted =
    let at = slice_get-get_or xs d z less in
    let a : name ≡ (get_or xs d z).name = named ∙ ap name_in at in
    let b : channels ≡ (get_or xs d z).channels = counted ∙ ap channels_in at in
    λ t. record { name = a t; channels = pos (b t) }

-- a range's draft
pub range-is : (xs : List Range) (i : ℕ) (r : Range) → slice_get xs i ≡ Some r
    → range_draft r ≡ range_draft (get_or xs i r)
range-is xs i r at = ap range_draft (sym (get_or_from_slice_get xs i r r at))

-- a part of no domain
pub nobody : DomainPart
nobody = record { name = []; channels = 0 }

hosted-count : (p : Plan) (n : ℕ) (names : List (List ℕ)) → names ≡ map (name_of p) (hosted_by p n)
    → length (hosted_by p n) ≡ length names
hosted-count p n names e = sym (length-map (hosted_by p n) (name_of p)) ∙ sym (ap length e)

pub none-not : (k : ℕ) → k ≢ 0 → (k == 0) ≡ false
none-not k some = grind (arith, nat_tests)

-- a tile with names hosts a domain
pub some-hosted : (p : Plan) (n : ℕ) (names : List (List ℕ)) → names ≡ map (name_of p) (hosted_by p n)
    → length names ≢ 0 → hosts_some p n ≡ true
some-hosted p n names e some =
    let count = hosted-count p n names e in
    let not_none : length (hosted_by p n) ≢ 0 = (λ z. some (sym count ∙ z)) in
    let test : (length (hosted_by p n) == 0) ≡ false = none-not (length (hosted_by p n)) not_none in
    rw test refl

-- a tile without names hosts none
pub none-hosted : (p : Plan) (n : ℕ) (names : List (List ℕ)) → names ≡ map (name_of p) (hosted_by p n)
    → length names ≡ 0 → hosts_some p n ≡ false
none-hosted p n names e none = ap (λ k. not (k == 0)) (hosted-count p n names e ∙ none)
