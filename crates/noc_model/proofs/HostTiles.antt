-- The tiles that host a domain, in the order of the attachments, and the number of an attachment.
use Rattle.std.proofs.Common.{◌≡◌, ℕ, zero, suc, ◌+◌, ◌<◌, ◌≤◌, ◌⊎◌, inl, inr, Bool, true, false, ◌&&◌, ◌||◌, eqb, List, [], ◌∷◌, length, get_or, refl, sym, ap, ◌∙◌, subst, arith, Option, Some, None}
use Rattle.std.specs.Prelude.{slice_get, if◌then◌else◌, ◌==◌, filter, All, AllPairs}
use Rattle.std.specs.List.{list_any}
use Rattle.std.proofs.lemmas.Bool.Decides.{nat_tests}
use Rattle.std.proofs.lemmas.Option.{get_or_from_slice_get, slice_get_within}
use Rattle.std.proofs.lemmas.List.Folds.{list_any_at}
use Rattle.noc_model.specs.declared.Host.{Host}
use Rattle.noc_model.specs.Plan.{Plan, tiles, hosts, is_host, attach_of}
use Rattle.noc_model.specs.Sound.{IsSound, IsBefore}
use Rattle.noc_model.specs.Events.{tabulate, hosts_of}
use Rattle.noc_model.proofs.Named.{host_at-position, list_any-position, list_any-no_position}

-- the tiles of the domain's hosts
abbrev pub host_tiles : ℕ → List Host → List ℕ
host_tiles d [] = []
host_tiles d (h ∷ hs) = if h.domain == d then h.tile ∷ host_tiles d hs else host_tiles d hs

-- whether the number is one of these
abbrev among : ℕ → List ℕ → Bool
among k [] = false
among k (x ∷ xs) = (x == k) || among k xs

-- numbers that rise, from a to below b
abbrev Rises : ℕ → ℕ → List ℕ → Type 0
Rises a b [] = Unit {0}
Rises a b (x ∷ xs) = (a ≤ x) × (x < b) × Rises (suc x) b xs

not_below : (k a b : ℕ) (xs : List ℕ) → k < a → Rises a b xs → among k xs ≡ false
not_below k a b [] less r = refl
not_below k a b (x ∷ xs) less r =
    let low : a ≤ x = r.0 in
    let other : eqb x k ≡ false = grind (arith, nat_tests) in
    rw other (not_below k (suc x) b xs (omega arith) r.2)

-- numbers that rise are those of a span that are among them
kept : (n a b : ℕ) (f : ℕ → ℕ) (q : ℕ → Bool) (xs : List ℕ) → b ≡ a + n → ((k : ℕ) → f k ≡ a + k) → Rises a b xs
    → ((k : ℕ) → a ≤ k → q k ≡ among k xs) → filter q (tabulate n f) ≡ xs
kept zero a b f q [] count is r same = refl
kept zero a b f q (x ∷ xs) count is r same =
    let low : a ≤ x = r.0 in
    let high : x < b = r.1 in
    absurd (omega arith)
kept (suc n) a b f q [] count is r same =
    let first : f 0 ≡ a = omega (arith, is 0) in
    let here : q (f 0) ≡ false = ap q first ∙ same a (omega arith) in
    rw here (kept n (suc a) b (λ k. f (suc k)) q [] (omega arith) (λ k. omega (arith, is (suc k))) tt (λ k more. same k (omega arith)))
kept (suc n) a b f q (x ∷ xs) count is r same =
    go (eqb x a) refl (λ ys. kept n (suc a) b (λ k. f (suc k)) q ys (omega arith) (λ k. omega (arith, is (suc k))))
  where
    Rest : Type 0
    Rest =
        (ys : List ℕ) → Rises (suc a) b ys → ((k : ℕ) → suc a ≤ k → q k ≡ among k ys) → filter q (tabulate n (λ k. f (suc k))) ≡ ys

    first : f 0 ≡ a
    first = omega (arith, is 0)

    low : a ≤ x
    low = r.0

    go : (t : Bool) → eqb x a ≡ t → Rest → filter q (tabulate (suc n) f) ≡ x ∷ xs
    go true e rest =
        let at : x ≡ a = grind (arith, nat_tests) in
        let here : q (f 0) ≡ true = ap q first ∙ same a (omega arith) ∙ rw e refl in
        let more : (k : ℕ) → suc a ≤ k → q k ≡ among k xs =
        λ k past. let other : eqb x k ≡ false = grind (arith, nat_tests) in same k (omega arith) ∙ rw other refl in
        rw here (ap (λ i. i ∷ filter q (tabulate n (λ k. f (suc k)))) (first ∙ sym at)
        ∙ ap (λ l. x ∷ l) (rest xs (subst (λ i. Rises (suc i) b xs) at r.2) more))
    go false e rest =
        let past : suc a ≤ x = grind (arith, nat_tests) in
        let high : Rises (suc a) b (x ∷ xs) = (past, r.1, r.2) in
        let here : q (f 0) ≡ false =
        ap q first ∙ same a (omega arith) ∙ not_below a (suc a) b (x ∷ xs) (omega arith) high in
        rw here (rest (x ∷ xs) high (λ k more. same k (omega arith)))

and-true : (b : Bool) → (b && true) ≡ b
and-true true = refl
and-true false = refl

and-false : (b : Bool) → (b && false) ≡ false
and-false true = refl
and-false false = refl

-- a tile hosts the domain where it is one of its tiles
hosted-among : (d k : ℕ) (hs : List Host) → list_any (is_host k d) hs ≡ among k (host_tiles d hs)
hosted-among d k [] = refl
hosted-among d k (h ∷ hs) = go (eqb h.domain d) refl (hosted-among d k hs)
  where
    go : (b : Bool) → eqb h.domain d ≡ b → list_any (is_host k d) hs ≡ among k (host_tiles d hs)
        → list_any (is_host k d) (h ∷ hs) ≡ among k (host_tiles d (h ∷ hs))
    go true e rest =
        rw e (ap (λ b. b || list_any (is_host k d) hs) (and-true (eqb h.tile k)) ∙ ap (λ b. eqb h.tile k || b) rest)
    go false e rest = rw e (ap (λ b. b || list_any (is_host k d) hs) (and-false (eqb h.tile k)) ∙ rest)

-- the tiles rise as the hosts do
rises : (d a b : ℕ) (hs : List Host) → All (λ (h : Host). h.tile < b) hs → AllPairs IsBefore hs
    → All (λ (h : Host). h.domain ≡ d → a ≤ h.tile) hs
    → Rises a b (host_tiles d hs)
rises d a b [] below ordered low = tt
rises d a b (h ∷ hs) below ordered low =
    go (eqb h.domain d) refl
    (λ from. rises d from b hs (λ k e less. below (suc k) e (omega (arith, less)))
    (λ i j e less within. ordered (suc i) (suc j) e (omega (arith, less)) (omega (arith, within))))
  where
    Rest : Type 0
    Rest = (from : ℕ) → All (λ (x : Host). x.domain ≡ d → from ≤ x.tile) hs → Rises from b (host_tiles d hs)

    after : (k : ℕ) (x : Host) → k < length hs → h.domain ≡ (get_or hs k x).domain → suc h.tile ≤ (get_or hs k x).tile
    after k x less same =
        let order : IsBefore h (get_or hs k x) = ordered 0 (suc k) x (omega arith) (omega (arith, less)) in
        elim order [ inl l ↦ omega arith | inr r ↦ (let l = r.1 in absurd (omega arith)) ]

    go : (t : Bool) → eqb h.domain d ≡ t → Rest → Rises a b (host_tiles d (h ∷ hs))
    go true e rest =
        let is : h.domain ≡ d = grind (arith, nat_tests) in
        rw e (
          low 0 h (omega arith) is,
          below 0 h (omega arith),
          rest (suc h.tile) (λ k x less same. after k x less (is ∙ sym same)),
        )
    go false e rest = rw e (rest a (λ k x less same. low (suc k) x (omega (arith, less)) same))

-- the tiles that host a domain are those of its hosts, in order
pub hosts_of-tiles : (p : Plan) (d : ℕ) → IsSound p → hosts_of p d ≡ host_tiles d p.hosts
hosts_of-tiles p d sound =
    kept (tiles p) 0 (tiles p) (λ n. n) (λ n. hosts p n d) (host_tiles d p.hosts) (omega arith) (λ k. omega arith)
    (rises d 0 (tiles p) p.hosts (λ k e less. (sound.hosts k e less).0) sound.hosts_in_order (λ k e less same. omega arith))
    (λ k more. hosted-among d k p.hosts)

-- an earlier attachment comes before a later one
pub host-before : (p : Plan) (i j : ℕ) (g h : Host) → IsSound p → slice_get p.hosts i ≡ Some g
    → slice_get p.hosts j ≡ Some h → i < j → IsBefore g h
host-before p i j g h sound e f less =
    let within = slice_get_within p.hosts j h f in
    let a : get_or p.hosts i g ≡ g = get_or_from_slice_get p.hosts i g g e in
    let b : get_or p.hosts j g ≡ h = get_or_from_slice_get p.hosts j h g f in
    subst (λ (x : Host). IsBefore x h) a (subst (IsBefore (get_or p.hosts i g)) b (sound.hosts_in_order i j g less within))

not-before : (g h : Host) → g.tile ≡ h.tile → g.domain ≡ h.domain → IsBefore g h → ⊥
not-before g h tile domain (inl l) = omega arith
not-before g h tile domain (inr r) = let l = r.1 in omega arith

-- two attachments of one tile and domain are one
pub host-unique : (p : Plan) (i j : ℕ) (g h : Host) → IsSound p → slice_get p.hosts i ≡ Some g
    → slice_get p.hosts j ≡ Some h
    → g.tile ≡ h.tile → g.domain ≡ h.domain → i ≡ j
host-unique p i j g h sound e f tile domain = go order
  where
    order : (i < j) ⊎ ((i ≡ j) ⊎ (j < i))
    order = grind arith

    go : (i < j) ⊎ ((i ≡ j) ⊎ (j < i)) → i ≡ j
    go (inl less) = absurd (not-before g h tile domain (host-before p i j g h sound e f less))
    go (inr (inl is)) = is
    go (inr (inr more)) = absurd (not-before h g (sym tile) (sym domain) (host-before p j i h g sound f e more))

-- the tile of an attachment hosts its domain
pub host-hosted : (p : Plan) (j : ℕ) (h : Host) → slice_get p.hosts j ≡ Some h → hosts p h.tile h.domain ≡ true
host-hosted p j h e =
    let less = slice_get_within p.hosts j h e in
    let at : get_or p.hosts j h ≡ h = get_or_from_slice_get p.hosts j h h e in
    let test : is_host h.tile h.domain h ≡ true = grind (arith, nat_tests) in
    list_any_at (is_host h.tile h.domain) p.hosts j h less (ap (is_host h.tile h.domain) at ∙ test)

-- tile n has an attachment of domain d
pub record HasAttachment (p : Plan) (n d : ℕ) : Type 0 where
  pub number : ℕ
  pub is : attach_of p n d ≡ Some number
  pub at : slice_get p.hosts number ≡ Some (record { tile = n; domain = d })

-- a tile that hosts the domain has
pub attached : (p : Plan) (n d : ℕ) → hosts p n d ≡ true → HasAttachment p n d
attached p n d fits = go (attach_of p n d) refl
  where
    go : (o : Option ℕ) → attach_of p n d ≡ o → HasAttachment p n d
    go None e = absurd (let none = list_any-no_position (is_host n d) p.hosts e in cc)
    go (Some j) e = record { number = j; is = e; at = host_at-position n d p.hosts j e }

-- another has none
pub not-attached : (p : Plan) (n d : ℕ) → hosts p n d ≡ false → attach_of p n d ≡ None
not-attached p n d away = go (attach_of p n d) refl
  where
    go : (o : Option ℕ) → attach_of p n d ≡ o → o ≡ None
    go None e = refl
    go (Some j) e =
        absurd (let some = list_any-position (is_host n d) p.hosts j (record { tile = n; domain = d }) e in cc)

-- an attachment has its number
pub number-is : (p : Plan) (j : ℕ) (h : Host) → IsSound p → slice_get p.hosts j ≡ Some h
    → attach_of p h.tile h.domain ≡ Some j
number-is p j h sound e =
    let has = attached p h.tile h.domain (host-hosted p j h e) in
    has.is
    ∙ ap Some (host-unique p has.number j (record { tile = h.tile; domain = h.domain }) h sound has.at e refl refl)

-- the tile and the domain of an attachment are of the plan
pub host-within : (p : Plan) (j : ℕ) (h : Host) → IsSound p → slice_get p.hosts j ≡ Some h
    → (h.tile < tiles p) × (h.domain < length p.domains)
host-within p j h sound e =
    subst (λ (x : Host). (x.tile < tiles p) × (x.domain < length p.domains)) (get_or_from_slice_get p.hosts j h h e)
    (sound.hosts j h (slice_get_within p.hosts j h e))

-- a tile that hosts a domain is there
pub hosts-inside : (p : Plan) (n d : ℕ) → IsSound p → hosts p n d ≡ true → n < tiles p
hosts-inside p n d sound here =
    let has = attached p n d here in
    (host-within p has.number (record { tile = n; domain = d }) sound has.at).0
