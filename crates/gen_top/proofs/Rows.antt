-- Lists that are written element by element.
use Rattle.std.proofs.Common.{◌≡◌, ℕ, zero, suc, ◌+◌, ◌==◌, ◌≤◌, ◌<◌, Bool, true, false, List, [], ◌∷◌, ◌++◌, take, map, filter, flat_map, refl, sym, ap, ◌∙◌, add-one, append_assoc, append-nil, arith, Some}
use Rattle.std.specs.Prelude.{slice_get, nat_lt, if◌then◌else◌}
use Rattle.std.proofs.lemmas.Bool.Decides.{nat_tests}
use Rattle.std.proofs.lemmas.Grind.{flat_map-append}
use Rattle.std.proofs.lemmas.List.{map-append}
use Rattle.std.proofs.lemmas.List.Elements.{filter-append}
use Rattle.std.proofs.lemmas.Option.{slice_get_within, get_or_from_slice_get}
use Rattle.std.proofs.Math.Seq.{take-suc}
use Rattle.vl_tree.specs.declared.tree.Join.{Join}
use Rattle.noc_model.specs.declared.Host.{Host}
use Rattle.noc_model.specs.Plan.{Plan}
use Rattle.noc_model.specs.Place.{neighbour, opposite}
use Rattle.noc_model.specs.Events.{tabulate}
use Rattle.gen_kit.specs.Shape.{Tied, credit_bits, host_ties, first_ties, second_ties, link_ties}
use Rattle.gen_top.specs.Joined.{below, joins_of, hosts_at, more_ties, ties_below}

-- one more element of a list, read from its front
pub taken : {A : Type 0} (xs : List A) (j : ℕ) (x : A) → slice_get xs j ≡ Some x → take (j + 1) xs ≡ take j xs ++ x ∷ []
taken xs j x e =
    ap (λ n. take n xs) (add-one j) ∙ (take-suc xs j x (slice_get_within xs j x e)
    ∙ ap (λ y. take j xs ++ y ∷ []) (get_or_from_slice_get xs j x x e))

pub added : {A : Type 0} (l a b xs ys : List A) → a ≡ l ++ xs → b ≡ a ++ ys → b ≡ l ++ (xs ++ ys)
added l a b xs ys e f = f ∙ (ap (λ z. z ++ ys) e ∙ append_assoc l xs ys)

-- ---- numbers below k

below_more : (k : ℕ) → below (k + 1) ≡ below k ++ k ∷ []
below_more k = ap below (add-one k) ∙ more k (λ n. n)
  where
    more : (n : ℕ) (f : ℕ → ℕ) → tabulate (suc n) f ≡ tabulate n f ++ f n ∷ []
    more zero f = refl
    more (suc n) f = ap (λ xs. f 0 ∷ xs) (more n (λ k. f (suc k)))

flat_below : {A : Type 0} (f : ℕ → List A) (k : ℕ) → flat_map f (below (k + 1)) ≡ flat_map f (below k) ++ f k
flat_below f k =
    ap (flat_map f) (below_more k) ∙ (flat_map-append f (below k) (k ∷ [])
    ∙ ap (λ ys. flat_map f (below k) ++ ys) (append-nil (f k)))

-- a list for each number
pub flat_more : {A : Type 0} (f : ℕ → List A) (k : ℕ) (l a b : List A) → a ≡ l ++ flat_map f (below k)
    → b ≡ a ++ f k → b ≡ l ++ flat_map f (below (k + 1))
flat_more f k l a b e g = added l a b (flat_map f (below k)) (f k) e g ∙ ap (λ ys. l ++ ys) (sym (flat_below f k))

-- an element for each number
pub map_more : {A : Type 0} (f : ℕ → A) (k : ℕ) (l a b : List A) → a ≡ l ++ map f (below k)
    → b ≡ a ++ f k ∷ [] → b ≡ l ++ map f (below (k + 1))
map_more f k l a b e g =
    added l a b (map f (below k)) (f k ∷ []) e g
    ∙ ap (λ ys. l ++ ys) (sym (ap (map f) (below_more k) ∙ map-append f (below k) (k ∷ [])))

-- ---- joins

joins-append : (a b : List Tied) → joins_of (a ++ b) ≡ joins_of a ++ joins_of b
joins-append a b = map-append (λ (t : Tied). record { port = t.port.name; net = t.net }) a b

pub joins_more : (l a b : List Join) (ts us : List Tied) → a ≡ l ++ joins_of ts → b ≡ a ++ joins_of us
    → b ≡ l ++ joins_of (ts ++ us)
joins_more l a b ts us e f = added l a b (joins_of ts) (joins_of us) e f ∙ ap (λ ys. l ++ ys) (sym (joins-append ts us))

hosts_joined : (n : ℕ) (xs ys : List Host) → hosts_at n (xs ++ ys) ≡ hosts_at n xs ++ hosts_at n ys
hosts_joined n xs ys =
    ap (flat_map host_ties) (filter-append (λ (h : Host). h.tile == n) xs ys)
    ∙ flat_map-append host_ties (filter (λ (h : Host). h.tile == n) xs) (filter (λ (h : Host). h.tile == n) ys)

pub hosts_more : (n j : ℕ) (hs : List Host) (h : Host) (l a b : List Join) → slice_get hs j ≡ Some h
    → a ≡ l ++ joins_of (hosts_at n (take j hs))
    → b ≡ a ++ joins_of (hosts_at n (h ∷ [])) → b ≡ l ++ joins_of (hosts_at n (take (j + 1) hs))
hosts_more n j hs h l a b e before more =
    joins_more l a b (hosts_at n (take j hs)) (hosts_at n (h ∷ [])) before more
    ∙ ap (λ ts. l ++ joins_of ts) (sym (ap (hosts_at n) (taken hs j h e) ∙ hosts_joined n (take j hs) (h ∷ [])))

pub host_here : (n : ℕ) (h : Host) → (h.tile == n) ≡ true → hosts_at n (h ∷ []) ≡ host_ties h
host_here n h e = ap (λ (b : Bool). flat_map host_ties (if b then h ∷ [] else [])) e ∙ append-nil (host_ties h)

pub host_away : (n : ℕ) (h : Host) → (h.tile == n) ≡ false → hosts_at n (h ∷ []) ≡ []
host_away n h e = ap (λ (b : Bool). flat_map host_ties (if b then h ∷ [] else [])) e

pub links_more : (p : Plan) (n k : ℕ) (l a b : List Join) → a ≡ l ++ joins_of (ties_below p n k)
    → b ≡ a ++ joins_of (link_ties p n k (neighbour p n k)) → b ≡ l ++ joins_of (ties_below p n (k + 1))
links_more p n k l a b e f =
    joins_more l a b (ties_below p n k) (link_ties p n k (neighbour p n k)) e f
    ∙ ap (λ ts. l ++ joins_of ts) (sym (flat_below (λ q. link_ties p n q (neighbour p n q)) k))

module _ (p : Plan) (n q m : ℕ) (there : Some m ≡ neighbour p n q) where
  ties-are : (ts : List Tied) → more_ties p n q m ≡ ts
      → first_ties p n q m (opposite q) ++ ts ≡ link_ties p n q (neighbour p n q)
  ties-are ts e = ap (λ us. first_ties p n q m (opposite q) ++ us) (sym e) ∙ ap (link_ties p n q) there

  -- a link with one bundle of credits
  pub one_bundle : (back : ℕ) (l a : List Join) → credit_bits p ≤ 64 → back ≡ opposite q
      → a ≡ l ++ joins_of (first_ties p n q m back) → a ≡ l ++ joins_of (link_ties p n q (neighbour p n q))
  one_bundle back l a few is e =
      let test : nat_lt 64 (credit_bits p) ≡ false = grind (arith, nat_tests) in
      let none : more_ties p n q m ≡ [] = ap (λ b. if b then second_ties p n q m (opposite q) else []) test in
      e ∙ ap (λ ts. l ++ joins_of ts) (ap (first_ties p n q m) is
      ∙ (sym (append-nil (first_ties p n q m (opposite q))) ∙ ties-are [] none))

  -- a link with two
  pub two_bundles : (back : ℕ) (l a b : List Join) → 64 < credit_bits p → back ≡ opposite q
      → a ≡ l ++ joins_of (first_ties p n q m back) → b ≡ a ++ joins_of (second_ties p n q m back)
      → b ≡ l ++ joins_of (link_ties p n q (neighbour p n q))
  two_bundles back l a b many is e f =
      let test : nat_lt 64 (credit_bits p) ≡ true = grind (arith, nat_tests) in
      let both : more_ties p n q m ≡ second_ties p n q m (opposite q) = ap (λ c. if c then second_ties p n q m (opposite q) else []) test in
      joins_more l a b (first_ties p n q m back) (second_ties p n q m back) e f
      ∙ ap (λ ts. l ++ joins_of ts) (ap (λ k. first_ties p n q m k ++ second_ties p n q m k) is ∙ ties-are (second_ties p n q m (opposite q)) both)
