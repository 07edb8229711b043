-- What the items of a sound leaf declare is found under their names.
use Rattle.std.proofs.Common.{◌≡◌, ℕ, zero, suc, ◌+◌, Bool, true, false, List, [], ◌∷◌, ◌++◌, map, Option, refl, sym, ◌∙◌, ap, bytes_eq}
use Rattle.std.specs.Prelude.{Some, None, if◌then◌else◌, slice_get}
use Rattle.std.specs.List.{AllByRecursion}
use Rattle.std.proofs.lemmas.Option.{none-some}
use Rattle.vl_tree.specs.Values.{Name, Item, wire, reg, mem, assign, clocked, store, Leaf, Design}
use Rattle.vl_model.specs.declared.kind.Kind.TheVariants.{Register, Memory}
use Rattle.vl_model.specs.Lines.{Line, item, sites_behind, leaf_lines, Declared, declared, found, lookup, leaf_named}
use Rattle.vl_model.specs.Rules.{name_twice, IsSound}
use Rattle.vl_model.proofs.Passed.{Passes, passes-behind, leaf-sound}
use Rattle.vl_model.proofs.Settling.{one-name, itself}
use Rattle.vl_model.proofs.Ordered.{more}
use Rattle.vl_model.proofs.Leaves.{front}
use Rattle.vl_run.specs.Places.{ArePlaces}
use Rattle.vl_run.proofs.Inputs.{no-lookup, lookup-behind}
use Rattle.vl_run.proofs.Standing.{LeafFacts, leaf-facts}

-- ---- a name that is found

found-name : (o : Option Declared) (n : Name) (later : Option Declared) (x : Declared) → (later ≡ Some x → n ≡ x.name) → found o n later ≡ Some x → n ≡ x.name
found-name None n later x rest e = rest e
found-name (Some y) n later x rest e = go (bytes_eq n y.name) refl
  where
    go : (b : Bool) → bytes_eq n y.name ≡ b → n ≡ x.name
    go true is =
        let one : y ≡ x = cc (rw is at e) in
        one-name n y.name is ∙ ap (λ (z : Declared). z.name) one
    go false is = rest (rw is at e)

pub lookup-name : (ls : List Line) (n : Name) (x : Declared) → lookup ls n ≡ Some x → n ≡ x.name
lookup-name [] n x e = absurd (none-some x e)
lookup-name (y ∷ ls) n x e = found-name (declared y) n (lookup ls n) x (lookup-name ls n x) e

-- ---- items

-- the registers and memories among the items are what their names are declared as
abbrev pub IsFirst : List Line → Item → Type 0
IsFirst all (reg h n) = lookup all n ≡ Some (record { name = n; kind = Register; high = h; last = 0 })
IsFirst all (mem h n last) = lookup all n ≡ Some (record { name = n; kind = Memory; high = h; last = last })
IsFirst all (wire h n) = Unit {0}
IsFirst all (assign n e) = Unit {0}
IsFirst all (clocked n k e) = Unit {0}
IsFirst all (store c n i e) = Unit {0}

first-here : (all before : List Line) (x : Item) (is : List Item) (y : Declared) → all ≡ before ++ map item (x ∷ is) → declared (item x) ≡ Some y → lookup before y.name ≡ None → lookup all y.name ≡ Some y
first-here all before x is y e what none =
    let here : lookup (map item (x ∷ is)) y.name ≡ Some y =
    ap (λ o. found o y.name (lookup (map item is) y.name)) what ∙ ap (λ b. if b then Some y else lookup (map item is) y.name) (itself y.name) in
    ap (λ z. lookup z y.name) e ∙ lookup-behind before (map item (x ∷ is)) y.name none ∙ here

first-items : (ls : List Leaf) (all before : List Line) (is : List Item) → all ≡ before ++ map item is → Passes name_twice (sites_behind ls all before (map item is)) → AllByRecursion (IsFirst all) is
unfolding name_twice
first-items ls all before [] e p = tt
first-items ls all before (wire h n ∷ is) e p = (tt, first-items ls all (before ++ item (wire h n) ∷ []) is (more all before (wire h n) is e) p.1)
first-items ls all before (reg h n ∷ is) e p =
    (first-here all before (reg h n) is (record { name = n; kind = Register; high = h; last = 0 }) e refl (no-lookup (lookup before n) p.0), first-items ls all (before ++ item (reg h n) ∷ []) is (more all before (reg h n) is e) p.1)
first-items ls all before (mem h n last ∷ is) e p =
    (first-here all before (mem h n last) is (record { name = n; kind = Memory; high = h; last = last }) e refl (no-lookup (lookup before n) p.0), first-items ls all (before ++ item (mem h n last) ∷ []) is (more all before (mem h n last) is e) p.1)
first-items ls all before (assign n v ∷ is) e p = (tt, first-items ls all (before ++ item (assign n v) ∷ []) is (more all before (assign n v) is e) p.1)
first-items ls all before (clocked n k v ∷ is) e p = (tt, first-items ls all (before ++ item (clocked n k v) ∷ []) is (more all before (clocked n k v) is e) p.1)
first-items ls all before (store c n i v ∷ is) e p = (tt, first-items ls all (before ++ item (store c n i v) ∷ []) is (more all before (store c n i v) is e) p.1)

-- what is used of a sound leaf
pub record LeafNames (l : Leaf) : Type 0 where
  pub facts : LeafFacts l
  pub first : AllByRecursion (IsFirst (leaf_lines l)) l.items

pub leaf-names : (d : Design) → IsSound d → (n : Name) (l : Leaf) → leaf_named d.leaves n ≡ Some l → LeafNames l
leaf-names d sound n l e =
    let s = leaf-sound d sound.rules n l e in
    record {
      facts = leaf-facts d sound n l e;
      first = first-items s.0 (leaf_lines l) (front l) l.items refl (passes-behind name_twice s.0 (leaf_lines l) [] (front l) (map item l.items) s.1.once);
    }

-- ---- what stands at a place, by the name that its line declares

-- the number of a declared name
abbrev pub net_of : (Name → ℕ) → Option Declared → ℕ
net_of u None = 0
net_of u (Some x) = u x.name

abbrev pub net_at : (Name → ℕ) → Option Line → ℕ
net_at u None = 0
net_at u (Some y) = net_of u (declared y)

-- these many numbers, from the one of j on
abbrev pub listed : (ℕ → ℕ) → ℕ → ℕ → List ℕ
listed f j zero = []
listed f j (suc count) = f j ∷ listed f (j + 1) count

-- the words of a declared name
abbrev pub words_of : (Name → ℕ → ℕ) → Option Declared → List ℕ
words_of u None = []
words_of u (Some x) = listed (u x.name) 0 (x.last + 1)

abbrev pub words_at : (Name → ℕ → ℕ) → Option Line → List ℕ
words_at u None = []
words_at u (Some y) = words_of u (declared y)

module _ (all : List Line) (s : Name → ℕ) (places : ArePlaces all s) where
  pub net-there : (u : Name → ℕ) (n : Name) (x : Declared) → lookup all n ≡ Some x → net_at u (slice_get all (s n)) ≡ u n
  net-there u n x e =
      let y = places.line n x e in
      ap (net_at u) y.1 ∙ ap (net_of u) y.2 ∙ ap u (sym (lookup-name all n x e))

  pub words-there : (u : Name → ℕ → ℕ) (n : Name) (x : Declared) → lookup all n ≡ Some x → words_at u (slice_get all (s n)) ≡ listed (u n) 0 (x.last + 1)
  words-there u n x e =
      let y = places.line n x e in
      ap (words_at u) y.1 ∙ ap (words_of u) y.2 ∙ ap (λ m. listed (u m) 0 (x.last + 1)) (sym (lookup-name all n x e))
