-- What it says that no line breaks a rule, module by module.
use Rattle.std.proofs.Common.{◌≡◌, ℕ, ◌+◌, Bool, true, false, List, [], ◌∷◌, ◌++◌, Option, refl, sym, subst, append_assoc, bytes_eq, cond}
use Rattle.std.specs.Prelude.{Some, None, option_map}
use Rattle.std.specs.List.{AllByRecursion, position_from}
use Rattle.std.proofs.lemmas.List.{append-nil}
use Rattle.std.proofs.lemmas.Option.{none-some}
use Rattle.vl_tree.specs.declared.fault.TextFault.{TextFault}
use Rattle.vl_tree.specs.Values.{Name, Leaf, Design}
use Rattle.vl_model.specs.Lines.{Line, Site, sites_behind, module_sites, leaf_sites, leaf_lines, top_lines, sites, leaf_named}
use Rattle.vl_model.specs.Rules.{Rule, rules, or_later, first_fault_of, first_fault, name_twice, name_unknown, wrong_width, wrong_order, wrong_driver, goes_through, wrong_size, wrong_joins}

pub all-front : {A : Type 0} (P : A → Type 0) (xs ys : List A) → AllByRecursion P (xs ++ ys) → AllByRecursion P xs
all-front P [] ys a = tt
all-front P (x ∷ xs) ys a = (a.0, all-front P xs ys a.1)

pub all-back : {A : Type 0} (P : A → Type 0) (xs ys : List A) → AllByRecursion P (xs ++ ys) → AllByRecursion P ys
all-back P [] ys a = a
all-back P (x ∷ xs) ys a = all-back P xs ys a.1

pub all-map : {A : Type 0} (P Q : A → Type 0) → ((x : A) → P x → Q x) → (xs : List A) → AllByRecursion P xs
    → AllByRecursion Q xs
all-map P Q f [] a = tt
all-map P Q f (x ∷ xs) a = (f x a.0, all-map P Q f xs a.1)

-- no place is one of a fault
abbrev pub Passes : (Site → Bool) → List Site → Type 0
Passes t ps = AllByRecursion (λ p. t p ≡ false) ps

abbrev pub PassAll : List Site → Type 0
PassAll ps = AllByRecursion (λ (r : Rule). Passes r.1 ps) rules

or-none : (a b : Option TextFault) → or_later a b ≡ None → (a ≡ None) × (b ≡ None)
or-none None b e = (refl, e)
or-none (Some x) b e = absurd (none-some x (sym e))

map-none : (f : ℕ → TextFault) (o : Option ℕ) → option_map f o ≡ None → o ≡ None
map-none f None e = refl
map-none f (Some n) e = absurd (none-some (f n) (sym e))

none-passes : (t : Site → Bool) (i : ℕ) (ps : List Site) → position_from t i ps ≡ None → Passes t ps
none-passes t i [] e = tt
none-passes t i (p ∷ ps) e = go (none-passes t (i + 1) ps) (t p) refl
  where
    go : (position_from t (i + 1) ps ≡ None → Passes t ps) → (b : Bool) → t p ≡ b → (t p ≡ false) × Passes t ps
    go rest true is = absurd (none-some i (sym (subst (λ c. cond c (Some i) (position_from t (i + 1) ps) ≡ None) is e)))
    go rest false is = (is, rest (subst (λ c. cond c (Some i) (position_from t (i + 1) ps) ≡ None) is e))

pub no-fault : (rs : List Rule) (ps : List Site) → first_fault_of rs ps ≡ None
    → AllByRecursion (λ (r : Rule). Passes r.1 ps) rs
no-fault [] ps e = tt
no-fault (r ∷ rs) ps e =
    let both = or-none (option_map r.0 (position_from r.1 0 ps)) (first_fault_of rs ps) e in
    (none-passes r.1 0 ps (map-none r.0 (position_from r.1 0 ps) both.0), no-fault rs ps both.1)

pub pass-all : (d : Design) → first_fault d ≡ None → PassAll (sites d)
unfolding first_fault
pass-all d e = no-fault rules (sites d) e

pub pass-front : (xs ys : List Site) → PassAll (xs ++ ys) → PassAll xs
pass-front xs ys a =
    all-map (λ (r : Rule). Passes r.1 (xs ++ ys)) (λ (r : Rule). Passes r.1 xs) (λ r p. all-front (λ p. r.1 p ≡ false) xs ys p) rules a

pub pass-back : (xs ys : List Site) → PassAll (xs ++ ys) → PassAll ys
pass-back xs ys a =
    all-map (λ (r : Rule). Passes r.1 (xs ++ ys)) (λ (r : Rule). Passes r.1 ys) (λ r p. all-back (λ p. r.1 p ≡ false) xs ys p) rules a

-- the lines of one module keep the rules, where these leaves stand before it
pub record SoundModule (leaves : List Leaf) (lines : List Line) : Type 0 where
  pub once : Passes name_twice (module_sites leaves lines)
  pub known : Passes name_unknown (module_sites leaves lines)
  pub width : Passes wrong_width (module_sites leaves lines)
  pub order : Passes wrong_order (module_sites leaves lines)
  pub driver : Passes wrong_driver (module_sites leaves lines)
  pub through : Passes goes_through (module_sites leaves lines)
  pub size : Passes wrong_size (module_sites leaves lines)
  pub joins : Passes wrong_joins (module_sites leaves lines)

sound-module : (leaves : List Leaf) (lines : List Line) → PassAll (module_sites leaves lines) → SoundModule leaves lines
sound-module leaves lines a = record {
  once = a.0;
  known = a.1.0;
  width = a.1.1.0;
  order = a.1.1.1.0;
  driver = a.1.1.1.1.0;
  through = a.1.1.1.1.1.0;
  size = a.1.1.1.1.1.1.0;
  joins = a.1.1.1.1.1.1.1.0;
}

abbrev pub SoundLeaf : Leaf → Type 0
SoundLeaf l = (before : List Leaf) × SoundModule before (leaf_lines l)

pub named-sound : (before ls : List Leaf) (n : Name) (l : Leaf) → leaf_named ls n ≡ Some l
    → PassAll (leaf_sites before ls) → SoundLeaf l
named-sound before [] n l e a = absurd (none-some l e)
named-sound before (x ∷ ls) n l e a = go (λ f. named-sound (before ++ x ∷ []) ls n l f (pass-back (module_sites before (leaf_lines x)) (leaf_sites (before ++ x ∷ []) ls) a)) (bytes_eq n x.name) refl
  where
    go : (leaf_named ls n ≡ Some l → SoundLeaf l) → (b : Bool) → bytes_eq n x.name ≡ b → SoundLeaf l
    go rest true is =
        let one : x ≡ l = cc (subst (λ c. cond c (Some x) (leaf_named ls n) ≡ Some l) is e) in
        (before, subst (λ y. SoundModule before (leaf_lines y)) one (sound-module before (leaf_lines x) (pass-front (module_sites before (leaf_lines x)) (leaf_sites (before ++ x ∷ []) ls) a)))
    go rest false other = rest (subst (λ c. cond c (Some x) (leaf_named ls n) ≡ Some l) other e)

-- each leaf of a sound design, and its top
pub leaf-sound : (d : Design) → first_fault d ≡ None → (n : Name) (l : Leaf) → leaf_named d.leaves n ≡ Some l
    → SoundLeaf l
leaf-sound d e n l is =
    named-sound [] d.leaves n l is (pass-front (leaf_sites [] d.leaves) (module_sites d.leaves (top_lines d.top)) (pass-all d e))

pub top-sound : (d : Design) → first_fault d ≡ None → SoundModule d.leaves (top_lines d.top)
top-sound d e =
    sound-module d.leaves (top_lines d.top) (pass-back (leaf_sites [] d.leaves) (module_sites d.leaves (top_lines d.top)) (pass-all d e))

-- the sites behind some lines
pub passes-behind : (t : Site → Bool) (ls : List Leaf) (all before a b : List Line)
    → Passes t (sites_behind ls all before (a ++ b)) → Passes t (sites_behind ls all (before ++ a) b)
passes-behind t ls all before [] b p = subst (λ x. Passes t (sites_behind ls all x b)) (sym (append-nil before)) p
passes-behind t ls all before (x ∷ a) b p =
    subst (λ y. Passes t (sites_behind ls all y b)) (append_assoc before (x ∷ []) a) (passes-behind t ls all (before ++ x ∷ []) a b p.1)

pub passes-before : (t : Site → Bool) (ls : List Leaf) (all before a b : List Line)
    → Passes t (sites_behind ls all before (a ++ b)) → Passes t (sites_behind ls all before a)
passes-before t ls all before [] b p = tt
passes-before t ls all before (x ∷ a) b p = (p.0, passes-before t ls all (before ++ x ∷ []) a b p.1)
