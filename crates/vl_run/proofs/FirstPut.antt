-- A word that is put at reset is one of the memories' first content.
use Rattle.std.proofs.Common.{◌≡◌, ℕ, zero, suc, ◌==◌, Bool, true, false, ◌&&◌, List, [], ◌∷◌, bytes_eq, refl, sym, ◌∙◌, ap, subst}
use Rattle.std.specs.Prelude.{Option, Some, None, if◌then◌else◌, slice_get}
use Rattle.std.proofs.lemmas.Option.{none-some}
use Rattle.std.proofs.lemmas.Bool.{false≢true}
use Rattle.vl_tree.specs.declared.tree.Join.{Join}
use Rattle.vl_tree.specs.declared.tree.TopItem.{TopItem}
use Rattle.vl_tree.specs.declared.tree.TopItem.TheVariants.{Wire, Instance}
use Rattle.vl_tree.specs.Values.{Name, Leaf, Design}
use Rattle.vl_model.specs.Meaning.{Values}
use Rattle.vl_model.specs.Lines.{leaf_lines, leaf_named, is_memory}
use Rattle.vl_model.specs.Rules.{is_kind, IsSound}
use Rattle.vl_model.specs.Whole.{Of}
use Rattle.vl_model.specs.Settle.{by_name, reset_net, instance_reset, inside_reset}
use Rattle.vl_model.proofs.Settling.{itself, one-name}
use Rattle.vl_model.proofs.Tops.{Each}
use Rattle.vl_model.proofs.One.{found-here}
use Rattle.vl_run.specs.Put.{instances, with_word, with_word_in, with_first}

-- what holds of each instance holds of this one
each-instance : (ls : List Leaf) (P : Leaf → Name → List Join → Type 0) (is : List TopItem) (c : ℕ) (u : Name × Name) (l : Leaf) → Each ls P is
    → slice_get (instances is) c ≡ Some u → leaf_named ls u.0 ≡ Some l → (js : List Join) × P l u.1 js
each-instance ls P [] c u l each at named = absurd (none-some u at)
each-instance ls P (Wire h m ∷ is) c u l each at named = each-instance ls P is c u l each.1 at named
each-instance ls P (Instance k m js ∷ is) zero u l each at named =
    let one : (k, m) ≡ u = cc in
    (js, subst (λ (z : Name × Name). P l z.1 js) one (holds (leaf_named ls k) (ap (λ (z : Name × Name). leaf_named ls z.0) one ∙ named) each.0))
  where
    holds : (o : Option Leaf) → o ≡ Some l → Of o (λ y. P y m js) → P l m js
    holds None e h = absurd (none-some l e)
    holds (Some y) e h = let same : y ≡ l = cc in subst (λ z. P z m js) same h
each-instance ls P (Instance k m js ∷ is) (suc c) u l each at named = each-instance ls P is c u l each.1 at named

-- values that are given alike for a name
by_name-same : (ls : List Leaf) (is : List TopItem) (f g : Option Leaf → Name → List Join → Values) (other : Name → Values) (a : Name)
    → ((o : Option Leaf) (js : List Join) → f o a js ≡ g o a js) → by_name ls is f other a ≡ by_name ls is g other a
by_name-same ls [] f g other a same = refl
by_name-same ls (Wire h m ∷ is) f g other a same = by_name-same ls is f g other a same
by_name-same ls (Instance k m js ∷ is) f g other a same = go (bytes_eq a m) (by_name-same ls is f g other a same)
  where
    go : (b : Bool) → by_name ls is f other a ≡ by_name ls is g other a
        → (if b then f (leaf_named ls k) a js else by_name ls is f other a) ≡ (if b then g (leaf_named ls k) a js else by_name ls is g other a)
    go true rest = same (leaf_named ls k) js
    go false rest = rest

-- where no instance has the name
abbrev nothing : Name → Values
nothing n = record { net = λ m. 0; word = λ m i. 0 }

module _ (d : Design) (sound : IsSound d) (first : Name → Name → ℕ → ℕ) (c : ℕ) (u : Name × Name) (l : Leaf) (n : Name) (i x : ℕ) where
  abbrev after : Name → Name → ℕ → ℕ
  after = with_first first u.1 n i x

  reset-at : (content : Name → Name → ℕ → ℕ) → slice_get (instances d.top.items) c ≡ Some u → leaf_named d.leaves u.0 ≡ Some l
      → inside_reset d.leaves d.top.items content u.1 ≡ instance_reset (Some l) (content u.1)
  reset-at content at named =
      (each-instance d.leaves (λ y m js. by_name d.leaves d.top.items (λ o k zs. instance_reset o (content k)) nothing m ≡ instance_reset (Some y) (content m)) d.top.items c u l
      (found-here d sound (λ o k zs. instance_reset o (content k)) nothing) at named).1

  word-same : is_kind is_memory (leaf_lines l) n ≡ true → (m : Name) (j : ℕ)
      → (if bytes_eq m n && (i == j) then x else (if is_kind is_memory (leaf_lines l) m then first u.1 m j else 0)) ≡ (if is_kind is_memory (leaf_lines l) m then after u.1 m j else 0)
  word-same memory m j =
      go (bytes_eq m n) (i == j) (is_kind is_memory (leaf_lines l) m) refl refl
      ∙ sym (ap (λ b. if is_kind is_memory (leaf_lines l) m then (if b && (bytes_eq m n && (i == j)) then x else first u.1 m j) else 0) (itself u.1))
    where
      go : (b e k : Bool) → bytes_eq m n ≡ b → is_kind is_memory (leaf_lines l) m ≡ k
          → (if b && e then x else (if k then first u.1 m j else 0)) ≡ (if k then (if b && e then x else first u.1 m j) else 0)
      go true true true same is = refl
      go true true false same is = absurd (false≢true (sym is ∙ ap (is_kind is_memory (leaf_lines l)) (one-name m n same) ∙ memory))
      go true false true same is = refl
      go true false false same is = refl
      go false e true same is = refl
      go false e false same is = refl

  pub first-put : slice_get (instances d.top.items) c ≡ Some u → leaf_named d.leaves u.0 ≡ Some l → is_kind is_memory (leaf_lines l) n ≡ true
      → with_word_in (inside_reset d.leaves d.top.items first) u.1 n i x ≡ inside_reset d.leaves d.top.items after
  first-put at named memory = λ t a. one a (bytes_eq a u.1) refl t
    where
      same : with_word (instance_reset (Some l) (first u.1)) n i x ≡ instance_reset (Some l) (after u.1)
      same = λ t. record { net = reset_net l.items; word = λ m j. word-same memory m j t }

      here : with_word_in (inside_reset d.leaves d.top.items first) u.1 n i x u.1 ≡ inside_reset d.leaves d.top.items after u.1
      here = ap (λ b. if b then with_word (inside_reset d.leaves d.top.items first u.1) n i x else inside_reset d.leaves d.top.items first u.1) (itself u.1)
          ∙ ap (λ v. with_word v n i x) (reset-at first at named) ∙ same ∙ sym (reset-at after at named)

      one : (a : Name) (b : Bool) → bytes_eq a u.1 ≡ b → with_word_in (inside_reset d.leaves d.top.items first) u.1 n i x a ≡ inside_reset d.leaves d.top.items after a
      one a true e = subst (λ z. with_word_in (inside_reset d.leaves d.top.items first) u.1 n i x z ≡ inside_reset d.leaves d.top.items after z) (sym (one-name a u.1 e)) here
      one a false e =
          ap (λ b. if b then with_word (inside_reset d.leaves d.top.items first a) n i x else inside_reset d.leaves d.top.items first a) e
          ∙ by_name-same d.leaves d.top.items (λ o k zs. instance_reset o (first k)) (λ o k zs. instance_reset o (after k)) nothing a
          (λ o zs. ap (instance_reset o) (λ t m j. sym (ap (λ b. if b && (bytes_eq m n && (i == j)) then x else first a m j) e) t))
