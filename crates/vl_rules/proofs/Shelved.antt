-- Leaves found by name, and the shapes of their ports.
use Rattle.std.proofs.Common.{◌≡◌, ℕ, zero, suc, ◌+◌, ◌<◌, ◌≤◌, Bool, true, false, List, [], ◌∷◌, ◌++◌, length, take, map, length-append, inl, inr, subst, refl, sym, ◌∙◌, ap, cond, arith, slice_get, Option, Some, None, bytes_eq}
use Rattle.std.specs.Prelude.{option_map, find}
use Rattle.std.specs.List.{position_from}
use Rattle.vl_tree.specs.declared.tree.Leaf as code
use Rattle.vl_tree.specs.declared.tree.Port.{Port}
use Rattle.vl_tree.specs.Values.{Name, Item, wire, reg, mem, assign, clocked, store}
use Rattle.vl_model.specs.declared.kind.Kind.{Kind}
use Rattle.vl_model.specs.declared.kind.Kind.TheVariants.{Inner, Register, Memory}
use Rattle.vl_model.specs.Lines.{Line, heading, port, item, leaf_lines, Declared, lookup, way_of, port_named}
use Rattle.vl_model.specs.Lines as lines
use Rattle.vl_tree.specs.Read.{read_leaf}
use Rattle.vl_rules.specs.declared.names.Names.{Names}
use Rattle.vl_rules.specs.declared.scope.Entry.{Entry}
use Rattle.vl_rules.specs.declared.library.Shape.{Shape}
use Rattle.vl_rules.specs.Scope.{Declares}
use Rattle.vl_rules.specs.Library.{AreDeclared, shape_of, kind_shape}
use Rattle.vl_rules.proofs.Headed.{at-end}
use Rattle.vl_rules.proofs.Noted.{taken}

-- ---- the first that passes

module _ {A : Type 0} (p : A → Bool) where
  late-position : (i j : ℕ) (xs : List A) → position_from p i xs ≡ Some j → i ≤ j
  late-position i j [] e = cc
  late-position i j (x ∷ xs) e = go (p x) e (late-position (i + 1) j xs)
    where
      go : (b : Bool) → cond b (Some i) (position_from p (i + 1) xs) ≡ Some j
          → (position_from p (i + 1) xs ≡ Some j → i + 1 ≤ j) → i ≤ j
      go true e rest = let same : i ≡ j = cc in omega arith
      go false e rest = let h = rest e in omega arith

  pub position-in : (i j : ℕ) (xs : List A) → position_from p i xs ≡ Some j → j < i + length xs
  position-in i j [] e = cc
  position-in i j (x ∷ xs) e = go (p x) e (position-in (i + 1) j xs)
    where
      go : (b : Bool) → cond b (Some i) (position_from p (i + 1) xs) ≡ Some j
          → (position_from p (i + 1) xs ≡ Some j → j < (i + 1) + length xs) → j < i + suc (length xs)
      go true e rest = let same : i ≡ j = cc in omega arith
      go false e rest = let h = rest e in omega arith

  found-at : (i j k : ℕ) (xs : List A) (y : A) → position_from p i xs ≡ Some (i + j) → j < k → slice_get xs j ≡ Some y
      → find p (take k xs) ≡ Some y
  found-at i j zero xs y e h at = absurd (omega arith)
  found-at i zero (suc k) [] y e h at = cc
  found-at i (suc j) (suc k) [] y e h at = cc
  found-at i zero (suc k) (x ∷ xs) y e h at = go (p x) e
    where
      go : (b : Bool) → cond b (Some i) (position_from p (i + 1) xs) ≡ Some (i + 0)
          → cond b (Some x) (find p (take k xs)) ≡ Some y
      go true e = at
      go false e = absurd (let h = late-position (i + 1) (i + 0) xs e in omega arith)
  found-at i (suc j) (suc k) (x ∷ xs) y e h at = go (p x) e (found-at (i + 1) j k xs y)
    where
      next : i + suc j ≡ (i + 1) + j
      next = omega arith

      go : (b : Bool) → cond b (Some i) (position_from p (i + 1) xs) ≡ Some (i + suc j)
          → (position_from p (i + 1) xs ≡ Some ((i + 1) + j) → j < k → slice_get xs j ≡ Some y → find p (take k xs) ≡ Some y)
          → cond b (Some x) (find p (take k xs)) ≡ Some y
      go true e rest = absurd (let same : i ≡ i + suc j = cc in omega arith)
      go false e rest = rest (e ∙ ap (λ n. Some n) next) (omega arith) at

  found-late : (i j k : ℕ) (xs : List A) → position_from p i xs ≡ Some (i + j) → k ≤ j → find p (take k xs) ≡ None
  found-late i j zero xs e h = refl
  found-late i j (suc k) [] e h = refl
  found-late i zero (suc k) (x ∷ xs) e h = absurd (omega arith)
  found-late i (suc j) (suc k) (x ∷ xs) e h = go (p x) e (found-late (i + 1) j k xs)
    where
      next : i + suc j ≡ (i + 1) + j
      next = omega arith

      go : (b : Bool) → cond b (Some i) (position_from p (i + 1) xs) ≡ Some (i + suc j)
          → (position_from p (i + 1) xs ≡ Some ((i + 1) + j) → k ≤ j → find p (take k xs) ≡ None)
          → cond b (Some x) (find p (take k xs)) ≡ None
      go true e rest = absurd (let same : i ≡ i + suc j = cc in omega arith)
      go false e rest = rest (e ∙ ap (λ n. Some n) next) (omega arith)

  pub named-none : (i k : ℕ) (xs : List A) → position_from p i xs ≡ None → find p (take k xs) ≡ None
  named-none i zero xs e = refl
  named-none i (suc k) [] e = refl
  named-none i (suc k) (x ∷ xs) e = go (p x) e (named-none (i + 1) k xs)
    where
      go : (b : Bool) → cond b (Some i) (position_from p (i + 1) xs) ≡ None
          → (position_from p (i + 1) xs ≡ None → find p (take k xs) ≡ None)
          → cond b (Some x) (find p (take k xs)) ≡ None
      go true e rest = cc
      go false e rest = rest e

  pub named-at : (j k : ℕ) (xs : List A) (y : A) → position_from p 0 xs ≡ Some j → j < k → slice_get xs j ≡ Some y
      → find p (take k xs) ≡ Some y
  named-at j k xs y e h at = let same : j ≡ 0 + j = omega arith in found-at 0 j k xs y (e ∙ ap (λ n. Some n) same) h at

  pub named-late : (j k : ℕ) (xs : List A) → position_from p 0 xs ≡ Some j → k ≤ j → find p (take k xs) ≡ None
  named-late j k xs e h = let same : j ≡ 0 + j = omega arith in found-late 0 j k xs (e ∙ ap (λ n. Some n) same) h

-- ---- ports

shape_in : Option Declared → Option Shape
shape_in None = None
shape_in (Some x) = kind_shape x.kind x.high

shape-port : (p : Port) (n : Name) (later : Option Declared) (rest : Option Port)
    → shape_in later ≡ option_map shape_of rest
    → shape_in (cond (bytes_eq n p.name) (Some (record { name = p.name; kind = way_of p.output; high = p.high; last = 0 })) later) ≡ option_map shape_of (cond (bytes_eq n p.name) (Some p) rest)
unfolding shape_in
shape-port p n later rest e = go (bytes_eq n p.name) p.output refl
  where
    go : (b o : Bool) → p.output ≡ o
        → shape_in (cond b (Some (record { name = p.name; kind = way_of p.output; high = p.high; last = 0 })) later) ≡ option_map shape_of (cond b (Some p) rest)
    go true true f = rw f refl
    go true false f = rw f refl
    go false o f = e

no-shape : (c : Kind) (h last : ℕ) (m n : Name) (later : Option Declared) → kind_shape c h ≡ None
    → shape_in later ≡ None
    → shape_in (lines.found (Some (record { name = m; kind = c; high = h; last = last })) n later) ≡ None
unfolding shape_in
no-shape c h last m n later f e = go (bytes_eq n m)
  where
    go : (b : Bool) → shape_in (cond b (Some (record { name = m; kind = c; high = h; last = last })) later) ≡ None
    go true = f
    go false = e

shape-items : (is : List Item) (n : Name) → shape_in (lookup (map item is) n) ≡ None
unfolding shape_in
shape-items [] n = refl
shape-items (wire h m ∷ is) n = no-shape Inner h 0 m n (lookup (map item is) n) refl (shape-items is n)
shape-items (reg h m ∷ is) n = no-shape Register h 0 m n (lookup (map item is) n) refl (shape-items is n)
shape-items (mem h m last ∷ is) n = no-shape Memory h last m n (lookup (map item is) n) refl (shape-items is n)
shape-items (assign m e ∷ is) n = shape-items is n
shape-items (clocked m k e ∷ is) n = shape-items is n
shape-items (store c m i e ∷ is) n = shape-items is n

shape-ports : (ps : List Port) (is : List Item) (n : Name)
    → shape_in (lookup (map port ps ++ map item is) n) ≡ option_map shape_of (port_named ps n)
unfolding shape_in
shape-ports [] is n = shape-items is n
shape-ports (p ∷ ps) is n =
    shape-port p n (lookup (map port ps ++ map item is) n) (port_named ps n) (shape-ports ps is n)

-- what the leaf's lines declare under a name says the shape of its port
pub shape-none : (ps : List Port) (is : List Item) (n : Name) → lookup (map port ps ++ map item is) n ≡ None
    → None ≡ option_map shape_of (port_named ps n)
unfolding shape_in
shape-none ps is n e = sym (ap shape_in e) ∙ shape-ports ps is n

pub shape-some : (ps : List Port) (is : List Item) (n : Name) (x : Declared)
    → lookup (map port ps ++ map item is) n ≡ Some x → kind_shape x.kind x.high ≡ option_map shape_of (port_named ps n)
unfolding shape_in
shape-some ps is n x e = sym (ap shape_in e) ∙ shape-ports ps is n

-- ---- tables of leaves

pub declared-more : (all : List code.Leaf) (ts : List (Names Entry)) (i : ℕ) (l : code.Leaf) (t : Names Entry)
    → AreDeclared (take i all) ts → slice_get all i ≡ Some l → Declares t (leaf_lines (read_leaf l))
    → AreDeclared (take (i + 1) all) (ts ++ t ∷ [])
declared-more all ts i l t h at d = rw (taken all i l at) (longer (take i all) h)
  where
    longer : (ls : List code.Leaf) → AreDeclared ls ts → AreDeclared (ls ++ l ∷ []) (ts ++ t ∷ [])
    longer ls k = record {
      long = (let same = k.long in simp length-append (omega arith));
      each = λ j m u em eu. elim (at-end ls l m j em) [
        | inl p ↦ elim (at-end ts t u j eu) [ inl q ↦ k.each j m u p.1 q.1 | inr q ↦ absurd (let a = p.0 in let b = q.0 in let same = k.long in omega arith) ]
        | inr p ↦ elim (at-end ts t u j eu) [ inl q ↦ absurd (let a = p.0 in let b = q.0 in let same = k.long in omega arith) | inr q ↦ subst (λ x. Declares x (leaf_lines (read_leaf m))) q.1 (subst (λ x. Declares t (leaf_lines (read_leaf x))) p.1 d) ]
      ];
    }
