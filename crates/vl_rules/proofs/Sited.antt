-- The first line of a module at which a test holds.
use Rattle.std.proofs.Common.{◌≡◌, ℕ, zero, suc, ◌+◌, ◌<◌, ◌≤◌, Bool, true, false, List, [], ◌∷◌, ◌++◌, length, take, drop, refl, sym, ◌∙◌, ap, cond, arith, slice_get, Option, Some, None, append_assoc, length-append}
use Rattle.std.specs.Prelude.{option_map}
use Rattle.std.proofs.lemmas.List.{append-nil, take-append-drop, take_all}
use Rattle.std.specs.Option.{option_or}
use Rattle.std.specs.List.{position_from}
use Rattle.vl_tree.specs.Values.{Leaf}
use Rattle.vl_model.specs.Lines.{Line, Site, sites_behind, module_sites, leaf_sites, leaf_lines}
use Rattle.vl_rules.proofs.Noted.{taken, taken-length, within}

pub position-append : {A : Type 0} (p : A → Bool) (i : ℕ) (xs ys : List A)
    → position_from p i (xs ++ ys) ≡ option_or (position_from p i xs) (position_from p (i + length xs) ys)
position-append p i [] ys = let same : i ≡ i + 0 = omega arith in ap (λ j. position_from p j ys) same
position-append p i (x ∷ xs) ys = go (p x) (position-append p (i + 1) xs ys)
  where
    next : (i + 1) + length xs ≡ i + suc (length xs)
    next = omega arith

    go : (b : Bool)
        → position_from p (i + 1) (xs ++ ys) ≡ option_or (position_from p (i + 1) xs) (position_from p ((i + 1) + length xs) ys)
        → cond b (Some i) (position_from p (i + 1) (xs ++ ys)) ≡ option_or (cond b (Some i) (position_from p (i + 1) xs)) (position_from p (i + suc (length xs)) ys)
    go true e = refl
    go false e = e ∙ ap (λ j. option_or (position_from p (i + 1) xs) (position_from p j ys)) next

sites-append : (ls : List Leaf) (all before xs ys : List Line)
    → sites_behind ls all before (xs ++ ys) ≡ sites_behind ls all before xs ++ sites_behind ls all (before ++ xs) ys
sites-append ls all before [] ys = ap (λ zs. sites_behind ls all zs ys) (sym (append-nil before))
sites-append ls all before (x ∷ xs) ys =
    ap (λ zs. record { leaves = ls; lines = all; before = before; line = x } ∷ zs)
    (sites-append ls all (before ++ x ∷ []) xs ys ∙ ap (λ zs. sites_behind ls all (before ++ x ∷ []) xs ++ sites_behind ls all zs ys) (append_assoc before (x ∷ []) xs))

pub sites-length : (ls : List Leaf) (all before xs : List Line) → length (sites_behind ls all before xs) ≡ length xs
sites-length ls all before [] = refl
sites-length ls all before (x ∷ xs) = ap (λ n. suc n) (sites-length ls all (before ++ x ∷ []) xs)

-- one line more
sited : (t : Site → Bool) (ls : List Leaf) (all xs : List Line) (x : Line)
    → position_from t 0 (sites_behind ls all [] xs) ≡ None
    → position_from t 0 (sites_behind ls all [] (xs ++ x ∷ [])) ≡ cond (t (record { leaves = ls; lines = all; before = xs; line = x })) (Some (length xs)) None
sited t ls all xs x e =
    let here : 0 + length (sites_behind ls all [] xs) ≡ length xs =
    (let same = sites-length ls all [] xs in omega arith) in
    ap (position_from t 0) (sites-append ls all [] xs (x ∷ []))
    ∙ position-append t 0 (sites_behind ls all [] xs) (record { leaves = ls; lines = all; before = xs; line = x } ∷ [])
    ∙ ap (λ o. option_or o (position_from t (0 + length (sites_behind ls all [] xs)) (record { leaves = ls; lines = all; before = xs; line = x } ∷ []))) e
    ∙ ap (λ j. cond (t (record { leaves = ls; lines = all; before = xs; line = x })) (Some j) None) here

module _ (t : Site → Bool) (ls : List Leaf) (lines : List Line) (k : ℕ) (x : Line) (at : slice_get lines k ≡ Some x) (none : position_from t 0 (sites_behind ls lines [] (take k lines)) ≡ None) where
  upto : position_from t 0 (sites_behind ls lines [] (take (k + 1) lines)) ≡ cond (t (record { leaves = ls; lines = lines; before = take k lines; line = x })) (Some k) None
  upto =
      let h = within lines k x at in
      ap (λ ys. position_from t 0 (sites_behind ls lines [] ys)) (taken lines k x at)
      ∙ sited t ls lines (take k lines) x none
      ∙ ap (λ j. cond (t (record { leaves = ls; lines = lines; before = take k lines; line = x })) (Some j) None) (taken-length lines k (omega arith))

  -- the line doesn't pass
  pub none-more : t (record { leaves = ls; lines = lines; before = take k lines; line = x }) ≡ false
      → position_from t 0 (sites_behind ls lines [] (take (k + 1) lines)) ≡ None
  none-more f = upto ∙ ap (λ b. cond b (Some k) None) f

  -- the line passes
  pub first-at : t (record { leaves = ls; lines = lines; before = take k lines; line = x }) ≡ true
      → position_from t 0 (module_sites ls lines) ≡ Some k
  first-at f =
      ap (λ ys. position_from t 0 (sites_behind ls lines [] ys)) (sym (take-append-drop (k + 1) lines))
      ∙ ap (position_from t 0) (sites-append ls lines [] (take (k + 1) lines) (drop (k + 1) lines))
      ∙ position-append t 0 (sites_behind ls lines [] (take (k + 1) lines)) (sites_behind ls lines (take (k + 1) lines) (drop (k + 1) lines))
      ∙ ap (λ o. option_or o (position_from t (0 + length (sites_behind ls lines [] (take (k + 1) lines))) (sites_behind ls lines (take (k + 1) lines) (drop (k + 1) lines)))) (upto ∙ ap (λ b. cond b (Some k) None) f)

-- ---- leaf by leaf

position-shift : {A : Type 0} (p : A → Bool) (i j : ℕ) (xs : List A)
    → position_from p (i + j) xs ≡ option_map (λ n. i + n) (position_from p j xs)
position-shift p i j [] = refl
position-shift p i j (x ∷ xs) = go (p x) (position-shift p i (j + 1) xs)
  where
    next : (i + j) + 1 ≡ i + (j + 1)
    next = omega arith

    go : (b : Bool) → position_from p (i + (j + 1)) xs ≡ option_map (λ n. i + n) (position_from p (j + 1) xs)
        → cond b (Some (i + j)) (position_from p ((i + j) + 1) xs) ≡ option_map (λ n. i + n) (cond b (Some j) (position_from p (j + 1) xs))
    go true e = refl
    go false e = ap (λ n. position_from p n xs) next ∙ e

-- behind a list in which none passes
pub position-behind : {A : Type 0} (p : A → Bool) (xs ys : List A) → position_from p 0 xs ≡ None
    → position_from p 0 (xs ++ ys) ≡ option_map (λ n. length xs + n) (position_from p 0 ys)
position-behind p xs ys e =
    let same : 0 + length xs ≡ length xs + 0 = omega arith in
    position-append p 0 xs ys ∙ ap (λ o. option_or o (position_from p (0 + length xs) ys)) e
    ∙ ap (λ n. position_from p n ys) same ∙ position-shift p (length xs) 0 ys

pub position-front : {A : Type 0} (p : A → Bool) (xs ys : List A) (n : ℕ) → position_from p 0 xs ≡ Some n
    → position_from p 0 (xs ++ ys) ≡ Some n
position-front p xs ys n e = position-append p 0 xs ys ∙ ap (λ o. option_or o (position_from p (0 + length xs) ys)) e

leaf-sites-append : (before xs ys : List Leaf)
    → leaf_sites before (xs ++ ys) ≡ leaf_sites before xs ++ leaf_sites (before ++ xs) ys
leaf-sites-append before [] ys = ap (λ zs. leaf_sites zs ys) (sym (append-nil before))
leaf-sites-append before (x ∷ xs) ys =
    ap (λ zs. module_sites before (leaf_lines x) ++ zs) (leaf-sites-append (before ++ x ∷ []) xs ys ∙ ap (λ zs. leaf_sites (before ++ x ∷ []) xs ++ leaf_sites zs ys) (append_assoc before (x ∷ []) xs))
    ∙ sym (append_assoc (module_sites before (leaf_lines x)) (leaf_sites (before ++ x ∷ []) xs) (leaf_sites (before ++ x ∷ xs) ys))

module _ (t : Site → Bool) (ls : List Leaf) (k : ℕ) (l : Leaf) (at : slice_get ls k ≡ Some l) where
  pub one-leaf-more : leaf_sites [] (take (k + 1) ls) ≡ leaf_sites [] (take k ls) ++ module_sites (take k ls) (leaf_lines l)
  one-leaf-more =
      ap (leaf_sites []) (taken ls k l at) ∙ leaf-sites-append [] (take k ls) (l ∷ [])
      ∙ ap (λ zs. leaf_sites [] (take k ls) ++ zs) (append-nil (module_sites (take k ls) (leaf_lines l)))

  pub one-leaf-longer : length (leaf_sites [] (take (k + 1) ls)) ≡ length (leaf_sites [] (take k ls)) + length (leaf_lines l)
  one-leaf-longer =
      ap length one-leaf-more ∙ length-append (leaf_sites [] (take k ls)) (module_sites (take k ls) (leaf_lines l))
      ∙ ap (λ n. length (leaf_sites [] (take k ls)) + n) (sites-length (take k ls) (leaf_lines l) [] (leaf_lines l))

  -- no line of one leaf more
  pub leaf-none : position_from t 0 (leaf_sites [] (take k ls)) ≡ None
      → position_from t 0 (module_sites (take k ls) (leaf_lines l)) ≡ None
      → position_from t 0 (leaf_sites [] (take (k + 1) ls)) ≡ None
  leaf-none e f =
      ap (position_from t 0) one-leaf-more
      ∙ position-behind t (leaf_sites [] (take k ls)) (module_sites (take k ls) (leaf_lines l)) e
      ∙ ap (option_map (λ n. length (leaf_sites [] (take k ls)) + n)) f

  -- the first line is in this leaf
  pub leaf-at : (n : ℕ) (rest : List Site) → position_from t 0 (leaf_sites [] (take k ls)) ≡ None
      → position_from t 0 (module_sites (take k ls) (leaf_lines l)) ≡ Some n
      → position_from t 0 (leaf_sites [] ls ++ rest) ≡ Some (length (leaf_sites [] (take k ls)) + n)
  leaf-at n rest e f =
      position-front t (leaf_sites [] ls) rest (length (leaf_sites [] (take k ls)) + n)
      (ap (position_from t 0) (ap (leaf_sites []) (sym (take-append-drop (k + 1) ls)) ∙ leaf-sites-append [] (take (k + 1) ls) (drop (k + 1) ls))
      ∙ position-front t (leaf_sites [] (take (k + 1) ls)) (leaf_sites (take (k + 1) ls) (drop (k + 1) ls)) (length (leaf_sites [] (take k ls)) + n)
      (ap (position_from t 0) one-leaf-more ∙ position-behind t (leaf_sites [] (take k ls)) (module_sites (take k ls) (leaf_lines l)) e ∙ ap (option_map (λ n. length (leaf_sites [] (take k ls)) + n)) f))

-- ---- what a search of one module found

pub there : {A : Type 0} (xs : List A) (k : ℕ) → k < length xs → (x : A) × (slice_get xs k ≡ Some x)
there [] k h = absurd (omega arith)
there (x ∷ xs) zero h = (x, refl)
there (x ∷ xs) (suc k) h = there xs k (omega arith)

pub module-is : (t : Site → Bool) (ks ls : List Leaf) (ys xs : List Line) (o p : Option ℕ) → ks ≡ ls → ys ≡ xs
    → o ≡ position_from t 0 (module_sites ks ys) → o ≡ p → position_from t 0 (module_sites ls xs) ≡ p
module-is t ks ls ys xs o p e f g h =
    ap (λ zs. position_from t 0 (module_sites zs xs)) (sym e)
    ∙ ap (λ zs. position_from t 0 (module_sites ks zs)) (sym f) ∙ sym g ∙ h

pub not-some : (o : Option ℕ) → ((n : ℕ) → o ≡ Some n → ⊥) → o ≡ None
not-some None h = refl
not-some (Some n) h = absurd (h n refl)

-- the whole of a design, behind leaves in which no line passes
pub top-is : (t : Site → Bool) (ls : List Leaf) (lines : List Line) (k : ℕ) (o : Option ℕ) → length ls ≤ k
    → position_from t 0 (leaf_sites [] (take k ls)) ≡ None → position_from t 0 (module_sites ls lines) ≡ o
    → position_from t 0 (leaf_sites [] ls ++ module_sites ls lines) ≡ option_map (λ n. length (leaf_sites [] (take k ls)) + n) o
top-is t ls lines k o h e f =
    let all : take k ls ≡ ls = take_all k ls h in
    ap (λ zs. position_from t 0 (leaf_sites [] zs ++ module_sites ls lines)) (sym all)
    ∙ position-behind t (leaf_sites [] (take k ls)) (module_sites ls lines) e
    ∙ ap (option_map (λ n. length (leaf_sites [] (take k ls)) + n)) f
