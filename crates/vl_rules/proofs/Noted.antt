-- Tables of the lines of a module, as the code makes them line by line.
use Rattle.std.proofs.Common.{◌≡◌, ℕ, zero, suc, ◌+◌, ◌<◌, ◌≤◌, Bool, true, false, ltb, List, [], ◌∷◌, ◌++◌, length, take, refl, sym, ◌∙◌, ap, cond, arith, add-one, add-zero, slice_get, Option, Some, None, bytes_eq}
use Rattle.std.specs.Option.{option_or}
use Rattle.std.specs.List.{list_any, position_from}
use Rattle.std.proofs.lemmas.Bool.{lt-ltb}
use Rattle.std.proofs.lemmas.Bool.Decides.{nat_tests}
use Rattle.vl_tree.specs.Values.{Name}
use Rattle.vl_tree.proofs.Single.{bytes_same}
use Rattle.vl_model.specs.Lines.{Line, Declared, declared, lookup}
use Rattle.vl_model.specs.Lines as lines
use Rattle.vl_rules.specs.declared.scope.Entry.{Entry}
use Rattle.vl_rules.specs.Scope.{entry_at, before, is_below}

-- ---- a list, line by line

pub taken : {A : Type 0} (xs : List A) (k : ℕ) (x : A) → slice_get xs k ≡ Some x → take (k + 1) xs ≡ take k xs ++ x ∷ []
taken [] zero x e = cc
taken [] (suc k) x e = cc
taken (y ∷ xs) zero x e = let same : y ≡ x = cc in ap (λ z. z ∷ []) same
taken (y ∷ xs) (suc k) x e = let next : take (suc k + 1) (y ∷ xs) ≡ y ∷ take (k + 1) xs = rw (add-one (suc k), add-one k) refl in next ∙ ap (λ zs. y ∷ zs) (taken xs k x e)

pub taken-length : {A : Type 0} (xs : List A) (k : ℕ) → k ≤ length xs → length (take k xs) ≡ k
taken-length xs zero h = refl
taken-length [] (suc k) h = absurd (omega arith)
taken-length (x ∷ xs) (suc k) h = ap (λ n. suc n) (taken-length xs k (omega arith))

pub within : {A : Type 0} (xs : List A) (k : ℕ) (x : A) → slice_get xs k ≡ Some x → k < length xs
within [] zero x e = cc
within [] (suc k) x e = cc
within (y ∷ xs) zero x e = omega arith
within (y ∷ xs) (suc k) x e = let h = within xs k x e in omega arith

pub all-taken : {A : Type 0} (xs : List A) → take (length xs) xs ≡ xs
all-taken [] = refl
all-taken (x ∷ xs) = ap (λ ys. x ∷ ys) (all-taken xs)

-- ---- the first of some that are there

or-none : {A : Type 0} (a : Option A) → option_or a None ≡ a
or-none None = refl
or-none (Some x) = refl

or-assoc : {A : Type 0} (a b c : Option A) → option_or a (option_or b c) ≡ option_or (option_or a b) c
or-assoc None b c = refl
or-assoc (Some x) b c = refl

-- ---- declarations

-- the entry of the first of these lines that declares the name, where the first line has number i
abbrev pub noted : ℕ → List Line → Name → Option Entry
noted i [] n = None
noted i (x ∷ xs) n = option_or (entry_at i (declared x) n) (noted (i + 1) xs n)

noted-snoc : (i : ℕ) (xs : List Line) (x : Line) (n : Name)
    → noted i (xs ++ x ∷ []) n ≡ option_or (noted i xs n) (entry_at (i + length xs) (declared x) n)
noted-snoc i [] x n = or-none (entry_at i (declared x) n) ∙ ap (λ k. entry_at k (declared x) n) (sym (add-zero i))
noted-snoc i (y ∷ xs) x n =
    let next : (i + 1) + length xs ≡ i + suc (length xs) = omega arith in
    ap (option_or (entry_at i (declared y) n)) (noted-snoc (i + 1) xs x n ∙ ap (λ k. option_or (noted (i + 1) xs n) (entry_at k (declared x) n)) next)
    ∙ or-assoc (entry_at i (declared y) n) (noted (i + 1) xs n) (entry_at (i + suc (length xs)) (declared x) n)

pub noted-more : (xs : List Line) (k : ℕ) (x : Line) (n : Name) → slice_get xs k ≡ Some x
    → noted 0 (take (k + 1) xs) n ≡ option_or (noted 0 (take k xs) n) (entry_at k (declared x) n)
noted-more xs k x n e =
    let here : 0 + length (take k xs) ≡ k =
    (let h = within xs k x e in let h' = taken-length xs k (omega arith) in omega arith) in
    ap (λ ys. noted 0 ys n) (taken xs k x e) ∙ noted-snoc 0 (take k xs) x n
    ∙ ap (λ j. option_or (noted 0 (take k xs) n) (entry_at j (declared x) n)) here

-- an entry that is there, and none before its line
early : (i j : ℕ) (d : Option Declared) (n : Name) (rest : Option Entry) → j ≤ i → before j n rest ≡ None
    → before j n (option_or (entry_at i d n) rest) ≡ None
early i j None n rest h e = e
early i j (Some x) n rest h e = go (bytes_eq n x.name)
  where
    not_yet : ltb i j ≡ false
    not_yet = grind (arith, nat_tests)

    go : (b : Bool)
        → before j n (option_or (cond b (Some (record { line = i; kind = x.kind; high = x.high; last = x.last })) None) rest) ≡ None
    go true = rw not_yet refl
    go false = e

noted-late : (i j : ℕ) (xs : List Line) (n : Name) → j ≤ i → before j n (noted i xs n) ≡ None
noted-late i j [] n h = refl
noted-late i j (x ∷ xs) n h = early i j (declared x) n (noted (i + 1) xs n) h (noted-late (i + 1) j xs n (omega arith))

first-seen : (i k : ℕ) (d : Option Declared) (n : Name) (rest : Option Entry) (later : Option Declared) → i < k
    → before k n rest ≡ later
    → before k n (option_or (entry_at i d n) rest) ≡ lines.found d n later
first-seen i k None n rest later h e = e
first-seen i k (Some x) n rest later h e = go (bytes_eq n x.name) refl
  where
    go : (b : Bool) → bytes_eq n x.name ≡ b
        → before k n (option_or (cond b (Some (record { line = i; kind = x.kind; high = x.high; last = x.last })) None) rest) ≡ cond b (Some x) later
    go true f =
        rw (lt-ltb i k h) (ap (λ m. Some (record { name = m; kind = x.kind; high = x.high; last = x.last })) (bytes_same n x.name f))
    go false f = e

noted-seen : (i : ℕ) (xs : List Line) (n : Name) (k : ℕ) → before (i + k) n (noted i xs n) ≡ lookup (take k xs) n
noted-seen i [] n zero = refl
noted-seen i [] n (suc k) = refl
noted-seen i (x ∷ xs) n zero = noted-late i (i + 0) (x ∷ xs) n (omega arith)
noted-seen i (x ∷ xs) n (suc k) =
    let next : i + suc k ≡ (i + 1) + k = omega arith in
    first-seen i (i + suc k) (declared x) n (noted (i + 1) xs n) (lookup (take k xs) n) (omega arith) (ap (λ j. before j n (noted (i + 1) xs n)) next ∙ noted-seen (i + 1) xs n k)

pub noted-looked : (xs : List Line) (n : Name) (k : ℕ) → before k n (noted 0 xs n) ≡ lookup (take k xs) n
noted-looked xs n k = let same : k ≡ 0 + k = omega arith in ap (λ j. before j n (noted 0 xs n)) same ∙ noted-seen 0 xs n k

-- ---- the first line that passes a test

position-snoc : {A : Type 0} (p : A → Bool) (i : ℕ) (xs : List A) (x : A)
    → position_from p i (xs ++ x ∷ []) ≡ option_or (position_from p i xs) (cond (p x) (Some (i + length xs)) None)
position-snoc p i [] x = let same : i ≡ i + 0 = omega arith in ap (λ j. cond (p x) (Some j) None) same
position-snoc p i (y ∷ xs) x = go (p y) (position-snoc p (i + 1) xs x)
  where
    next : (i + 1) + length xs ≡ i + suc (length xs)
    next = omega arith

    go : (b : Bool)
        → position_from p (i + 1) (xs ++ x ∷ []) ≡ option_or (position_from p (i + 1) xs) (cond (p x) (Some ((i + 1) + length xs)) None)
        → cond b (Some i) (position_from p (i + 1) (xs ++ x ∷ [])) ≡ option_or (cond b (Some i) (position_from p (i + 1) xs)) (cond (p x) (Some (i + suc (length xs))) None)
    go true e = refl
    go false e = e ∙ ap (λ j. option_or (position_from p (i + 1) xs) (cond (p x) (Some j) None)) next

pub position-more : {A : Type 0} (p : A → Bool) (xs : List A) (k : ℕ) (x : A) → slice_get xs k ≡ Some x
    → position_from p 0 (take (k + 1) xs) ≡ option_or (position_from p 0 (take k xs)) (cond (p x) (Some k) None)
position-more p xs k x e =
    let h = within xs k x e in
    let here : 0 + length (take k xs) ≡ k = (let h' = taken-length xs k (omega arith) in omega arith) in
    ap (position_from p 0) (taken xs k x e) ∙ position-snoc p 0 (take k xs) x
    ∙ ap (λ j. option_or (position_from p 0 (take k xs)) (cond (p x) (Some j) None)) here

position-late : {A : Type 0} (p : A → Bool) (i j : ℕ) (xs : List A) → j ≤ i → is_below j (position_from p i xs) ≡ false
position-late p i j [] h = refl
position-late p i j (x ∷ xs) h = go (p x) (position-late p (i + 1) j xs (omega arith))
  where
    not_yet : ltb i j ≡ false
    not_yet = grind (arith, nat_tests)

    go : (b : Bool) → is_below j (position_from p (i + 1) xs) ≡ false
        → is_below j (cond b (Some i) (position_from p (i + 1) xs)) ≡ false
    go true e = not_yet
    go false e = e

position-below : {A : Type 0} (p : A → Bool) (i : ℕ) (xs : List A) (k : ℕ)
    → is_below (i + k) (position_from p i xs) ≡ list_any p (take k xs)
position-below p i [] zero = refl
position-below p i [] (suc k) = refl
position-below p i (x ∷ xs) zero = position-late p i (i + 0) (x ∷ xs) (omega arith)
position-below p i (x ∷ xs) (suc k) = go (p x) refl (position-below p (i + 1) xs k)
  where
    next : i + suc k ≡ (i + 1) + k
    next = omega arith

    go : (b : Bool) → p x ≡ b → is_below ((i + 1) + k) (position_from p (i + 1) xs) ≡ list_any p (take k xs)
        → is_below (i + suc k) (cond b (Some i) (position_from p (i + 1) xs)) ≡ list_any p (x ∷ take k xs)
    go true f e = rw f (lt-ltb i (i + suc k) (omega arith))
    go false f e = rw f (ap (λ j. is_below j (position_from p (i + 1) xs)) next ∙ e)

pub position-any : {A : Type 0} (p : A → Bool) (xs : List A) (k : ℕ)
    → is_below k (position_from p 0 xs) ≡ list_any p (take k xs)
position-any p xs k = let same : k ≡ 0 + k = omega arith in ap (λ j. is_below j (position_from p 0 xs)) same ∙ position-below p 0 xs k
