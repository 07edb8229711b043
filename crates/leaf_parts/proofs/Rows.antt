-- Rows of parts that a loop builds, the last part first.
use Rattle.std.proofs.Common.{◌≡◌, ℕ, zero, suc, ◌+◌, ◌-◌, ◌<◌, List, [], ◌∷◌, ◌++◌, refl, sym, ap, ◌∙◌, arith}
use Rattle.vl_tree.specs.declared.tree.Expr as code
use Rattle.vl_tree.specs.Values.{Expr, Exprs, net, cat, no_parts, parts}
use Rattle.vl_tree.specs.Read.{read, reads}
use Rattle.gen_kit.specs.Families.{row_parts}
use Rattle.leaf_tie.specs.Alloc.{AllocNames, taken_parts}

-- the parts of the numbers below n, the last first
abbrev pub row_below : (ℕ → Expr) → ℕ → Exprs
row_below f zero = no_parts
row_below f (suc k) = parts (f k) (row_below f k)

-- one list of parts behind another
abbrev pub joined : Exprs → Exprs → Exprs
joined no_parts ys = ys
joined (parts e es) ys = parts e (joined es ys)

joined_none : (xs : Exprs) → joined xs no_parts ≡ xs
joined_none no_parts = refl
joined_none (parts e es) = ap (parts e) (joined_none es)

joined_pushed : (xs : List code.Expr) (x : code.Expr) (ys : Exprs) → joined (reads (xs ++ x ∷ [])) ys ≡ joined (reads xs) (parts (read x) ys)
joined_pushed [] x ys = refl
joined_pushed (z ∷ zs) x ys = ap (parts (read z)) (joined_pushed zs x ys)

row_whole : (f : ℕ → Expr) (n : ℕ) → row_below f (suc n) ≡ row_parts f n
row_whole f zero = refl
row_whole f (suc n) = ap (parts (f (suc n))) (row_whole f n)

-- after k parts of a row of n
abbrev pub IsBegun : (ℕ → Expr) → ℕ → ℕ → List code.Expr → Type 0
IsBegun f n k xs = joined (reads xs) (row_below f (n - k)) ≡ row_below f n

pub row_begins : (f : ℕ → Expr) (n : ℕ) → IsBegun f n 0 []
row_begins f n = let e : n - 0 ≡ n = omega arith in ap (row_below f) e

pub row_more : (f : ℕ → Expr) (n k : ℕ) (xs : List code.Expr) (x : code.Expr) (ys : List code.Expr) → k < n → IsBegun f n k xs → read x ≡ f (n - 1 - k)
    → ys ≡ xs ++ x ∷ [] → IsBegun f n (k + 1) ys
row_more f n k xs x ys below begun e more =
    let one : suc (n - (k + 1)) ≡ n - k = omega arith in
    let here : n - 1 - k ≡ n - (k + 1) = omega arith in
    ap (λ zs. joined (reads zs) (row_below f (n - (k + 1)))) more
    ∙ (joined_pushed xs x (row_below f (n - (k + 1)))
    ∙ (ap (λ y. joined (reads xs) (parts y (row_below f (n - (k + 1))))) (e ∙ ap f here)
    ∙ (ap (λ m. joined (reads xs) (row_below f m)) one ∙ begun)))

pub row_ends : (f : ℕ → Expr) (last n k : ℕ) (xs : List code.Expr) (e : Expr) → n ≡ last + 1 → n ≡ k → IsBegun f n k xs → e ≡ cat (reads xs) → e ≡ cat (row_parts f last)
row_ends f last n k xs e whole end begun is =
    let none : n - k ≡ 0 = omega arith in
    let all : n ≡ suc last = omega (arith, whole) in
    is ∙ ap cat (sym (joined_none (reads xs))
    ∙ (ap (λ m. joined (reads xs) (row_below f m)) (sym none) ∙ (begun ∙ (ap (row_below f) all ∙ row_whole f last))))

pub taken_is : (a : AllocNames) (k : ℕ) → taken_parts a k ≡ row_parts (λ j. net (a.taken j)) k
taken_is a zero = refl
taken_is a (suc k) = ap (parts (net (a.taken (suc k)))) (taken_is a k)
