-- Lists that begin with another.
use Rattle.std.proofs.Common.{◌≡◌, ◌≢◌, ℕ, ◌+◌, ◌-◌, ◌<◌, ◌≤◌, Bool, true, false, List, [], ◌∷◌, ◌++◌, length, take, drop, refl, sym, ◌∙◌, ap, arith, zero, suc, add-one, take-append-drop, bytes_eq, length-append}
use Rattle.std.proofs.lemmas.Bool.Decides.{nat_tests}
use Rattle.std.specs.Prelude.{◌==◌, Some, None, slice_get, if◌then◌else◌}
use Rattle.vl_tree.specs.declared.tree.Port.{Port}
use Rattle.gen_kit.specs.Ports.{difference}
use Rattle.gen_kit.specs.PortSpec.{same_at}
use Rattle.std.proofs.lemmas.List.{take_at, append_cancel_left, take_rest, drop_all, length-drop}
use Rattle.std.proofs.lemmas.Slice.Eq.{bytes_eq-Decides}
use Rattle.std.proofs.lemmas.Bool.{both_ways}

-- what is put in front, and the rest
pub front-and-rest : (name front : List ℕ) (n : ℕ) → n ≡ length front → bytes_eq (take n name) front ≡ true
    → name ≡ front ++ take (length name - n) (drop n name)
front-and-rest name front n long same =
    sym (take-append-drop n name) ∙ ap (λ z. z ++ drop n name) ((bytes_eq-Decides (take n name) front).0 same)
    ∙ ap (λ z. front ++ z) (sym (take_rest name n))

pub no-front : (name front rest : List ℕ) (n : ℕ) → n ≡ length front → bytes_eq (take n name) front ≡ false
    → name ≢ front ++ rest
no-front name front rest n long other same =
    let is : take n name ≡ front = ap (take n) same ∙ take_at front rest n (sym long) in
    both_ways (bytes_eq (take n name) front) other ((bytes_eq-Decides (take n name) front).1 is)

pub too-short : (name front rest : List ℕ) → length name < length front → name ≢ front ++ rest
too-short name front rest less same = absurd (omega (arith, ap length same, length-append front rest))

pub differs : (a b : List ℕ) → a ≢ b → false ≡ bytes_eq a b
differs a b other = go (bytes_eq a b) refl
  where
    go : (c : Bool) → bytes_eq a b ≡ c → false ≡ bytes_eq a b
    go true e = absurd (other ((bytes_eq-Decides a b).0 e))
    go false e = sym e

-- a name of a front and two numbers
pub no-second : (name front a b rest : List ℕ) → name ≡ front ++ rest → ((r : List ℕ) → rest ≢ a ++ r)
    → false ≡ bytes_eq name (front ++ (a ++ b))
no-second name front a b rest e other =
    differs name (front ++ (a ++ b)) (λ same. other b (append_cancel_left front rest (a ++ b) (sym e ∙ same)))

pub no-third : (name front a b rest more : List ℕ) → name ≡ front ++ rest → rest ≡ a ++ more
    → ((r : List ℕ) → more ≢ b ++ r) → false ≡ bytes_eq name (front ++ (a ++ (b ++ [])))
no-third name front a b rest more e f other =
    differs name (front ++ (a ++ (b ++ []))) (λ same. other [] (append_cancel_left a more (b ++ []) (sym f ∙ append_cancel_left front rest (a ++ (b ++ [])) (sym e ∙ same))))

pub whole : (name front a b rest more last : List ℕ) (empty : Bool) → name ≡ front ++ rest → rest ≡ a ++ more
    → more ≡ b ++ last → empty ≡ (length last == 0) → empty ≡ bytes_eq name (front ++ (a ++ (b ++ [])))
whole name front a b rest more [] empty e f g is =
    is ∙ sym ((bytes_eq-Decides name (front ++ (a ++ (b ++ [])))).1 (e ∙ ap (λ z. front ++ z) (f ∙ ap (λ z. a ++ z) g)))
whole name front a b rest more (x ∷ last) empty e f g is =
    let some : (length (x ∷ last) == 0) ≡ false = grind (arith, nat_tests) in
    is ∙ some
    ∙ differs name (front ++ (a ++ (b ++ []))) (λ same. (let none : x ∷ last ≡ [] = append_cancel_left b (x ∷ last) [] (sym g ∙ append_cancel_left a more (b ++ []) (sym f ∙ append_cancel_left front rest (a ++ (b ++ [])) (sym e ∙ same))) in cc))

-- ---- the first position at which lists of ports differ

pub at-position : (xs ys : List Port) (i k : ℕ) → i < length ys
    → difference k (drop i xs) (drop i ys) ≡ (if same_at (slice_get xs i) (slice_get ys i) then difference (k + 1) (drop (i + 1) xs) (drop (i + 1) ys) else Some k)
at-position xs [] i k h = absurd (omega arith)
at-position [] (b ∷ ys) zero k h = refl
at-position [] (b ∷ ys) (suc i) k h = missing (drop i ys) (omega (arith, length-drop i ys))
  where
    missing : (cs : List Port) → 0 < length cs → difference k [] cs ≡ Some k
    missing [] h = absurd (omega arith)
    missing (c ∷ cs) h = refl
at-position (a ∷ xs) (b ∷ ys) zero k h = refl
at-position (a ∷ xs) (b ∷ ys) (suc i) k h =
    at-position xs ys i k (omega arith)
    ∙ ap (λ j. if same_at (slice_get xs i) (slice_get ys i) then difference (k + 1) (drop j xs) (drop j ys) else Some k) (add-one i)
    ∙ ap (λ j. if same_at (slice_get xs i) (slice_get ys i) then difference (k + 1) (drop j (a ∷ xs)) (drop j (b ∷ ys)) else Some k) (sym (add-one (suc i)))

pub longer : (xs ys : List Port) (n k : ℕ) → n ≡ length ys → n < length xs
    → difference k (drop n xs) (drop n ys) ≡ Some k
longer xs ys n k long h = rw (drop_all n ys (omega arith)) (some (drop n xs) (omega (arith, length-drop n xs)))
  where
    some : (cs : List Port) → 0 < length cs → difference k cs [] ≡ Some k
    some [] h = absurd (omega arith)
    some (c ∷ cs) h = refl

pub no-longer : (xs ys : List Port) (n k : ℕ) → n ≡ length ys → length xs ≤ n
    → difference k (drop n xs) (drop n ys) ≡ None
no-longer xs ys n k long h = rw (drop_all n ys (omega arith), drop_all n xs h) refl

pub ruleset differences = (at-position, longer, no-longer)

pub ruleset behinds = (front-and-rest, no-front, too-short)
