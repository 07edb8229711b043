-- Words of variables at places, one by one.
use Rattle.std.proofs.Common.{◌≡◌, ℕ, zero, suc, ◌+◌, ◌<◌, ◌≤◌, Bool, true, false, List, [], ◌∷◌, ◌++◌, length, get_or, set, take, refl, sym, ◌∙◌, ap, subst, arith, inl, inr}
use Rattle.std.specs.Prelude.{◌==◌, ◌||◌, if◌then◌else◌}
use Rattle.std.specs.List.{AllByRecursion}
use Rattle.std.proofs.lemmas.Bool.{cases_eq, ne_eqb, eq-eqb}
use Rattle.std.proofs.lemmas.List.{length-set, length-append, get_or-set_same, get_or-set_other, take_more, take_all}
use Rattle.std.proofs.lemmas.Grind.{flat_map-append}
use Rattle.std.proofs.lemmas.List.{append-nil}
use Rattle.std.proofs.lemmas.List.Folds.{list_any-append}
use Rattle.aig_model.specs.FormOf.{AreBits}
use Rattle.aig_model.specs.Netlist.{Net}
use Rattle.aig_design.specs.Start.{has_place, kept_bits, IsMade, ArePut}
use Rattle.aig_design.proofs.Bits.{bits-both, bits-behind}

pub all-both : {A : Type 0} (P : A → Type 0) (xs ys : List A) → AllByRecursion P (xs ++ ys) → AllByRecursion P xs × AllByRecursion P ys
all-both P [] ys h = (tt, h)
all-both P (x ∷ xs) ys h = let r = all-both P xs ys h.1 in ((h.0, r.0), r.1)

pub all-set : {A : Type 0} (P : A → Type 0) (xs : List A) (i : ℕ) (y : A) → AllByRecursion P xs → P y → AllByRecursion P (set xs i y)
all-set P [] zero y h p = tt
all-set P [] (suc i) y h p = tt
all-set P (x ∷ xs) zero y h p = (p, h.1)
all-set P (x ∷ xs) (suc i) y h p = (h.0, all-set P xs i y h.1 p)

same-number : (n : ℕ) → (n == n) ≡ true
same-number n = eq-eqb n n refl

or-true : (a : Bool) → (a || true) ≡ true
or-true true = refl
or-true false = refl

or-false : (a : Bool) → (a || false) ≡ a
or-false true = refl
or-false false = refl

module _ {A E X : Type 0} (place : A → ℕ) (narrow : A → Type 0) (fits : A → X → Type 0) (bits : A → X → List Bool) (known : Net → E → Type 0) (mean : (ℕ → Bool) → E → X) (none : E) where
  abbrev Put : ℕ → ℕ → List A → List E → List E → Type 0
  Put first next xs old new = ArePut place narrow fits bits known mean none first next xs old new

  pub put-none : (first : ℕ) (xs : List A) (old : List E) → Put first first (take 0 xs) old old
  put-none first xs old = subst (λ ys. Put first first ys old old) (nothing xs) (record {
    count = λ h. omega arith;
    size = refl;
    are_known = λ n le a k. k;
    value = λ v h f b p lt. refl;
  })
    where
      nothing : (xs : List A) → [] ≡ take 0 xs
      nothing [] = refl
      nothing (x ∷ xs) = refl

  bits-more : (h : ℕ → X) (xs : List A) (a : A) → kept_bits place bits h (xs ++ a ∷ []) ≡ kept_bits place bits h xs ++ bits a (h (place a))
  bits-more h xs a = flat_map-append (λ x. bits x (h (place x))) xs (a ∷ []) ∙ ap (λ z. kept_bits place bits h xs ++ z) (append-nil (bits a (h (place a))))

  pub put-one : (first mid next : ℕ) (xs : List A) (a : A) (old now' new : List E) (e : E) → IsMade narrow fits bits known mean mid next a e → new ≡ set now' (place a) e → Put first mid xs old now' → Put first next (xs ++ a ∷ []) old new
  put-one first mid next xs a old now' new e made put z = record {
    count = λ h.
        let all = ap length (bits-more h xs a) ∙ length-append (kept_bits place bits h xs) (bits a (h (place a))) in
        let before = z.count h in
        let here = made.count (h (place a)) in
        omega (arith, all, before, here);
    size = ap length put ∙ length-set now' (place a) e ∙ z.size;
    are_known = λ n le w k.
        let parts = all-both narrow xs (a ∷ []) w in
        subst (AllByRecursion (known n)) (sym put) (all-set (known n) now' (place a) e (z.are_known n (lower n le) parts.0 k) (made.are_known n le parts.1.0));
    value = λ v h f b p lt. at v h (all-both (λ x. fits x (h (place x))) xs (a ∷ []) f) (subst (λ bs. AreBits bs (λ j. v (first + j)) 0) (bits-more h xs a) b) p lt;
  }
    where
      lower : (n : Net) → next ≤ n.start → mid ≤ n.start
      lower n le = let up = made.up in omega (arith, le, up)

      at : (v : ℕ → Bool) (h : ℕ → X) → AllByRecursion (λ x. fits x (h (place x))) xs × AllByRecursion (λ x. fits x (h (place x))) (a ∷ [])
          → AreBits (kept_bits place bits h xs ++ bits a (h (place a))) (λ j. v (first + j)) 0 → (p : ℕ) → p < length old
          → mean v (get_or new p none) ≡ (if has_place place (xs ++ a ∷ []) p then h p else mean v (get_or old p none))
      at v h f b p lt = elim (cases_eq p (place a)) [
        | inl same ↦
            let number : mean v e ≡ h (place a) = made.value v (h (place a)) f.1.0 (bits-behind (kept_bits place bits h xs) (bits a (h (place a))) v first mid (z.count h) b) in
            let room : place a < length now' = (let s = z.size in omega (arith, lt, same, s)) in
            let there : get_or new p none ≡ e = ap (λ ys. get_or ys p none) put ∙ ap (λ q. get_or (set now' (place a) e) q none) same ∙ get_or-set_same now' (place a) e none room in
            let has : has_place place (xs ++ a ∷ []) p ≡ true =
            list_any-append (λ x. place x == p) xs (a ∷ []) ∙ ap (λ q. has_place place xs p || (place a == q || false)) same ∙ ap (λ c. has_place place xs p || (c || false)) (same-number (place a)) ∙ or-true (has_place place xs p) in
            ap (mean v) there ∙ number ∙ ap h (sym same) ∙ ap (λ c. if c then h p else mean v (get_or old p none)) (sym has)
        | inr other ↦
            let there : get_or new p none ≡ get_or now' p none = ap (λ ys. get_or ys p none) put ∙ get_or-set_other now' (place a) p e none other in
            let has : has_place place (xs ++ a ∷ []) p ≡ has_place place xs p =
            list_any-append (λ x. place x == p) xs (a ∷ []) ∙ ap (λ c. has_place place xs p || (c || false)) (ne_eqb (place a) p (λ e. other (sym e))) ∙ or-false (has_place place xs p) in
            ap (mean v) there ∙ z.value v h f.0 (bits-both (kept_bits place bits h xs) (bits a (h (place a))) (λ j. v (first + j)) 0 b).0 p lt ∙ ap (λ c. if c then h p else mean v (get_or old p none)) (sym has)
      ]

  pub put-more : (first mid next : ℕ) (xs : List A) (i : ℕ) (d a : A) (old now' new : List E) (e : E) → i < length xs → a ≡ get_or xs i d → IsMade narrow fits bits known mean mid next a e → new ≡ set now' (place a) e
      → Put first mid (take i xs) old now' → Put first next (take (i + 1) xs) old new
  put-more first mid next xs i d a old now' new e lt is made put z =
      subst (λ ys. Put first next ys old new) (ap (λ y. take i xs ++ y ∷ []) is ∙ sym (take_more xs i d lt)) (put-one first mid next (take i xs) a old now' new e made put z)

  pub put-all : (first next : ℕ) (xs : List A) (i : ℕ) (old new : List E) → length xs ≤ i → Put first next (take i xs) old new → Put first next xs old new
  put-all first next xs i old new all z = subst (λ ys. Put first next ys old new) (take_all i xs all) z
