-- Numbers in order, and what no fault along a list says of each element.
use Rattle.std.proofs.Common.{◌≡◌, ℕ, zero, suc, ◌+◌, ◌<◌, Bool, true, false, not, List, [], ◌∷◌, ◌++◌, length, get_or, Option, Some, None, refl, ap, subst, arith, ◌∙◌, add-one}
use Rattle.std.specs.Option.{option_or}
use Rattle.std.specs.List.{range_with_len}
use Rattle.noc_desc.specs.declared.DescFault.{DescFault}
use Rattle.desc_check.specs.Words.{fault_if, first_at}

range_with_len-suc : (a n : ℕ) → range_with_len a (suc n) ≡ range_with_len a n ++ (a + n) ∷ []
range_with_len-suc a zero = let same : a ≡ a + 0 = omega arith in ap (λ (x : ℕ). x ∷ []) same
range_with_len-suc a (suc n) =
    let last : a + 1 + n ≡ a + suc n = omega arith in
    ap (λ (xs : List ℕ). a ∷ xs) (range_with_len-suc (a + 1) n ∙ ap (λ (x : ℕ). range_with_len (a + 1) n ++ x ∷ []) last)

-- one more number, at the end
pub range_with_len_more : (a n : ℕ) → range_with_len a (n + 1) ≡ range_with_len a n ++ (a + n) ∷ []
range_with_len_more a n = rw (add-one) (range_with_len-suc a n)

-- no answer of either
pub neither : (a b : Option DescFault) → option_or a b ≡ None → (a ≡ None) × (b ≡ None)
neither None b h = (refl, h)
neither (Some x) b h = absurd (cc)

-- no fault, so the condition does not hold
pub holds_not : (b : Bool) (fault : DescFault) → fault_if b fault ≡ None → b ≡ false
holds_not true fault h = absurd (cc)
holds_not false fault h = refl

pub holds : (b : Bool) (fault : DescFault) → fault_if (not b) fault ≡ None → b ≡ true
holds true fault h = refl
holds false fault h = absurd (cc)

-- no fault along a list, so none at each place
pub none_at : {A : Type 0} (f : ℕ → A → Option DescFault) (n : ℕ) (xs : List A) → first_at f n xs ≡ None
    → (k : ℕ) (d : A) → k < length xs → f (n + k) (get_or xs k d) ≡ None
none_at f n [] h k d less = absurd (omega arith)
none_at {A} f n (x ∷ xs) h zero d less =
    let same : n ≡ n + 0 = omega arith in
    subst (λ (m : ℕ). f m x ≡ None) same (neither (f n x) (first_at f (n + 1) xs) h).0
none_at {A} f n (x ∷ xs) h (suc k) d less =
    let same : n + 1 + k ≡ n + suc k = omega arith in
    subst (λ (m : ℕ). f m (get_or xs k d) ≡ None) same (none_at f (n + 1) xs (neither (f n x) (first_at f (n + 1) xs) h).1 k d (omega arith))
