-- What operators do to sets that are kept as numbers.
use Rattle.std.proofs.Common.{◌≡◌, ℕ, zero, suc, ◌+◌, ◌-◌, ◌*◌, ◌/◌, ◌%◌, ◌<◌, ◌≤◌, ◌^◌, ◌⊎◌, inl, inr, Bool, true, false, Option, refl, sym, ◌∙◌, ap, arith, ◌==◌, ◌&&◌, ◌||◌}
use Rattle.std.specs.Prelude.{Some, None, nat_le, nat_lt, not, bit_and, bit_or}
use Rattle.std.specs.Option.{option_or}
use Rattle.std.proofs.Math.Nat.{mod-eq_of_lt, pow-suc, add-mod_right, mul-add-mod_self_right, pow-le-pow_right}
use Rattle.std.proofs.lemmas.Nat.{and_block, or_block, pow_pos, pow-add, field_of, div-mul-add}
use Rattle.std.proofs.lemmas.Nat.Bits.{bit_at_cat_low, bit_at_cat_high}
use Rattle.std.specs.Int.Bits.{and_self}
use Rattle.std.proofs.lemmas.Bool.Decides.{nat_tests}
use Rattle.vl_model.specs.Meaning.{one_if}
use Rattle.noc_model.specs.Pick.{least, number_if}
use Rattle.noc_model.specs.Step.{is_place}
use Rattle.gen_kit.specs.Masks.{mask}

bit-small : (b : Bool) → one_if b ≤ 1
bit-small true = omega arith
bit-small false = omega arith

pow-next : (n : ℕ) → 2 ^ suc n ≡ 2 ^ n + 2 ^ n
pow-next n = pow-suc 2 n ∙ omega arith

pub mask-lt : (n : ℕ) (a : ℕ → Bool) → mask n a < 2 ^ n
mask-lt zero a = omega arith
mask-lt (suc n) a = go (mask-lt n a) (a n)
  where
    go : mask n a < 2 ^ n → (b : Bool) → one_if b * 2 ^ n + mask n a < 2 ^ suc n
    go before true = omega (arith, before, pow-next n)
    go before false = omega (arith, before, pow-next n)

pub mask-same : (n : ℕ) (a b : ℕ → Bool) → ((i : ℕ) → i < n → a i ≡ b i) → mask n a ≡ mask n b
mask-same zero a b same = refl
mask-same (suc n) a b same =
    let here : a n ≡ b n = same n (omega arith) in
    let rest : mask n a ≡ mask n b = mask-same n a b (λ i h. same i (omega arith)) in
    rw (here, rest) refl

bit-and : (a b : Bool) → bit_and (one_if a) (one_if b) ≡ one_if (a && b)
bit-and true true = refl
bit-and true false = refl
bit-and false true = refl
bit-and false false = refl

bit-or : (a b : Bool) → bit_or (one_if a) (one_if b) ≡ one_if (a || b)
bit-or true true = refl
bit-or true false = refl
bit-or false true = refl
bit-or false false = refl

pub mask-and : (n : ℕ) (a b : ℕ → Bool) → bit_and (mask n a) (mask n b) ≡ mask n (λ i. a i && b i)
mask-and zero a b = refl
mask-and (suc n) a b =
    and_block n (one_if (a n)) (one_if (b n)) (mask n a) (mask n b) (mask-lt n a) (mask-lt n b)
    ∙ rw (bit-and (a n) (b n), mask-and n a b) refl

pub mask-or : (n : ℕ) (a b : ℕ → Bool) → bit_or (mask n a) (mask n b) ≡ mask n (λ i. a i || b i)
mask-or zero a b = refl
mask-or (suc n) a b =
    or_block n (one_if (a n)) (one_if (b n)) (mask n a) (mask n b) (mask-lt n a) (mask-lt n b)
    ∙ rw (bit-or (a n) (b n), mask-or n a b) refl

pub mask-not : (n : ℕ) (a : ℕ → Bool) → 2 ^ n - 1 - mask n a ≡ mask n (λ i. not (a i))
mask-not zero a = refl
mask-not (suc n) a = go (mask-not n a) (a n)
  where
    go : 2 ^ n - 1 - mask n a ≡ mask n (λ i. not (a i)) → (b : Bool)
        → 2 ^ suc n - 1 - (one_if b * 2 ^ n + mask n a) ≡ one_if (not b) * 2 ^ n + mask n (λ i. not (a i))
    go before true = omega (arith, mask-lt n a, before, pow-next n)
    go before false = omega (arith, mask-lt n a, before, pow-next n)

pub mask-none : (n : ℕ) (a : ℕ → Bool) → ((i : ℕ) → i < n → a i ≡ false) → mask n a ≡ 0
mask-none zero a none = refl
mask-none (suc n) a none = rw (none n (omega arith)) (omega (arith, mask-none n a (λ i h. none i (omega arith))))

pub mask-one : (n k : ℕ) → k < n → mask n (λ i. k == i) ≡ 2 ^ k
mask-one zero k below = absurd (omega arith)
mask-one (suc n) k below = go (λ h. mask-one n k h) (k == n) refl
  where
    go : (k < n → mask n (λ i. k == i) ≡ 2 ^ k) → (b : Bool) → (k == n) ≡ b
        → one_if b * 2 ^ n + mask n (λ i. k == i) ≡ 2 ^ k
    go before true e =
        let same : k ≡ n = grind (arith, nat_tests) in
        let rest : mask n (λ i. k == i) ≡ 0 =
        mask-none n (λ i. k == i) (λ i h. (let less : i < k = omega arith in grind (arith, nat_tests))) in
        rw (rest, same) (omega arith)
    go before false e =
        let less : k < n = grind (arith, nat_tests) in
        omega (arith, before less)

-- no member, or a number above 0
pub none-zero : (n : ℕ) (a : ℕ → Bool) → least n a ≡ None → mask n a ≡ 0
none-zero zero a e = refl
none-zero (suc n) a e = go (λ h. none-zero n a h) (least n a) refl (a n) refl e
  where
    go : (least n a ≡ None → mask n a ≡ 0) → (o : Option ℕ) → least n a ≡ o → (b : Bool) → a n ≡ b
        → option_or o (number_if b n) ≡ None → one_if (a n) * 2 ^ n + mask n a ≡ 0
    go before None is false here f = rw here (omega (arith, before is))
    go before None is true here f = absurd (cc f)
    go before (Some k) is b here f = absurd (cc f)

pub some-more : (n : ℕ) (a : ℕ → Bool) (k : ℕ) → least n a ≡ Some k → (0 < mask n a) × (k < n)
some-more zero a k e = absurd (cc e)
some-more (suc n) a k e = go (λ j h. some-more n a j h) (least n a) refl (a n) refl e
  where
    go : ((j : ℕ) → least n a ≡ Some j → (0 < mask n a) × (j < n)) → (o : Option ℕ) → least n a ≡ o → (b : Bool)
        → a n ≡ b → option_or o (number_if b n) ≡ Some k
        → (0 < one_if (a n) * 2 ^ n + mask n a) × (k < suc n)
    go before None is false here f = absurd (cc f)
    go before None is true here f = let at : n ≡ k = cc in (rw here (omega (arith, pow_pos n)), omega arith)
    go before (Some j) is b here f = let at : j ≡ k = cc in (let more = before j is in (omega (arith, more.0), omega (arith, more.1)))

-- the least one alone: a set and what is left of it when it is taken from 0
pub mask-least : (n : ℕ) (a : ℕ → Bool)
    → bit_and (mask n a) ((0 + (2 ^ n - mask n a)) % 2 ^ n) ≡ mask n (is_place (least n a))
mask-least zero a = refl
mask-least (suc n) a = go (mask-least n a) (least n a) refl (a n)
  where
    both : (x y z : ℕ) → x ≡ z → y ≡ z → bit_and x y ≡ z
    both x y z e f = rw (e, f) (and_self z)

    both_zero : (x y : ℕ) → x ≡ 0 → bit_and x y ≡ 0
    both_zero x y e = rw e refl

    second : (x y z : ℕ) → y ≡ z → bit_and x y ≡ bit_and x z
    second x y z e = ap (λ k. bit_and x k) e

    apart : (b : Bool) → bit_and (one_if b) (one_if (not b)) ≡ 0
    apart true = refl
    apart false = refl

    rest : (b : Bool) → 0 < mask n a
        → (0 + (2 ^ suc n - (one_if b * 2 ^ n + mask n a))) % 2 ^ suc n ≡ one_if (not b) * 2 ^ n + (2 ^ n - mask n a)
    rest true some = mod-eq_of_lt (omega (arith, mask-lt n a, pow-next n)) ∙ omega (arith, mask-lt n a, pow-next n)
    rest false some = mod-eq_of_lt (omega (arith, mask-lt n a, pow-next n)) ∙ omega (arith, mask-lt n a, pow-next n)

    go : bit_and (mask n a) ((0 + (2 ^ n - mask n a)) % 2 ^ n) ≡ mask n (is_place (least n a)) → (o : Option ℕ)
        → least n a ≡ o → (b : Bool)
        → bit_and (one_if b * 2 ^ n + mask n a) ((0 + (2 ^ suc n - (one_if b * 2 ^ n + mask n a))) % 2 ^ suc n) ≡ one_if (is_place (option_or o (number_if b n)) n) * 2 ^ n + mask n (is_place (option_or o (number_if b n)))
    go before None is false =
        let empty : mask n a ≡ 0 = none-zero n a is in
        let none : mask n (is_place None) ≡ 0 = mask-none n (is_place None) (λ i h. refl) in
        both_zero _ _ (omega arith) ∙ omega arith
    go before None is true =
        let empty : mask n a ≡ 0 = none-zero n a is in
        let none : mask n (λ i. n == i) ≡ 0 = mask-none n (λ i. n == i) (λ i h. grind (arith, nat_tests, h)) in
        let self : (n == n) ≡ true = grind (arith, nat_tests) in
        both _ _ (2 ^ n) (omega arith) (mod-eq_of_lt (omega (arith, pow_pos n, pow-next n)) ∙ omega (arith, pow-next n))
        ∙ rw (self, none) (omega arith)
    go before (Some k) is b =
        let more = some-more n a k is in
        let small : 2 ^ n - mask n a < 2 ^ n = omega (arith, more.0, pow_pos n) in
        let plain : 0 + (2 ^ n - mask n a) ≡ 2 ^ n - mask n a = omega arith in
        let reduced : (0 + (2 ^ n - mask n a)) % 2 ^ n ≡ 2 ^ n - mask n a =
        ap (λ z. z % 2 ^ n) plain ∙ mod-eq_of_lt small in
        let under : bit_and (mask n a) (2 ^ n - mask n a) ≡ mask n (is_place (Some k)) =
        second (mask n a) (2 ^ n - mask n a) ((0 + (2 ^ n - mask n a)) % 2 ^ n) (sym reduced) ∙ before
        ∙ ap (λ o. mask n (is_place o)) is in
        let other : (k == n) ≡ false = grind (arith, nat_tests, more.1) in
        second _ _ _ (rest b more.0)
        ∙ and_block n (one_if b) (one_if (not b)) (mask n a) (2 ^ n - mask n a) (mask-lt n a) small
        ∙ rw (apart b, other) (omega (arith, under))

-- the numbers below p
low : (n p : ℕ) → p ≤ n → mask n (λ i. nat_lt i p) ≡ 2 ^ p - 1
low zero p le = let none : p ≡ 0 = omega arith in rw none refl
low (suc n) p le = go (low n) (nat_lt n p) refl
  where
    all : (m : ℕ) → m ≤ p → mask m (λ i. nat_lt i p) ≡ 2 ^ m - 1
    all zero h = refl
    all (suc m) h =
        let is : nat_lt m p ≡ true = grind (arith, nat_tests) in
        rw (is, all m (omega arith)) (omega (arith, pow-next m, pow_pos m))

    go : ((q : ℕ) → q ≤ n → mask n (λ i. nat_lt i q) ≡ 2 ^ q - 1) → (b : Bool) → nat_lt n p ≡ b
        → one_if b * 2 ^ n + mask n (λ i. nat_lt i p) ≡ 2 ^ p - 1
    go before true e =
        let whole : p ≡ suc n = grind (arith, nat_tests) in
        rw (all n (omega arith), whole) (omega (arith, pow-next n, pow_pos n))
    go before false e = let less : p ≤ n = grind (arith, nat_tests) in omega (arith, before p less)

-- the numbers from p on
pub mask-from : (n p : ℕ) → p ≤ n → mask n (nat_le p) ≡ 2 ^ n - 2 ^ p
mask-from n p le =
    mask-same n (nat_le p) (λ i. not (nat_lt i p)) (λ i h. grind (arith, nat_tests))
    ∙ sym (mask-not n (λ i. nat_lt i p)) ∙ rw (low n p le) (omega (arith, pow_pos p))

-- what stands above a lone member
pub mask-above : (n k : ℕ) → k < n
    → 2 ^ n - 1 - bit_or (2 ^ k) ((2 ^ k + (2 ^ n - 1)) % 2 ^ n) ≡ mask n (nat_le (k + 1))
mask-above n k below = ap (λ z. 2 ^ n - 1 - z) (ap (λ z. bit_or (2 ^ k) z) less ∙ together) ∙ ap (λ z. 2 ^ n - 1 - z) (ap (λ z. 2 ^ z - 1) suc-is) ∙ omega (arith, pow_pos (k + 1)) ∙ sym (mask-from n (k + 1) (omega arith))
  where
    bound : 2 ^ suc k ≤ 2 ^ n
    bound = pow-le-pow_right (omega arith) below

    suc-is : suc k ≡ k + 1
    suc-is = omega arith

    less : (2 ^ k + (2 ^ n - 1)) % 2 ^ n ≡ 2 ^ k - 1
    less =
        let e : 2 ^ k + (2 ^ n - 1) ≡ (2 ^ k - 1) + 2 ^ n = omega (arith, pow_pos k, pow_pos n) in
        ap (λ z. z % 2 ^ n) e ∙ add-mod_right (2 ^ k - 1) (2 ^ n)
        ∙ mod-eq_of_lt (omega (arith, pow_pos k, pow-next k, bound))

    together : bit_or (2 ^ k) (2 ^ k - 1) ≡ 2 ^ suc k - 1
    together =
        let a : 2 ^ k ≡ 1 * 2 ^ k + 0 = omega arith in
        let b : 2 ^ k - 1 ≡ 0 * 2 ^ k + (2 ^ k - 1) = omega arith in
        ap (λ z. bit_or z (2 ^ k - 1)) a ∙ ap (λ z. bit_or (1 * 2 ^ k + 0) z) b
        ∙ or_block k 1 0 0 (2 ^ k - 1) (pow_pos k) (omega (arith, pow_pos k)) ∙ omega (arith, pow-next k, pow_pos k)

-- one member's bit
pub mask-bit : (n i : ℕ) (a : ℕ → Bool) → i < n → mask n a / 2 ^ i % 2 ≡ one_if (a i)
mask-bit zero i a below = absurd (omega arith)
mask-bit (suc n) i a below = go (λ h. mask-bit n i a h) order
  where
    order : (i < n) ⊎ (i ≡ n)
    order = grind arith

    bit : (b : Bool) → one_if b / 2 ^ 0 % 2 ≡ one_if b
    bit true = refl
    bit false = refl

    go : (i < n → mask n a / 2 ^ i % 2 ≡ one_if (a i)) → (i < n) ⊎ (i ≡ n)
        → (one_if (a n) * 2 ^ n + mask n a) / 2 ^ i % 2 ≡ one_if (a i)
    go before (inl h) = bit_at_cat_low (one_if (a n)) n (mask n a) i h ∙ before h
    go before (inr e) =
        let none : n - n ≡ 0 = omega arith in
        rw e (bit_at_cat_high (one_if (a n)) n (mask n a) n (mask-lt n a) (omega arith) ∙ rw none (bit (a n)))

-- two sets in a row, and the upper and the lower one of two
pub mask-cat : (w l : ℕ) (a : ℕ → Bool) → mask (l + w) a ≡ mask w (λ i. a (l + i)) * 2 ^ l + mask l a
mask-cat zero l a = let e : l + 0 ≡ l = omega arith in ap (λ k. mask k a) e ∙ omega arith
mask-cat (suc w) l a =
    let at : l + suc w ≡ suc (l + w) = omega arith in
    ap (λ k. mask k a) at ∙ rw (mask-cat w l a, pow-add 2 l w) (grind arith)

pub mask-part : (w l n : ℕ) (a : ℕ → Bool) → l + w ≤ n → mask n a / 2 ^ l % 2 ^ w ≡ mask w (λ i. a (l + i))
mask-part w l n a le =
    sym (field_of (mask n a) w l) ∙ ap (λ z. z / 2 ^ l) cut ∙ ap (λ z. z / 2 ^ l) (mask-cat w l a)
    ∙ div-mul-add (mask w (λ i. a (l + i))) (2 ^ l) (mask l a) (mask-lt l a)
  where
    r : ℕ
    r = n - (l + w)

    whole : n ≡ (l + w) + r
    whole = omega arith

    swap : w + l ≡ l + w
    swap = omega arith

    cut : mask n a % 2 ^ (w + l) ≡ mask (l + w) a
    cut =
        ap (λ k. mask n a % 2 ^ k) swap ∙ ap (λ k. mask k a % 2 ^ (l + w)) whole
        ∙ ap (λ z. z % 2 ^ (l + w)) (mask-cat r (l + w) a)
        ∙ mul-add-mod_self_right (mask r (λ i. a (l + w + i))) (2 ^ (l + w)) (mask (l + w) a)
        ∙ mod-eq_of_lt (mask-lt (l + w) a)

-- a member makes a number above 0
pub mask-some : (n i : ℕ) (a : ℕ → Bool) → i < n → a i ≡ true → 0 < mask n a
mask-some zero i a below e = absurd (omega arith)
mask-some (suc n) i a below e = go (λ h. mask-some n i a h e) order
  where
    order : (i < n) ⊎ (i ≡ n)
    order = grind arith

    go : (i < n → 0 < mask n a) → (i < n) ⊎ (i ≡ n) → 0 < one_if (a n) * 2 ^ n + mask n a
    go before (inl h) = omega (arith, before h)
    go before (inr same) =
        let here : a n ≡ true = ap a (sym same) ∙ e in
        rw here (omega (arith, pow_pos n))
