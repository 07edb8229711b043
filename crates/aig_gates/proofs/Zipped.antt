-- Words of literals, place by place.
use Rattle.std.proofs.Common.{◌≡◌, ℕ, zero, suc, ◌+◌, ◌-◌, ◌*◌, ◌/◌, ◌%◌, ◌<◌, ◌≤◌, ◌^◌, Bool, true, false, ◌&&◌, List, [], ◌∷◌, ◌++◌, length, take, drop, get_or, refl, sym, ◌∙◌, ap, subst, arith, inl, inr}
use Rattle.std.specs.Prelude.{not, ◌||◌, ◌==◌, nat_lt, min, max, bit_and, bit_or, bit_xor, if◌then◌else◌, Result, Ok, Err, IfOk}
use Rattle.std.proofs.lemmas.Bool.{cases_lt, cases_eq, lt-ltb, le-ltb, eq-eqb, ne_eqb}
use Rattle.std.specs.Int.{bit_at}
use Rattle.std.specs.Int.Bits.{xor_self}
use Rattle.std.proofs.lemmas.Nat.Bits.{same_from_bits, bit_at-lt, bit_at_xor, bit_at-zero}
use Rattle.std.proofs.lemmas.Nat.{pow_pos, mod-pow-add, shr-shr, and_block, or_block, xor_block}
use Rattle.std.proofs.lemmas.List.{take_more, take_all, length-take-le, length_push, length-append}
use Rattle.std.proofs.Math.Pow.{pow_mono}
use Rattle.std.proofs.Math.Nat.{zero-mod, div-eq_of_lt, div-add-mod, mul_comm, mul_assoc, mul-add, mod-eq_of_lt, mod-lt, add-mod, mod-add-mod, add-mul-mod_self_left}
use Rattle.aig_model.specs.Form.{literal, one_if_true, word}
use Rattle.aig_model.specs.Netlist.{Net, Grows, IsOf, AreOf, settle_gates, Means, MeansWord, differ, majority}
use Rattle.aig_model.proofs.Netlists.{wider, all-wider, means-grows, grows-twice, grown-literal, grown-word, word-append, word-small, full-sum}
use Rattle.aig_gates.specs.declared.words.Way.{Way}
use Rattle.aig_gates.specs.declared.words.Way.TheVariants.{And, Or, Xor, Choose}
use Rattle.aig_gates.specs.Ripple.{IsRipple}
use Rattle.aig_gates.specs.Zips.{AreBelow, IsWayOf, paired, combined, zipped, IsZipped, IsLess}
use Rattle.aig_gates.proofs.Inserted.{no-variable}
use Rattle.aig_gates.proofs.Rippled.{all-at, all-push, means-itself}

-- what holds of a value holds in a result
pub if-ok : {A E : Type 0} (r : Result A E) (P Q : A → Type 0) → ((x : A) → P x → Q x) → IfOk r P → IfOk r Q
if-ok (Ok x) P Q f p = f x p
if-ok (Err e) P Q f p = p

-- ---- bits

pub choose-by-gates : (h f g : Bool) → ((h && f) || (not h && g)) ≡ (if h then f else g)
choose-by-gates true true g = refl
choose-by-gates true false g = refl
choose-by-gates false f g = refl

pub way-wider : (old new : Net) → Grows old new → (w : Way) → IsWayOf old w → IsWayOf new w
way-wider old new g And k = k
way-wider old new g Or k = k
way-wider old new g Xor k = k
way-wider old new g (Choose t) k = wider old new g t k

pub pair-grows : (old new : Net) → Grows old new → (w : Way) → IsWayOf old w → (v : ℕ → Bool) (a b : Bool) → paired w (settle_gates new v) a b ≡ paired w (settle_gates old v) a b
pair-grows old new g And k v a b = refl
pair-grows old new g Or k v a b = refl
pair-grows old new g Xor k v a b = refl
pair-grows old new g (Choose t) k v a b = ap (λ z. if z then a else b) (grown-literal old new g v t k)

pub combine-grows : (old new : Net) → Grows old new → (w : Way) → IsWayOf old w → (v : ℕ → Bool) (a b : ℕ) → combined w (settle_gates new v) a b ≡ combined w (settle_gates old v) a b
combine-grows old new g And k v a b = refl
combine-grows old new g Or k v a b = refl
combine-grows old new g Xor k v a b = refl
combine-grows old new g (Choose t) k v a b = ap (λ z. if z then a else b) (grown-literal old new g v t k)

pub one-small : (b : Bool) → one_if_true b < 2
one-small true = omega arith
one-small false = omega arith

pub double-power : (i : ℕ) → 2 ^ (i + 1) ≡ 2 * 2 ^ i
double-power i = let more : i + 1 ≡ suc i = omega arith in ap (λ z. 2 ^ z) more ∙ omega arith

-- ---- a bit of a word

zero-half : (i : ℕ) → 0 / 2 ^ i % 2 ≡ 0
zero-half i = let some = pow_pos i in let h : 0 / 2 ^ i ≡ 0 = nothing (2 ^ i) in ap (λ z. z % 2) h
  where
    nothing : (p : ℕ) → 0 / p ≡ 0
    nothing p = omega arith

zero-literal : (v : ℕ → Bool) → v 0 ≡ false → literal v 0 ≡ false
zero-literal v e = e

pub word-bit : (v : ℕ → Bool) → v 0 ≡ false → (xs : List ℕ) (i : ℕ) → word v xs / 2 ^ i % 2 ≡ one_if_true (literal v (get_or xs i 0))
word-bit v e [] i = zero-half i ∙ sym (ap one_if_true (zero-literal v e))
word-bit v e (x ∷ xs) zero = let small = one-small (literal v x) in omega (arith, small)
word-bit v e (x ∷ xs) (suc i) =
    let small = one-small (literal v x) in
    let half : (one_if_true (literal v x) + 2 * word v xs) / 2 ≡ word v xs = omega (arith, small) in
    let more : suc i ≡ 1 + i = omega arith in
    ap (λ k. word v (x ∷ xs) / 2 ^ k % 2) more ∙ ap (λ z. z % 2) (sym (shr-shr (word v (x ∷ xs)) 1 i)) ∙ ap (λ z. z / 2 ^ i % 2) half ∙ word-bit v e xs i

-- a word that is cut one place later
pub cut-more : (v : ℕ → Bool) → v 0 ≡ false → (xs : List ℕ) (i : ℕ) → word v xs % 2 ^ (i + 1) ≡ word v xs % 2 ^ i + 2 ^ i * one_if_true (literal v (get_or xs i 0))
cut-more v e xs i =
    let n : ℕ = word v xs in
    let more : i + 1 ≡ 1 + i = omega arith in
    let split = mod-pow-add n 1 i in
    ap (λ k. n % 2 ^ k) more ∙ split ∙ ap (λ z. z * 2 ^ i + n % 2 ^ i) (word-bit v e xs i)
    ∙ (let c = mul_comm (one_if_true (literal v (get_or xs i 0))) (2 ^ i) in omega (arith, c))

-- ---- cut or with zeros

pub record IsPadded (bits made : List ℕ) (i : ℕ) : Type 0 where
  pub known : (k : ℕ) → 0 < k → AreBelow k bits → AreBelow k made
  pub count : length made ≡ i
  pub value : (v : ℕ → Bool) → v 0 ≡ false → word v made ≡ word v bits % 2 ^ i

pub below-push : (k : ℕ) (xs : List ℕ) (x : ℕ) → AreBelow k xs → x < 2 * k → AreBelow k (xs ++ x ∷ [])
below-push k [] x a b = (b, tt)
below-push k (y ∷ xs) x a b = (a.0, below-push k xs x a.1 b)

pub below-at : (k : ℕ) → 0 < k → (xs : List ℕ) (i : ℕ) → AreBelow k xs → get_or xs i 0 < 2 * k
below-at k some [] i a = omega (arith, some)
below-at k some (x ∷ xs) zero a = a.0
below-at k some (x ∷ xs) (suc i) a = below-at k some xs i a.1

pub pad-none : (bits : List ℕ) → IsPadded bits [] 0
pad-none bits = record { known = λ k some a. tt; count = refl; value = λ v e. nothing (word v bits) }
  where
    nothing : (n : ℕ) → 0 ≡ n % 2 ^ 0
    nothing n = omega arith

pub pad-more : (bits made : List ℕ) (i x : ℕ) → x ≡ get_or bits i 0 → IsPadded bits made i → IsPadded bits (made ++ x ∷ []) (i + 1)
pad-more bits made i x same p = record {
  known = λ k some a. below-push k made x (p.known k some a) (subst (λ z. z < 2 * k) (sym same) (below-at k some bits i a));
  count = length_push made x ∙ ap (λ z. z + 1) p.count;
  value = λ v e.
      word-append v made x ∙ ap (λ w. w + 2 ^ length made * one_if_true (literal v x)) (p.value v e)
      ∙ ap (λ q. word v bits % 2 ^ i + 2 ^ q * one_if_true (literal v x)) p.count ∙ ap (λ z. word v bits % 2 ^ i + 2 ^ i * one_if_true (literal v z)) same
      ∙ sym (cut-more v e bits i);
}

-- what is padded to a length that it fits has its number
pub word-fits : (v : ℕ → Bool) (xs : List ℕ) (w : ℕ) → length xs ≤ w → word v xs % 2 ^ w ≡ word v xs
word-fits v xs w le = mod-eq_of_lt (larger (word v xs) (length xs) w le (word-small v xs))
  where
    larger : (n a b : ℕ) → a ≤ b → n < 2 ^ a → n < 2 ^ b
    larger n a b le lt = let more = pow_mono le in omega (arith, more, lt)

-- ---- the bits of a number

pub record IsBits (number : ℕ) (made : List ℕ) (i : ℕ) : Type 0 where
  pub known : (k : ℕ) → 0 < k → AreBelow k made
  pub count : length made ≡ i
  pub value : (v : ℕ → Bool) → v 0 ≡ false → word v made ≡ number % 2 ^ i

pub bits-none : (number : ℕ) → IsBits number [] 0
bits-none number = record { known = λ k some. tt; count = refl; value = λ v e. nothing number }
  where
    nothing : (n : ℕ) → 0 ≡ n % 2 ^ 0
    nothing n = omega arith

constant-bit : (v : ℕ → Bool) → v 0 ≡ false → (x : ℕ) → x < 2 → one_if_true (literal v x) ≡ x
constant-bit v e zero lt = ap one_if_true e
constant-bit v e (suc zero) lt = ap (λ b. one_if_true (not b)) e
constant-bit v e (suc (suc x)) lt = absurd (omega (arith, lt))

pub bits-more : (number : ℕ) (made : List ℕ) (i x : ℕ) → x ≡ number / 2 ^ i % 2 → IsBits number made i → IsBits number (made ++ x ∷ []) (i + 1)
bits-more number made i x same p = record {
  known = λ k some. below-push k made x (p.known k some) (let small : x < 2 = low in omega (arith, small, some));
  count = length_push made x ∙ ap (λ z. z + 1) p.count;
  value = λ v e.
      word-append v made x ∙ ap (λ w. w + 2 ^ length made * one_if_true (literal v x)) (p.value v e)
      ∙ ap (λ q. number % 2 ^ i + 2 ^ q * one_if_true (literal v x)) p.count ∙ ap (λ z. number % 2 ^ i + 2 ^ i * z) (constant-bit v e x low ∙ same)
      ∙ joined number i;
}
  where
    low : x < 2
    low = subst (λ z. z < 2) (sym same) (mod-lt (number / 2 ^ i) (omega arith))

    joined : (n i : ℕ) → n % 2 ^ i + 2 ^ i * (n / 2 ^ i % 2) ≡ n % 2 ^ (i + 1)
    joined n i =
        let more : i + 1 ≡ 1 + i = omega arith in
        let split = mod-pow-add n 1 i in
        let c = mul_comm (2 ^ i) (n / 2 ^ i % 2) in
        let turn : (n / 2 ^ i % 2) * 2 ^ i + n % 2 ^ i ≡ n % 2 ^ i + 2 ^ i * (n / 2 ^ i % 2) = omega (arith, c) in
        sym (ap (λ k. n % 2 ^ k) more ∙ split ∙ turn)

-- ---- complements

pub record IsOther (bits made : List ℕ) (i : ℕ) : Type 0 where
  pub known : (k : ℕ) → AreBelow k bits → AreBelow k made
  pub count : length made ≡ i
  pub value : (v : ℕ → Bool) → word v made + word v (take i bits) ≡ 2 ^ i - 1

pub other-none : (bits : List ℕ) → IsOther bits [] 0
other-none [] = record { known = λ k a. tt; count = refl; value = λ v. refl }
other-none (x ∷ xs) = record { known = λ k a. tt; count = refl; value = λ v. refl }

below-here : (k : ℕ) (xs : List ℕ) (i : ℕ) → i < length xs → AreBelow k xs → get_or xs i 0 < 2 * k
below-here k [] i lt a = absurd (omega (arith, lt))
below-here k (x ∷ xs) zero lt a = a.0
below-here k (x ∷ xs) (suc i) lt a = below-here k xs i (omega (arith, lt)) a.1

both-one : (b : Bool) → one_if_true (not b) + one_if_true b ≡ 1
both-one true = refl
both-one false = refl

pub other-more : (bits made : List ℕ) (i x : ℕ) → i < length bits → ((n : ℕ) → get_or bits i 0 < 2 * n → x < 2 * n) → ((v : ℕ → Bool) → literal v x ≡ not (literal v (get_or bits i 0))) → IsOther bits made i → IsOther bits (made ++ x ∷ []) (i + 1)
other-more bits made i x lt low flips p = record {
  known = λ k a. below-push k made x (p.known k a) (low k (below-here k bits i lt a));
  count = length_push made x ∙ ap (λ z. z + 1) p.count;
  value = λ v.
      let l = literal v (get_or bits i 0) in
      let made-value = word-append v made x ∙ ap (λ q. word v made + 2 ^ q * one_if_true (literal v x)) p.count ∙ ap (λ b. word v made + 2 ^ i * one_if_true b) (flips v) in
      let old = ap (word v) (take_more bits i 0 lt) ∙ word-append v (take i bits) (get_or bits i 0) ∙ ap (λ q. word v (take i bits) + 2 ^ q * one_if_true l) (length-take-le i bits (omega (arith, lt))) in
      let before = p.value v in
      let here = ap (λ z. 2 ^ i * z) (both-one l) in
      let split = mul-add (2 ^ i) (one_if_true (not l)) (one_if_true l) in
      let some = pow_pos i in
      let double = double-power i in
      ap (λ z. z + word v (take (i + 1) bits)) made-value ∙ ap (λ z. word v made + 2 ^ i * one_if_true (not l) + z) old
      ∙ together (word v made) (word v (take i bits)) (2 ^ i) (2 ^ (i + 1)) (2 ^ i * one_if_true (not l)) (2 ^ i * one_if_true l) (2 ^ i * (one_if_true (not l) + one_if_true l)) before (here) split some double;
}
  where
    together : (m b p q x y s : ℕ) → m + b ≡ p - 1 → s ≡ p * 1 → s ≡ x + y → 0 < p → q ≡ 2 * p → m + x + (b + y) ≡ q - 1
    together m b p q x y s before here split some double = omega (arith, before, here, split, some, double)

-- ---- place by place

zipped-append : (op : Bool → Bool → Bool) (v : ℕ → Bool) (xs ys : List ℕ) (x y : ℕ) → length xs ≡ length ys
    → zipped op v (xs ++ x ∷ []) (ys ++ y ∷ []) ≡ zipped op v xs ys + 2 ^ length xs * one_if_true (op (literal v x) (literal v y))
zipped-append op v [] [] x y e = omega arith
zipped-append op v [] (b ∷ ys) x y e = absurd (omega (arith, e))
zipped-append op v (a ∷ xs) [] x y e = absurd (omega (arith, e))
zipped-append op v (a ∷ xs) (b ∷ ys) x y e =
    let rest = zipped-append op v xs ys x y (omega (arith, e)) in
    let double : 2 ^ suc (length xs) ≡ 2 * 2 ^ length xs = omega arith in
    let moved = ap (λ z. z * one_if_true (op (literal v x) (literal v y))) double ∙ mul_assoc 2 (2 ^ length xs) (one_if_true (op (literal v x) (literal v y))) in
    omega (arith, rest, moved)

pub zip-none : (n : Net) (way : Way) (first second : List ℕ) → Grows n n → IsZipped n n way first second [] 0
zip-none n way first second g = record { grows = g; known = tt; count = refl; value = λ v e. nothing (paired way (settle_gates n v)) (settle_gates n v) first second }
  where
    nothing : (op : Bool → Bool → Bool) (v : ℕ → Bool) (xs ys : List ℕ) → 0 ≡ zipped op v (take 0 xs) (take 0 ys)
    nothing op v [] ys = refl
    nothing op v (x ∷ xs) ys = refl

pub zip-more : (n0 n m : Net) (way : Way) (first second made : List ℕ) (i x : ℕ) → IsWayOf n0 way → AreOf n0 first → AreOf n0 second → i < length first → i < length second → Grows n m → IsOf m x
    → ((f g : (ℕ → Bool) → Bool) → Means n (get_or first i 0) f → Means n (get_or second i 0) g → Means m x (λ v. paired way (settle_gates n v) (f v) (g v)))
    → IsZipped n0 n way first second made i → IsZipped n0 m way first second (made ++ x ∷ []) (i + 1)
zip-more n0 n m way first second made i x kw kf ks lf ls g kx says z = record {
  grows = grows-twice n0 n m z.grows g;
  known = all-push m made x (all-wider n m g made z.known) kx;
  count = length_push made x ∙ ap (λ q. q + 1) z.count;
  value = λ v e.
      let s : ℕ → Bool = settle_gates n0 v in
      let op : Bool → Bool → Bool = paired way s in
      let a : ℕ = get_or first i 0 in
      let b : ℕ = get_or second i 0 in
      let f : (ℕ → Bool) → Bool = λ u. literal (settle_gates n0 u) a in
      let h : (ℕ → Bool) → Bool = λ u. literal (settle_gates n0 u) b in
      let bit = (says f h (means-grows n0 n z.grows a f (means-itself n0 a (all-at n0 first i kf lf))) (means-grows n0 n z.grows b h (means-itself n0 b (all-at n0 second i ks ls)))).value v e in
      let same : literal (settle_gates m v) x ≡ op (literal s a) (literal s b) = bit ∙ pair-grows n0 n z.grows way kw v (f v) (h v) in
      let even = length-take-le i first (omega (arith, lf)) in
      let lengths : length (take i first) ≡ length (take i second) = even ∙ sym (length-take-le i second (omega (arith, ls))) in
      word-append (settle_gates m v) made x ∙ ap (λ w. w + 2 ^ length made * one_if_true (literal (settle_gates m v) x)) (grown-word n m g v made z.known ∙ z.value v e)
      ∙ ap (λ q. zipped op s (take i first) (take i second) + 2 ^ q * one_if_true (literal (settle_gates m v) x)) z.count
      ∙ ap (λ q. zipped op s (take i first) (take i second) + 2 ^ i * one_if_true q) same
      ∙ sym (ap (λ xs. zipped op s xs (take (i + 1) second)) (take_more first i 0 lf) ∙ ap (zipped op s (take i first ++ a ∷ [])) (take_more second i 0 ls) ∙ zipped-append op s (take i first) (take i second) a b lengths
      ∙ ap (λ q. zipped op s (take i first) (take i second) + 2 ^ q * one_if_true (op (literal s a) (literal s b))) even);
}

-- numbers of which a function works bit by bit
zipped-by : (op : Bool → Bool → Bool) (num : ℕ → ℕ → ℕ) → num 0 0 ≡ 0 → ((a b r s : ℕ) → r < 2 ^ 1 → s < 2 ^ 1 → num (a * 2 ^ 1 + r) (b * 2 ^ 1 + s) ≡ num a b * 2 ^ 1 + num r s)
    → ((x y : Bool) → num (one_if_true x) (one_if_true y) ≡ one_if_true (op x y)) → (v : ℕ → Bool) (xs ys : List ℕ) → length xs ≡ length ys → zipped op v xs ys ≡ num (word v xs) (word v ys)
zipped-by op num none block bit v [] [] e = sym none
zipped-by op num none block bit v [] (y ∷ ys) e = absurd (omega (arith, e))
zipped-by op num none block bit v (x ∷ xs) [] e = absurd (omega (arith, e))
zipped-by op num none block bit v (x ∷ xs) (y ∷ ys) e =
    let rest = zipped-by op num none block bit v xs ys (omega (arith, e)) in
    let X = literal v x in
    let Y = literal v y in
    let left : word v xs * 2 ^ 1 + one_if_true X ≡ one_if_true X + 2 * word v xs = omega arith in
    let right : word v ys * 2 ^ 1 + one_if_true Y ≡ one_if_true Y + 2 * word v ys = omega arith in
    let turn : one_if_true (op X Y) + 2 * num (word v xs) (word v ys) ≡ num (word v xs) (word v ys) * 2 ^ 1 + one_if_true (op X Y) = omega arith in
    ap (λ z. one_if_true (op X Y) + 2 * z) rest ∙ turn ∙ ap (λ z. num (word v xs) (word v ys) * 2 ^ 1 + z) (sym (bit X Y))
    ∙ sym (block (word v xs) (word v ys) (one_if_true X) (one_if_true Y) (one-small X) (one-small Y)) ∙ ap (λ z. num z (word v ys * 2 ^ 1 + one_if_true Y)) left ∙ ap (num (one_if_true X + 2 * word v xs)) right

and-bit : (x y : Bool) → bit_and (one_if_true x) (one_if_true y) ≡ one_if_true (x && y)
and-bit true true = refl
and-bit true false = refl
and-bit false true = refl
and-bit false false = refl

or-bit : (x y : Bool) → bit_or (one_if_true x) (one_if_true y) ≡ one_if_true (x || y)
or-bit true true = refl
or-bit true false = refl
or-bit false true = refl
or-bit false false = refl

xor-bit : (x y : Bool) → bit_xor (one_if_true x) (one_if_true y) ≡ one_if_true (differ x y)
xor-bit true true = refl
xor-bit true false = refl
xor-bit false true = refl
xor-bit false false = refl

zipped-chosen : (t : Bool) (v : ℕ → Bool) (xs ys : List ℕ) → length xs ≡ length ys → zipped (λ a b. if t then a else b) v xs ys ≡ (if t then word v xs else word v ys)
zipped-chosen true v xs ys e = zipped-by (λ a b. a) (λ a b. a) refl (λ a b r s lr ls. refl) (λ x y. refl) v xs ys e
zipped-chosen false v xs ys e = zipped-by (λ a b. b) (λ a b. b) refl (λ a b r s lr ls. refl) (λ x y. refl) v xs ys e

zipped-is : (way : Way) (v : ℕ → Bool) (xs ys : List ℕ) → length xs ≡ length ys → zipped (paired way v) v xs ys ≡ combined way v (word v xs) (word v ys)
zipped-is And v xs ys e = zipped-by (λ a b. a && b) bit_and refl (λ a b r s lr ls. and_block 1 a b r s lr ls) and-bit v xs ys e
zipped-is Or v xs ys e = zipped-by (λ a b. a || b) bit_or refl (λ a b r s lr ls. or_block 1 a b r s lr ls) or-bit v xs ys e
zipped-is Xor v xs ys e = zipped-by differ bit_xor refl (λ a b r s lr ls. xor_block 1 a b r s lr ls) xor-bit v xs ys e
zipped-is (Choose t) v xs ys e = zipped-chosen (literal v t) v xs ys e

pub left-le : (a b : ℕ) → a ≤ max a b
left-le a b = omega arith

pub right-le : (a b : ℕ) → b ≤ max a b
right-le a b = omega arith

-- words that are padded to the longer length, and zipped
pub combine-is : (n0 n : Net) (way : Way) (first second wide other made : List ℕ) (count : ℕ) → 0 < n0.start → count ≡ max (length first) (length second) → IsPadded first wide count → IsPadded second other count
    → IsZipped n0 n way wide other made (length wide) → MeansWord n made (λ v. let s = settle_gates n0 v in combined way s (word s first) (word s second))
combine-is n0 n way first second wide other made count front most p q z = record {
  known = z.known;
  value = λ v e.
      let s : ℕ → Bool = settle_gates n0 v in
      let zero-var : s 0 ≡ false = no-variable n0.start n0.gates v front e in
      let even : length wide ≡ length other = p.count ∙ sym q.count in
      let wf : word s wide ≡ word s first = p.value s zero-var ∙ word-fits s first count (subst (λ c. length first ≤ c) (sym most) (left-le (length first) (length second))) in
      let wo : word s other ≡ word s second = q.value s zero-var ∙ word-fits s second count (subst (λ c. length second ≤ c) (sym most) (right-le (length first) (length second))) in
      z.value v e ∙ ap (λ xs. zipped (paired way s) s xs (take (length wide) other)) (take_all (length wide) wide (omega arith)) ∙ ap (zipped (paired way s) s wide) (take_all (length wide) other (omega (arith, even)))
      ∙ zipped-is way s wide other even ∙ ap (λ x. combined way s x (word s other)) wf ∙ ap (combined way s (word s first)) wo;
}

-- ---- sums

-- the places below the last, and the last
pub total-is : (n0 n1 n2 : Net) (first second low : List ℕ) (carry over bit last : ℕ) → AreOf n0 first → AreOf n0 second → IsOf n0 carry → length second ≡ length first → last + 1 ≡ length first → Grows n0 n1 → Grows n1 n2
    → IsRipple n1 (take last first) (take last second) carry low over (length (take last first))
    → ((f g h : (ℕ → Bool) → Bool) → Means n1 (get_or first last 0) f → Means n1 (get_or second last 0) g → Means n1 over h → Means n2 bit (λ v. differ (differ (f v) (g v)) (h v)))
    → MeansWord n2 (low ++ bit ∷ []) (λ v. let s = settle_gates n0 v in (word s first + word s second + one_if_true (literal s carry)) % 2 ^ length first)
total-is n0 n1 n2 first second low carry over bit last kf ks kc same ends g1 g2 r says =
    let a : ℕ = get_or first last 0 in
    let b : ℕ = get_or second last 0 in
    let lf : last < length first = omega (arith, ends) in
    let ls : last < length second = omega (arith, ends, same) in
    let F : (ℕ → Bool) → Bool = λ u. literal (settle_gates n0 u) a in
    let H : (ℕ → Bool) → Bool = λ u. literal (settle_gates n0 u) b in
    let O : (ℕ → Bool) → Bool = λ u. literal (settle_gates n1 u) over in
    let means = says F H O (means-grows n0 n1 g1 a F (means-itself n0 a (all-at n0 first last kf lf))) (means-grows n0 n1 g1 b H (means-itself n0 b (all-at n0 second last ks ls))) (means-itself n1 over r.over) in
    record {
      known = all-push n2 low bit (all-wider n1 n2 g2 low r.bits) means.known;
      value = λ v e.
          let s : ℕ → Bool = settle_gates n0 v in
          let u : ℕ → Bool = settle_gates n1 v in
          let X = literal s a in
          let Y = literal s b in
          let C = literal u over in
          let long = length-take-le last first (omega (arith, lf)) in
          let W = word u low in
          let A = word s (take last first) in
          let B = word s (take last second) in
          let k = one_if_true (literal s carry) in
          let front-a : word u (take (length (take last first)) (take last first)) ≡ A = ap (word u) (take_all (length (take last first)) (take last first) (omega arith)) ∙ grown-word n0 n1 g1 v (take last first) (all-front n0 first last kf) in
          let long-b : length (take last second) ≤ length (take last first) = (let other = length-take-le last second (omega (arith, ls)) in omega (arith, long, other)) in
          let front-b : word u (take (length (take last first)) (take last second)) ≡ B = ap (word u) (take_all (length (take last first)) (take last second) long-b) ∙ grown-word n0 n1 g1 v (take last second) (all-front n0 second last ks) in
          let low-sum : W + 2 ^ last * one_if_true C ≡ A + B + k =
          ap (λ q. W + 2 ^ q * one_if_true C) (sym long) ∙ r.value v e ∙ ap (λ z. z + word u (take (length (take last first)) (take last second)) + one_if_true (literal u carry)) front-a
          ∙ ap (λ z. A + z + one_if_true (literal u carry)) front-b ∙ ap (λ z. A + B + one_if_true z) (grown-literal n0 n1 g1 v carry kc) in
          let made : word (settle_gates n2 v) (low ++ bit ∷ []) ≡ W + 2 ^ last * one_if_true (differ (differ X Y) C) =
          word-append (settle_gates n2 v) low bit ∙ ap (λ z. z + 2 ^ length low * one_if_true (literal (settle_gates n2 v) bit)) (grown-word n1 n2 g2 v low r.bits)
          ∙ ap (λ q. W + 2 ^ q * one_if_true (literal (settle_gates n2 v) bit)) (r.count ∙ long) ∙ ap (λ q. W + 2 ^ last * one_if_true q) (means.value v e) in
          let whole-a : word s first ≡ A + 2 ^ last * one_if_true X = whole s first last ends in
          let whole-b : word s second ≡ B + 2 ^ last * one_if_true Y = whole s second last (ends ∙ sym same) in
          let width : length first ≡ last + 1 = sym ends in
          let small : W < 2 ^ last = subst (λ q. W < 2 ^ q) (r.count ∙ long) (word-small u low) in
          made
          ∙ last-place W A B k (2 ^ last) (one_if_true (differ (differ X Y) C)) (one_if_true (majority X Y C)) (one_if_true X) (one_if_true Y) (one_if_true C) small (one-small (differ (differ X Y) C)) low-sum (full-sum X Y C)
          ∙ ap (λ q. (A + 2 ^ last * one_if_true X + (B + 2 ^ last * one_if_true Y) + k) % q) (sym (double-power last)) ∙ ap (λ q. (A + 2 ^ last * one_if_true X + (B + 2 ^ last * one_if_true Y) + k) % 2 ^ q) ends
          ∙ ap (λ z. (z + (B + 2 ^ last * one_if_true Y) + k) % 2 ^ length first) (sym whole-a) ∙ ap (λ z. (word s first + z + k) % 2 ^ length first) (sym whole-b);
    }
  where
    all-front : (n : Net) (xs : List ℕ) (i : ℕ) → AreOf n xs → AreOf n (take i xs)
    all-front n [] zero a = tt
    all-front n [] (suc i) a = tt
    all-front n (x ∷ xs) zero a = tt
    all-front n (x ∷ xs) (suc i) a = (a.0, all-front n xs i a.1)

    whole : (s : ℕ → Bool) (xs : List ℕ) (i : ℕ) → i + 1 ≡ length xs → word s xs ≡ word s (take i xs) + 2 ^ i * one_if_true (literal s (get_or xs i 0))
    whole s xs i e =
        let lt : i < length xs = omega (arith, e) in
        ap (word s) (sym (take_all (i + 1) xs (omega (arith, e))) ∙ take_more xs i 0 lt) ∙ word-append s (take i xs) (get_or xs i 0) ∙ ap (λ q. word s (take i xs) + 2 ^ q * one_if_true (literal s (get_or xs i 0))) (length-take-le i xs (omega (arith, e)))

    last-place : (W A B k p s d x y c : ℕ) → W < p → s < 2 → W + p * c ≡ A + B + k → s + 2 * d ≡ x + y + c → W + p * s ≡ (A + p * x + (B + p * y) + k) % (2 * p)
    last-place W A B k p s d x y c small bit so here =
        let scaled : p * (s + 2 * d) ≡ p * (x + y + c) = ap (λ z. p * z) here in
        let left = mul-add p s (2 * d) in
        let right = mul-add p (x + y) c in
        let inner = mul-add p x y in
        let moved : 2 * p * d ≡ p * (2 * d) = ap (λ z. z * d) (mul_comm 2 p) ∙ mul_assoc p 2 d in
        let sum : A + p * x + (B + p * y) + k ≡ W + p * s + 2 * p * d = omega (arith, so, scaled, left, right, inner, moved) in
        let fits : W + p * s < 2 * p = below s bit in
        sym (ap (λ z. z % (2 * p)) sum ∙ add-mul-mod_self_left (W + p * s) (2 * p) d ∙ mod-eq_of_lt fits)
      where
        below : (s : ℕ) → s < 2 → W + p * s < 2 * p
        below zero lt = omega (arith, small)
        below (suc zero) lt = omega (arith, small)
        below (suc (suc s)) lt = absurd (omega (arith, lt))

pub add-is : (x y m : ℕ) → (x % m + y % m + 0) % m ≡ (x + y) % m
add-is x y m = let none : x % m + y % m + 0 ≡ x % m + y % m = omega arith in ap (λ z. z % m) none ∙ sym (add-mod x y m)

pub subtract-is : (x y m : ℕ) → 0 < m → (x % m + (m - 1 - y % m) + 1) % m ≡ (x + (m - y % m)) % m
subtract-is x y m some =
    let small = mod-lt y some in
    let same : x % m + (m - 1 - y % m) + 1 ≡ x % m + (m - y % m) = omega (arith, some, small) in
    ap (λ z. z % m) same ∙ mod-add-mod x m (m - y % m)

-- ---- comparison

less-bit : (A B p : ℕ) (X Y : Bool) → A < p → B < p → ((not X && Y) || (nat_lt A B && not (X && not Y))) ≡ nat_lt (A + p * one_if_true X) (B + p * one_if_true Y)
less-bit A B p true true a b = elim (cases_lt A B) [
  | inl lt ↦ ap (λ z. z && true) (lt-ltb A B lt) ∙ sym (lt-ltb (A + p * 1) (B + p * 1) (omega (arith, lt)))
  | inr le ↦ ap (λ z. z && true) (le-ltb A B le) ∙ sym (le-ltb (A + p * 1) (B + p * 1) (omega (arith, le)))
]
less-bit A B p false false a b = elim (cases_lt A B) [
  | inl lt ↦ ap (λ z. z && true) (lt-ltb A B lt) ∙ sym (lt-ltb (A + p * 0) (B + p * 0) (omega (arith, lt)))
  | inr le ↦ ap (λ z. z && true) (le-ltb A B le) ∙ sym (le-ltb (A + p * 0) (B + p * 0) (omega (arith, le)))
]
less-bit A B p true false a b = none (nat_lt A B) ∙ sym (le-ltb (A + p * 1) (B + p * 0) (omega (arith, a, b)))
  where
    none : (z : Bool) → (z && false) ≡ false
    none true = refl
    none false = refl
less-bit A B p false true a b = sym (lt-ltb (A + p * 0) (B + p * 1) (omega (arith, a, b)))

pub less-none : (n : Net) (first second : List ℕ) → 0 < n.start → Grows n n → IsLess n n first second 0 0
less-none n first second front g = record { grows = g; known = omega (arith, front); value = λ v e. no-variable n.start n.gates v front e ∙ nothing (settle_gates n v) first second }
  where
    nothing : (s : ℕ → Bool) (xs ys : List ℕ) → false ≡ nat_lt (word s (take 0 xs)) (word s (take 0 ys))
    nothing s [] [] = refl
    nothing s [] (y ∷ ys) = refl
    nothing s (x ∷ xs) [] = refl
    nothing s (x ∷ xs) (y ∷ ys) = refl

front-more : (s : ℕ → Bool) (xs : List ℕ) (i : ℕ) → i < length xs → word s (take (i + 1) xs) ≡ word s (take i xs) + 2 ^ i * one_if_true (literal s (get_or xs i 0))
front-more s xs i lt = ap (word s) (take_more xs i 0 lt) ∙ word-append s (take i xs) (get_or xs i 0) ∙ ap (λ q. word s (take i xs) + 2 ^ q * one_if_true (literal s (get_or xs i 0))) (length-take-le i xs (omega (arith, lt)))

front-small : (s : ℕ → Bool) (xs : List ℕ) (i : ℕ) → i < length xs → word s (take i xs) < 2 ^ i
front-small s xs i lt = subst (λ q. word s (take i xs) < 2 ^ q) (length-take-le i xs (omega (arith, lt))) (word-small s (take i xs))

pub less-more : (n0 n m : Net) (first second : List ℕ) (x y i : ℕ) → AreOf n0 first → AreOf n0 second → i < length first → i < length second → Grows n m → IsOf m y
    → ((f g h : (ℕ → Bool) → Bool) → Means n (get_or first i 0) f → Means n (get_or second i 0) g → Means n x h → Means m y (λ v. (not (f v) && g v) || (h v && not (f v && not (g v)))))
    → IsLess n0 n first second x i → IsLess n0 m first second y (i + 1)
less-more n0 n m first second x y i kf ks lf ls g ky says z = record {
  grows = grows-twice n0 n m z.grows g;
  known = ky;
  value = λ v e.
      let s : ℕ → Bool = settle_gates n0 v in
      let a : ℕ = get_or first i 0 in
      let b : ℕ = get_or second i 0 in
      let f : (ℕ → Bool) → Bool = λ u. literal (settle_gates n0 u) a in
      let h : (ℕ → Bool) → Bool = λ u. literal (settle_gates n0 u) b in
      let l : (ℕ → Bool) → Bool = λ u. literal (settle_gates n u) x in
      let bit = (says f h l (means-grows n0 n z.grows a f (means-itself n0 a (all-at n0 first i kf lf))) (means-grows n0 n z.grows b h (means-itself n0 b (all-at n0 second i ks ls))) (means-itself n x z.known)).value v e in
      bit ∙ ap (λ q. (not (f v) && h v) || (q && not (f v && not (h v)))) (z.value v e)
      ∙ less-bit (word s (take i first)) (word s (take i second)) (2 ^ i) (f v) (h v) (front-small s first i lf) (front-small s second i ls)
      ∙ sym (ap (λ q. nat_lt q (word s (take (i + 1) second))) (front-more s first i lf) ∙ ap (nat_lt (word s (take i first) + 2 ^ i * one_if_true (f v))) (front-more s second i ls));
}

pub less-is : (n0 n : Net) (first second wide other : List ℕ) (x count : ℕ) → 0 < n0.start → count ≡ max (length first) (length second) → IsPadded first wide count → IsPadded second other count
    → IsLess n0 n wide other x (length wide) → Means n x (λ v. let s = settle_gates n0 v in nat_lt (word s first) (word s second))
less-is n0 n first second wide other x count front most p q z = record {
  known = z.known;
  value = λ v e.
      let s : ℕ → Bool = settle_gates n0 v in
      let zero-var : s 0 ≡ false = no-variable n0.start n0.gates v front e in
      let even : length wide ≡ length other = p.count ∙ sym q.count in
      let wf : word s wide ≡ word s first = p.value s zero-var ∙ word-fits s first count (subst (λ c. length first ≤ c) (sym most) (left-le (length first) (length second))) in
      let wo : word s other ≡ word s second = q.value s zero-var ∙ word-fits s second count (subst (λ c. length second ≤ c) (sym most) (right-le (length first) (length second))) in
      z.value v e ∙ ap (λ xs. nat_lt (word s xs) (word s (take (length wide) other))) (take_all (length wide) wide (omega arith)) ∙ ap (λ xs. nat_lt (word s wide) (word s xs)) (take_all (length wide) other (omega (arith, even)))
      ∙ ap (λ z. nat_lt z (word s other)) wf ∙ ap (nat_lt (word s first)) wo;
}

-- ---- whether a bit is 1

-- the literal says whether one of the first i bits is 1
pub record IsAny (old new : Net) (bits : List ℕ) (x i : ℕ) : Type 0 where
  pub grows : Grows old new
  pub known : IsOf new x
  pub value : (v : ℕ → Bool) → v 0 ≡ false → literal (settle_gates new v) x ≡ not (word (settle_gates old v) (take i bits) == 0)

pub any-none : (n : Net) (bits : List ℕ) → 0 < n.start → Grows n n → IsAny n n bits 0 0
any-none n bits front g = record { grows = g; known = omega (arith, front); value = λ v e. no-variable n.start n.gates v front e ∙ nothing (settle_gates n v) bits }
  where
    nothing : (s : ℕ → Bool) (xs : List ℕ) → false ≡ not (word s (take 0 xs) == 0)
    nothing s [] = refl
    nothing s (x ∷ xs) = refl

any-bit : (W p : ℕ) (X : Bool) → 0 < p → (not (W == 0) || X) ≡ not (W + p * one_if_true X == 0)
any-bit W p true some = right (not (W == 0)) ∙ sym (ap not (ne_eqb (W + p * 1) 0 (λ e. omega (arith, e, some))))
  where
    right : (z : Bool) → (z || true) ≡ true
    right true = refl
    right false = refl
any-bit W p false some = left (not (W == 0)) ∙ ap (λ z. not (z == 0)) (let e : W ≡ W + p * 0 = omega arith in e)
  where
    left : (z : Bool) → (z || false) ≡ z
    left true = refl
    left false = refl

pub any-more : (n0 n m : Net) (bits : List ℕ) (x y i : ℕ) → AreOf n0 bits → i < length bits → Grows n m → IsOf m y
    → ((f g : (ℕ → Bool) → Bool) → Means n x f → Means n (get_or bits i 0) g → Means m y (λ v. f v || g v))
    → IsAny n0 n bits x i → IsAny n0 m bits y (i + 1)
any-more n0 n m bits x y i kb lb g ky says z = record {
  grows = grows-twice n0 n m z.grows g;
  known = ky;
  value = λ v e.
      let s : ℕ → Bool = settle_gates n0 v in
      let a : ℕ = get_or bits i 0 in
      let f : (ℕ → Bool) → Bool = λ u. literal (settle_gates n0 u) a in
      let l : (ℕ → Bool) → Bool = λ u. literal (settle_gates n u) x in
      let bit = (says l f (means-itself n x z.known) (means-grows n0 n z.grows a f (means-itself n0 a (all-at n0 bits i kb lb)))).value v e in
      bit ∙ ap (λ q. q || f v) (z.value v e) ∙ any-bit (word s (take i bits)) (2 ^ i) (f v) (pow_pos i) ∙ ap (λ q. not (q == 0)) (sym (front-more s bits i lb));
}

pub any-is : (n0 n : Net) (bits : List ℕ) (x i : ℕ) → length bits ≤ i → IsAny n0 n bits x i → Means n x (λ v. not (word (settle_gates n0 v) bits == 0))
any-is n0 n bits x i all z = record { known = z.known; value = λ v e. z.value v e ∙ ap (λ xs. not (word (settle_gates n0 v) xs == 0)) (take_all i bits all) }

-- numbers are equal where no bit differs
pub equal-is : (x y : ℕ) → not (not (bit_xor x y == 0)) ≡ (x == y)
equal-is x y = elim (cases_eq x y) [
  | inl e ↦ twice (bit_xor x y == 0) ∙ eq-eqb (bit_xor x y) 0 (ap (λ z. bit_xor z y) e ∙ xor_self y) ∙ sym (eq-eqb x y e)
  | inr ne ↦ twice (bit_xor x y == 0) ∙ ne_eqb (bit_xor x y) 0 (λ e. ne (apart e)) ∙ sym (ne_eqb x y ne)
]
  where
    twice : (z : Bool) → not (not z) ≡ z
    twice true = refl
    twice false = refl

    apart : bit_xor x y ≡ 0 → x ≡ y
    apart e = same_from_bits x y (λ i. one-of (bit_at x i) (bit_at y i) (bit_at-lt x i) (bit_at-lt y i) (sym (bit_at_xor x y i) ∙ ap (λ z. bit_at z i) e ∙ bit_at-zero i))
      where
        one-of : (a b : ℕ) → a < 2 → b < 2 → (a + b) % 2 ≡ 0 → a ≡ b
        one-of a b la lb e = omega (arith, la, lb, e)

-- ---- parts and joins

pub word-drop : (v : ℕ → Bool) (xs : List ℕ) (i : ℕ) → word v (drop i xs) ≡ word v xs / 2 ^ i
word-drop v [] zero = refl
word-drop v [] (suc i) = nothing (2 ^ suc i)
  where
    nothing : (p : ℕ) → 0 ≡ 0 / p
    nothing p = omega arith
word-drop v (x ∷ xs) zero = whole (word v (x ∷ xs))
  where
    whole : (n : ℕ) → n ≡ n / 2 ^ 0
    whole n = omega arith
word-drop v (x ∷ xs) (suc i) =
    let small = one-small (literal v x) in
    let half : (one_if_true (literal v x) + 2 * word v xs) / 2 ≡ word v xs = omega (arith, small) in
    let more : suc i ≡ 1 + i = omega arith in
    word-drop v xs i ∙ sym (ap (λ k. word v (x ∷ xs) / 2 ^ k) more ∙ sym (shr-shr (word v (x ∷ xs)) 1 i) ∙ ap (λ z. z / 2 ^ i) half)

pub below-drop : (k : ℕ) (xs : List ℕ) (i : ℕ) → AreBelow k xs → AreBelow k (drop i xs)
below-drop k [] zero a = a
below-drop k [] (suc i) a = tt
below-drop k (x ∷ xs) zero a = a
below-drop k (x ∷ xs) (suc i) a = below-drop k xs i a.1

-- to drop all bits is to drop even more
pub part-is : (v : ℕ → Bool) (xs : List ℕ) (low from : ℕ) → from ≡ min low (length xs) → word v (drop from xs) ≡ word v xs / 2 ^ low
part-is v xs low from e = word-drop v xs from ∙ elim (cases_lt low (length xs)) [
  | inl lt ↦ let same : from ≡ low = omega (arith, e, lt) in ap (λ k. word v xs / 2 ^ k) same
  | inr le ↦
      let fits : from ≡ length xs = omega (arith, e, le) in
      let small = word-small v xs in
      let larger = pow_mono le in
      ap (λ k. word v xs / 2 ^ k) fits ∙ none (word v xs) (2 ^ length xs) small ∙ sym (none (word v xs) (2 ^ low) (omega (arith, small, larger)))
]
  where
    none : (n p : ℕ) → n < p → n / p ≡ 0
    none n p lt = div-eq_of_lt lt

pub word-both : (v : ℕ → Bool) (xs ys : List ℕ) → word v (xs ++ ys) ≡ word v xs + 2 ^ length xs * word v ys
word-both v [] ys = omega arith
word-both v (x ∷ xs) ys =
    let rest = word-both v xs ys in
    let double : 2 ^ suc (length xs) ≡ 2 * 2 ^ length xs = omega arith in
    let moved = ap (λ z. z * word v ys) double ∙ mul_assoc 2 (2 ^ length xs) (word v ys) in
    omega (arith, rest, moved)

pub below-both : (k : ℕ) (xs ys : List ℕ) → AreBelow k xs → AreBelow k ys → AreBelow k (xs ++ ys)
below-both k [] ys a b = b
below-both k (x ∷ xs) ys a b = (a.0, below-both k xs ys a.1 b)

-- cut to its own length or to 64 bits
pub cut-64 : (v : ℕ → Bool) (xs : List ℕ) (size : ℕ) → size ≡ min (length xs) 64 → word v xs % 2 ^ size ≡ word v xs % 2 ^ 64
cut-64 v xs size e = elim (cases_lt 64 (length xs)) [
  | inl lt ↦ let most : size ≡ 64 = omega (arith, e, lt) in ap (λ k. word v xs % 2 ^ k) most
  | inr le ↦
      let own : size ≡ length xs = omega (arith, e, le) in
      ap (λ k. word v xs % 2 ^ k) own ∙ word-fits v xs (length xs) (omega arith) ∙ sym (word-fits v xs 64 le)
]

-- what is left of the greatest number, where what is cut off is known
pub minus-over : (x m d : ℕ) → 0 < m → d ≡ x / m → (if not (d == 0) then 0 else m - 1 - x % m) ≡ m - 1 - x
minus-over x m zero some e =
    let split = div-add-mod x m in
    let zeros : m * 0 ≡ 0 = omega arith in
    let none : m * (x / m) ≡ 0 = ap (λ z. m * z) (sym e) ∙ zeros in
    let same : x % m ≡ x = omega (arith, split, none) in
    ap (λ z. m - 1 - z) same
minus-over x m (suc d) some e =
    let split = div-add-mod x m in
    let more : m ≤ m * (x / m) = subst (λ z. m ≤ m * z) e (times m d) in
    let rest : 0 ≡ m - 1 - x = omega (arith, split, more) in
    ap (λ b. if not b then 0 else m - 1 - x % m) (ne_eqb (suc d) 0 (λ q. omega (arith, q))) ∙ rest
  where
    times : (m d : ℕ) → m ≤ m * suc d
    times m d = let split = mul-add m 1 d in let e : suc d ≡ 1 + d = omega arith in let same = ap (λ z. m * z) e in omega (arith, split, same)

-- each literal is the other
pub record IsComplement (bits made : List ℕ) : Type 0 where
  pub known : (k : ℕ) → AreBelow k bits → AreBelow k made
  pub value : (v : ℕ → Bool) → word v made ≡ 2 ^ length bits - 1 - word v bits

pub bound-some : (n : Net) → 0 < n.start → 0 < n.start + length n.gates
bound-some n front = omega (arith, front)

module _ (n : Net) (front : 0 < n.start) (bits low other : List ℕ) (count : ℕ) (kb : AreOf n bits) (p : IsPadded bits low count) (o : IsComplement low other) where
  pub minus-known : AreOf n other
  minus-known = o.known (n.start + length n.gates) (p.known (n.start + length n.gates) (bound-some n front) kb)

  pub minus-value : (v : ℕ → Bool) → v 0 ≡ false → let s = settle_gates n v in word s other ≡ 2 ^ count - 1 - word s bits % 2 ^ count
  minus-value v e =
      let s : ℕ → Bool = settle_gates n v in
      o.value s ∙ ap (λ k. 2 ^ k - 1 - word s low) p.count ∙ ap (λ z. 2 ^ count - 1 - z) (p.value s (no-variable n.start n.gates v front e))

  pub minus-fits : length bits ≤ count → MeansWord n other (λ v. 2 ^ count - 1 - word (settle_gates n v) bits)
  minus-fits fits = record { known = minus-known; value = λ v e. minus-value v e ∙ ap (λ z. 2 ^ count - 1 - z) (word-fits (settle_gates n v) bits count fits) }

  -- where bits are cut off, the rest is 0 if one of them is 1
  pub minus-cut : (n1 n2 : Net) (over : ℕ) (zeros rest : List ℕ) → Grows n n1 → Means n1 over (λ v. not (word (settle_gates n v) (drop count bits) == 0)) → IsPadded [] zeros count
      → MeansWord n2 rest (λ v. let s = settle_gates n1 v in combined (Choose over) s (word s zeros) (word s other)) → MeansWord n2 rest (λ v. 2 ^ count - 1 - word (settle_gates n v) bits)
  minus-cut n1 n2 over zeros rest g means z r = record {
    known = r.known;
    value = λ v e.
        let s : ℕ → Bool = settle_gates n v in
        let u : ℕ → Bool = settle_gates n1 v in
        let X : ℕ = word s bits in
        let front1 : 0 < n1.start = (let same = g.start in omega (arith, front, same)) in
        let nothing : word u zeros ≡ 0 = z.value u (no-variable n1.start n1.gates v front1 e) ∙ none (2 ^ count) in
        r.value v e ∙ ap (λ t. if t then word u zeros else word u other) (means.value v e) ∙ ap (λ q. if not (word s (drop count bits) == 0) then q else word u other) nothing
        ∙ ap (λ q. if not (word s (drop count bits) == 0) then 0 else q) (grown-word n n1 g v other minus-known ∙ minus-value v e) ∙ minus-over X (2 ^ count) (word s (drop count bits)) (pow_pos count) (word-drop s bits count);
  }
    where
      none : (m : ℕ) → 0 % m ≡ 0
      none m = zero-mod m

-- one word in so many bits, and the other behind it
pub joined-value : (v : ℕ → Bool) → v 0 ≡ false → (back low front made : List ℕ) (count i : ℕ) → IsPadded back low count → length front ≤ i → made ≡ low ++ take i front → word v made ≡ word v back % 2 ^ count + 2 ^ count * word v front
joined-value v e back low front made count i p all same =
    ap (word v) same ∙ ap (λ ys. word v (low ++ ys)) (take_all i front all) ∙ word-both v low front ∙ ap (λ z. z + 2 ^ length low * word v front) (p.value v e) ∙ ap (λ k. word v back % 2 ^ count + 2 ^ k * word v front) p.count

pub joined-count : (low front made : List ℕ) (count i : ℕ) → length low ≡ count → length front ≤ i → made ≡ low ++ take i front → length made ≡ count + length front
joined-count low front made count i c all same = ap length same ∙ ap (λ ys. length (low ++ ys)) (take_all i front all) ∙ length-append low front ∙ ap (λ k. k + length front) c

pub joined-known : (k : ℕ) (low front made : List ℕ) (i : ℕ) → length front ≤ i → made ≡ low ++ take i front → AreBelow k low → AreBelow k front → AreBelow k made
joined-known k low front made i all same a b = subst (AreBelow k) (sym (same ∙ ap (λ ys. low ++ ys) (take_all i front all))) (below-both k low front a b)

-- in 64 bits
pub join-is : (s : ℕ → Bool) (front back all bits : List ℕ) (count : ℕ) → length back ≤ count → word s all ≡ word s back % 2 ^ count + 2 ^ count * word s front → word s bits ≡ word s all % 2 ^ 64
    → word s bits ≡ (word s front * 2 ^ count + word s back) % 2 ^ 64
join-is s front back all bits count fits whole cut =
    let b = word-fits s back count fits in
    let c = mul_comm (2 ^ count) (word s front) in
    let sum : word s back % 2 ^ count + 2 ^ count * word s front ≡ word s front * 2 ^ count + word s back = omega (arith, b, c) in
    cut ∙ ap (λ z. z % 2 ^ 64) (whole ∙ sum)

pub sum-join : (F p B : ℕ) (h : ℕ) → h ≡ 0 % p + p * F → (h + B) % 2 ^ 64 ≡ (F * p + B) % 2 ^ 64
sum-join F p B h e =
    let none = zero-mod p in
    let c = mul_comm p F in
    let same : h + B ≡ F * p + B = omega (arith, e, none, c) in
    ap (λ z. z % 2 ^ 64) same
