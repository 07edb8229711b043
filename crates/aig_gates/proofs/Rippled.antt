-- A sum, place by place.
use Rattle.std.proofs.Common.{◌≡◌, ℕ, zero, suc, ◌+◌, ◌*◌, ◌%◌, ◌<◌, ◌^◌, Bool, false, List, [], ◌∷◌, ◌++◌, length, refl, sym, ◌∙◌, ap, subst, arith}
use Rattle.std.specs.Prelude.{take, get_or}
use Rattle.std.proofs.lemmas.List.{take_more, take_all, length-take-le, length_push}
use Rattle.aig_model.specs.Form.{literal, one_if_true, word}
use Rattle.aig_model.specs.Netlist.{Net, Grows, IsOf, AreOf, settle_gates, Means, differ, majority}
use Rattle.aig_model.proofs.Netlists.{all-wider, grown-literal, grown-word, word-append, word-small, sum-word, full-sum, ripple-step}
use Rattle.aig_gates.specs.Ripple.{IsRipple}
use Rattle.aig_gates.proofs.Inserted.{no-variable}

pub all-take : (n : Net) (xs : List ℕ) (i : ℕ) → AreOf n xs → AreOf n (take i xs)
all-take n [] i a = nothing i
  where
    nothing : (i : ℕ) → AreOf n (take i [])
    nothing zero = tt
    nothing (suc i) = tt
all-take n (x ∷ xs) zero a = tt
all-take n (x ∷ xs) (suc i) a = (a.0, all-take n xs i a.1)

pub all-at : (n : Net) (xs : List ℕ) (i : ℕ) → AreOf n xs → i < length xs → IsOf n (get_or xs i 0)
all-at n [] i a lt = absurd (omega (arith, lt))
all-at n (x ∷ xs) zero a lt = a.0
all-at n (x ∷ xs) (suc i) a lt = all-at n xs i a.1 (omega (arith, lt))

pub all-push : (n : Net) (xs : List ℕ) (x : ℕ) → AreOf n xs → IsOf n x → AreOf n (xs ++ x ∷ [])
all-push n [] x a b = (b, tt)
all-push n (y ∷ xs) x a b = (a.0, all-push n xs x a.1 b)

pub ripple-start : (n : Net) (first second : List ℕ) (carry : ℕ) → IsOf n carry → IsRipple n first second carry [] carry 0
ripple-start n first second carry c = record { bits = tt; count = refl; over = c; value = λ v e. start (one_if_true (literal (settle_gates n v) carry)) (word (settle_gates n v) (take 0 first)) (word (settle_gates n v) (take 0 second)) (none v first) (none v second) }
  where
    none : (v : ℕ → Bool) (xs : List ℕ) → word (settle_gates n v) (take 0 xs) ≡ 0
    none v [] = refl
    none v (x ∷ xs) = refl

    start : (c a b : ℕ) → a ≡ 0 → b ≡ 0 → 0 + 2 ^ 0 * c ≡ a + b + c
    start c a b e f = omega (arith, e, f)

pub means-itself : (n : Net) (x : ℕ) → IsOf n x → Means n x (λ v. literal (settle_gates n v) x)
means-itself n x known = record { known = known; value = λ v e. refl }

-- one more place of a word of literals
word-more : (n m : Net) → Grows n m → (v : ℕ → Bool) (xs : List ℕ) (i : ℕ) → AreOf n xs → i < length xs
    → word (settle_gates m v) (take (i + 1) xs) ≡ word (settle_gates n v) (take i xs) + 2 ^ i * one_if_true (literal (settle_gates n v) (get_or xs i 0))
word-more n m g v xs i a lt =
    ap (word (settle_gates m v)) (take_more xs i 0 lt) ∙ word-append (settle_gates m v) (take i xs) (get_or xs i 0)
    ∙ ap (λ z. z + 2 ^ length (take i xs) * one_if_true (literal (settle_gates m v) (get_or xs i 0))) (grown-word n m g v (take i xs) (all-take n xs i a))
    ∙ ap (λ z. word (settle_gates n v) (take i xs) + 2 ^ length (take i xs) * one_if_true z) (grown-literal n m g v (get_or xs i 0) (all-at n xs i a lt))
    ∙ ap (λ z. word (settle_gates n v) (take i xs) + 2 ^ z * one_if_true (literal (settle_gates n v) (get_or xs i 0))) (length-take-le i xs (omega (arith, lt)))

pub ripple-more : (n m : Net) (first second : List ℕ) (carry : ℕ) (bits : List ℕ) (over i bit next : ℕ) → Grows n m → AreOf n first → AreOf n second → IsOf n carry → i < length first → i < length second → IsOf m bit → IsOf m next
    → ((f g h : (ℕ → Bool) → Bool) → Means n (get_or first i 0) f → Means n (get_or second i 0) g → Means n over h → Means m bit (λ v. differ (differ (f v) (g v)) (h v)) × Means m next (λ v. majority (f v) (g v) (h v)))
    → IsRipple n first second carry bits over i → IsRipple m first second carry (bits ++ bit ∷ []) next (i + 1)
ripple-more n m first second carry bits over i bit next g fs ss c lf ls kb kn says r = record {
  bits = all-push m bits bit (all-wider n m g bits r.bits) kb;
  count = length_push bits bit ∙ ap (λ z. z + 1) r.count;
  over = kn;
  value = λ v e.
      let X = literal (settle_gates n v) (get_or first i 0) in
      let Y = literal (settle_gates n v) (get_or second i 0) in
      let C = literal (settle_gates n v) over in
      let s = one_if_true (differ (differ X Y) C) in
      let d = one_if_true (majority X Y C) in
      let W = word (settle_gates n v) bits in
      let A = word (settle_gates n v) (take i first) in
      let B = word (settle_gates n v) (take i second) in
      let k = one_if_true (literal (settle_gates n v) carry) in
      let both = says (λ u. literal (settle_gates n u) (get_or first i 0)) (λ u. literal (settle_gates n u) (get_or second i 0)) (λ u. literal (settle_gates n u) over) (means-itself n (get_or first i 0) (all-at n first i fs lf))
      (means-itself n (get_or second i 0) (all-at n second i ss ls)) (means-itself n over r.over) in
      let left : word (settle_gates m v) (bits ++ bit ∷ []) ≡ W + 2 ^ i * s =
      word-append (settle_gates m v) bits bit ∙ ap (λ z. z + 2 ^ length bits * one_if_true (literal (settle_gates m v) bit)) (grown-word n m g v bits r.bits)
      ∙ ap (λ z. W + 2 ^ z * one_if_true (literal (settle_gates m v) bit)) r.count ∙ ap (λ z. W + 2 ^ i * one_if_true z) (both.0.value v e) in
      let out : one_if_true (literal (settle_gates m v) next) ≡ d = ap one_if_true (both.1.value v e) in
      let double : 2 ^ (i + 1) ≡ 2 * 2 ^ i = double-power i in
      let step = ripple-step W (one_if_true C) A B k (2 ^ i) s d (one_if_true X) (one_if_true Y) (r.value v e) (full-sum X Y C) in
      let carries : one_if_true (literal (settle_gates m v) carry) ≡ k = ap one_if_true (grown-literal n m g v carry c) in
      ap (λ z. z + 2 ^ (i + 1) * one_if_true (literal (settle_gates m v) next)) left ∙ ap (λ z. W + 2 ^ i * s + 2 ^ (i + 1) * z) out ∙ ap (λ z. W + 2 ^ i * s + z * d) double ∙ step
      ∙ sym (ap (λ z. z + word (settle_gates m v) (take (i + 1) second) + one_if_true (literal (settle_gates m v) carry)) (word-more n m g v first i fs lf)
      ∙ ap (λ z. A + 2 ^ i * one_if_true X + z + one_if_true (literal (settle_gates m v) carry)) (word-more n m g v second i ss ls) ∙ ap (λ z. A + 2 ^ i * one_if_true X + (B + 2 ^ i * one_if_true Y) + z) carries);
}
  where
    double-power : (i : ℕ) → 2 ^ (i + 1) ≡ 2 * 2 ^ i
    double-power i = let more : i + 1 ≡ suc i = omega arith in ap (λ z. 2 ^ z) more ∙ omega arith

-- after all places, from no carry: the sum modulo two to the width
pub sum-is : (n : Net) (first second : List ℕ) (made : List ℕ) (out : ℕ) → 0 < n.start → length second ≡ length first → IsRipple n first second 0 made out (length first) → (v : ℕ → Bool) → v 0 ≡ false
    → word (settle_gates n v) made ≡ (word (settle_gates n v) first + word (settle_gates n v) second) % 2 ^ length first
sum-is n first second made out front same r v e =
    let u = settle_gates n v in
    let zero-literal : one_if_true (literal u 0) ≡ 0 = ap one_if_true (no-variable n.start n.gates v front e) in
    let a = ap (word u) (take_all (length first) first (omega arith)) in
    let b = ap (word u) (take_all (length first) second (omega (arith, same))) in
    let value = r.value v e in
    let small = word-small u made in
    sum-word (word u made) (one_if_true (literal u out)) (word u first) (word u second) (length first) (subst (λ z. word u made < 2 ^ z) r.count small) (omega (arith, value, zero-literal, a, b))
