-- Bits of a number, and the literals that have them.
use Rattle.std.proofs.Common.{◌≡◌, ℕ, zero, suc, ◌+◌, ◌*◌, ◌/◌, ◌%◌, ◌<◌, ◌≤◌, ◌^◌, Bool, true, false, List, [], ◌∷◌, ◌++◌, length, map, get_or, refl, sym, ◌∙◌, ap, subst, arith}
use Rattle.std.specs.Prelude.{not, ◌==◌}
use Rattle.std.specs.Int.{bit_at}
use Rattle.std.proofs.lemmas.Nat.{mod-pow-add}
use Rattle.std.proofs.lemmas.Nat.Bits.{bit_at-lt, bit_at-zero}
use Rattle.std.proofs.lemmas.List.{length_push, map_push}
use Rattle.std.proofs.Math.Nat.{mul_comm}
use Rattle.aig_model.specs.Form.{flipped, literal, one_if_true, word}
use Rattle.aig_model.specs.FormOf.{bits_from, flipped_bits, AreBits}
use Rattle.aig_model.proofs.Netlists.{word-append}
use Rattle.aig_gates.specs.Zips.{AreBelow}
use Rattle.aig_gates.proofs.Zipped.{word-bit, below-push, below-at}

-- the bits but the last, and the last
bits-last : (x k i w : ℕ) (f : ℕ → Bool) (m : ℕ) → AreBits (flipped_bits x k i (suc w)) f m → AreBits (flipped_bits x k i w) f m × (f (m + w) ≡ flipped (bit_at k (i + w) == 1) (bit_at x (i + w) == 1))
bits-last x k i zero f m a =
    let e : m + 0 ≡ m = omega arith in
    let g : i + 0 ≡ i = omega arith in
    (tt, ap f e ∙ a.0 ∙ ap (λ j. flipped (bit_at k j == 1) (bit_at x j == 1)) (sym g))
bits-last x k i (suc w) f m a =
    let r = bits-last x k (i + 1) w f (m + 1) a.1 in
    let e : m + suc w ≡ m + 1 + w = omega arith in
    let g : i + suc w ≡ i + 1 + w = omega arith in
    ((a.0, r.0), ap f e ∙ r.1 ∙ ap (λ j. flipped (bit_at k j == 1) (bit_at x j == 1)) (sym g))

bits-behind : (x k i w : ℕ) → flipped_bits x k i (suc w) ≡ flipped_bits x k i w ++ flipped (bit_at k (i + w) == 1) (bit_at x (i + w) == 1) ∷ []
bits-behind x k i zero = let g : i ≡ i + 0 = omega arith in ap (λ j. flipped (bit_at k j == 1) (bit_at x j == 1) ∷ []) g
bits-behind x k i (suc w) =
    let g : i + 1 + w ≡ i + suc w = omega arith in
    ap (λ bs. flipped (bit_at k i == 1) (bit_at x i == 1) ∷ bs) (bits-behind x k (i + 1) w ∙ ap (λ j. flipped_bits x k (i + 1) w ++ flipped (bit_at k j == 1) (bit_at x j == 1) ∷ []) g)

pub plain-bits : (x i w : ℕ) → flipped_bits x 0 i w ≡ bits_from x i w
plain-bits x i zero = refl
plain-bits x i (suc w) = ap (λ b. flipped (b == 1) (bit_at x i == 1) ∷ flipped_bits x 0 (i + 1) w) (bit_at-zero i) ∙ ap (λ bs. (bit_at x i == 1) ∷ bs) (plain-bits x (i + 1) w)

twice : (a b : Bool) → flipped a (flipped a b) ≡ b
twice true true = refl
twice true false = refl
twice false b = refl

-- a literal with a digit behind its variable
latch-literal : (v : ℕ → Bool) (n b : ℕ) → b < 2 → literal v (2 * n + b) ≡ flipped (b == 1) (v n)
latch-literal v n zero lt =
    let rest : (2 * n + 0) % 2 ≡ 0 = omega arith in
    let half : (2 * n + 0) / 2 ≡ n = omega arith in
    ap (λ r. flipped (r == 1) (v ((2 * n + 0) / 2))) rest ∙ ap v half
latch-literal v n (suc zero) lt =
    let rest : (2 * n + 1) % 2 ≡ 1 = omega arith in
    let half : (2 * n + 1) / 2 ≡ n = omega arith in
    ap (λ r. flipped (r == 1) (v ((2 * n + 1) / 2))) rest ∙ ap (λ j. not (v j)) half
latch-literal v n (suc (suc b)) lt = absurd (omega (arith, lt))

digit-bit : (b : ℕ) → b < 2 → one_if_true (b == 1) ≡ b
digit-bit zero lt = refl
digit-bit (suc zero) lt = refl
digit-bit (suc (suc b)) lt = absurd (omega (arith, lt))

joined : (n i : ℕ) → n % 2 ^ i + 2 ^ i * bit_at n i ≡ n % 2 ^ (i + 1)
joined n i =
    let more : i + 1 ≡ 1 + i = omega arith in
    let split = mod-pow-add n 1 i in
    let c = mul_comm (2 ^ i) (n / 2 ^ i % 2) in
    let turn : (n / 2 ^ i % 2) * 2 ^ i + n % 2 ^ i ≡ n % 2 ^ i + 2 ^ i * (n / 2 ^ i % 2) = omega (arith, c) in
    sym (ap (λ k. n % 2 ^ k) more ∙ split ∙ turn)

-- ---- words of latches

pub record IsLatched (first reset : ℕ) (made : List ℕ) (i : ℕ) : Type 0 where
  pub known : AreBelow (first + i) made
  pub count : length made ≡ i
  pub value : (v : ℕ → Bool) (x : ℕ) → AreBits (flipped_bits x reset 0 i) (λ j. v (first + j)) 0 → word v made ≡ x % 2 ^ i

pub latched-none : (first reset : ℕ) → IsLatched first reset [] 0
latched-none first reset = record { known = tt; count = refl; value = λ v x a. nothing x }
  where
    nothing : (n : ℕ) → 0 ≡ n % 2 ^ 0
    nothing n = omega arith

below-more : (k j : ℕ) (xs : List ℕ) → k ≤ j → AreBelow k xs → AreBelow j xs
below-more k j [] le a = tt
below-more k j (x ∷ xs) le a = (let h = a.0 in omega (arith, h, le), below-more k j xs le a.1)

pub latched-more : (first reset : ℕ) (made : List ℕ) (i x : ℕ) → x ≡ 2 * (first + i) + bit_at reset i → IsLatched first reset made i → IsLatched first reset (made ++ x ∷ []) (i + 1)
latched-more first reset made i x is z = record {
  known = below-push (first + (i + 1)) made x (below-more (first + i) (first + (i + 1)) made (omega arith) z.known) (let b = bit_at-lt reset i in omega (arith, is, b));
  count = length_push made x ∙ ap (λ q. q + 1) z.count;
  value = λ v n a.
      let next : i + 1 ≡ suc i = omega arith in
      let parts = bits-last n reset 0 i (λ j. v (first + j)) 0 (subst (λ k. AreBits (flipped_bits n reset 0 k) (λ j. v (first + j)) 0) next a) in
      let none : 0 + i ≡ i = omega arith in
      let here : v (first + i) ≡ flipped (bit_at reset i == 1) (bit_at n i == 1) = ap (λ j. v (first + j)) (sym none) ∙ parts.1 ∙ ap (λ j. flipped (bit_at reset j == 1) (bit_at n j == 1)) none in
      let lit : literal v x ≡ (bit_at n i == 1) =
      ap (literal v) is ∙ latch-literal v (first + i) (bit_at reset i) (bit_at-lt reset i) ∙ ap (flipped (bit_at reset i == 1)) here ∙ twice (bit_at reset i == 1) (bit_at n i == 1) in
      word-append v made x ∙ ap (λ w. w + 2 ^ length made * one_if_true (literal v x)) (z.value v n parts.0) ∙ ap (λ k. n % 2 ^ i + 2 ^ k * one_if_true (literal v x)) z.count
      ∙ ap (λ b. n % 2 ^ i + 2 ^ i * one_if_true b) lit ∙ ap (λ b. n % 2 ^ i + 2 ^ i * b) (digit-bit (bit_at n i) (bit_at-lt n i)) ∙ joined n i;
}

-- ---- literals that latches take

pub record IsTaken (bits : List ℕ) (reset : ℕ) (made : List ℕ) (i : ℕ) : Type 0 where
  pub known : (k : ℕ) → 0 < k → AreBelow k bits → AreBelow k made
  pub value : (v : ℕ → Bool) → v 0 ≡ false → map (literal v) made ≡ flipped_bits (word v bits) reset 0 i

pub taken-none : (bits : List ℕ) (reset : ℕ) → IsTaken bits reset [] 0
taken-none bits reset = record { known = λ k some a. tt; value = λ v e. refl }

bool-digit : (b : Bool) → (one_if_true b == 1) ≡ b
bool-digit true = refl
bool-digit false = refl

pub taken-more : (bits : List ℕ) (reset : ℕ) (made : List ℕ) (i old x : ℕ) → old ≡ get_or bits i 0 → ((k : ℕ) → old < 2 * k → x < 2 * k) → ((v : ℕ → Bool) → literal v x ≡ flipped (bit_at reset i == 1) (literal v old))
    → IsTaken bits reset made i → IsTaken bits reset (made ++ x ∷ []) (i + 1)
taken-more bits reset made i old x is low says z = record {
  known = λ k some a. below-push k made x (z.known k some a) (low k (subst (λ y. y < 2 * k) (sym is) (below-at k some bits i a)));
  value = λ v e.
      let next : suc i ≡ i + 1 = omega arith in
      let none : 0 + i ≡ i = omega arith in
      let lit : literal v x ≡ flipped (bit_at reset i == 1) (bit_at (word v bits) i == 1) =
      says v ∙ ap (λ y. flipped (bit_at reset i == 1) (literal v y)) is ∙ ap (flipped (bit_at reset i == 1)) (sym (bool-digit (literal v (get_or bits i 0))) ∙ ap (λ b. b == 1) (sym (word-bit v e bits i))) in
      map_push (literal v) made x ∙ ap (λ bs. bs ++ literal v x ∷ []) (z.value v e) ∙ ap (λ b. flipped_bits (word v bits) reset 0 i ++ b ∷ []) lit
      ∙ ap (λ j. flipped_bits (word v bits) reset 0 i ++ flipped (bit_at reset j == 1) (bit_at (word v bits) j == 1) ∷ []) (sym none) ∙ sym (bits-behind (word v bits) reset 0 i)
      ∙ ap (flipped_bits (word v bits) reset 0) next;
}
