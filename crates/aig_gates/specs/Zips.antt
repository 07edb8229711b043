-- Words of literals, from bit 0 up: what is made of two of them, place by place.
use Rattle.std.specs.Prelude.{◌≡◌, ℕ, ◌+◌, ◌*◌, ◌<◌, Bool, false, ◌&&◌, ◌||◌, List, [], ◌∷◌, length, take, nat_lt, bit_and, bit_or, bit_xor, if◌then◌else◌}
use Rattle.std.specs.List.{AllByRecursion}
use Rattle.aig_model.specs.Form.{literal, one_if_true, word}
use Rattle.aig_model.specs.Netlist.{Net, Grows, IsOf, AreOf, settle_gates, differ}
use Rattle.aig_gates.specs.declared.words.Way.{Way}
use Rattle.aig_gates.specs.declared.words.Way.TheVariants.{And, Or, Xor, Choose}

-- the literals are of variables below k
abbrev pub AreBelow : ℕ → List ℕ → Type 0
AreBelow k xs = AllByRecursion (λ x. x < 2 * k) xs

-- the literal of a test is of the net
abbrev pub IsWayOf : Net → Way → Type 0
IsWayOf n And = Unit {0}
IsWayOf n Or = Unit {0}
IsWayOf n Xor = Unit {0}
IsWayOf n (Choose test) = IsOf n test

-- what is made of two bits
abbrev pub paired : Way → (ℕ → Bool) → Bool → Bool → Bool
paired And v a b = a && b
paired Or v a b = a || b
paired Xor v a b = differ a b
paired (Choose test) v a b = if literal v test then a else b

-- what is made of two numbers
abbrev pub combined : Way → (ℕ → Bool) → ℕ → ℕ → ℕ
combined And v x y = bit_and x y
combined Or v x y = bit_or x y
combined Xor v x y = bit_xor x y
combined (Choose test) v x y = if literal v test then x else y

-- the number whose bits are made of those of both words, as far as both go
abbrev pub zipped : (Bool → Bool → Bool) → (ℕ → Bool) → List ℕ → List ℕ → ℕ
zipped op v [] ys = 0
zipped op v (x ∷ xs) [] = 0
zipped op v (x ∷ xs) (y ∷ ys) = one_if_true (op (literal v x) (literal v y)) + 2 * zipped op v xs ys

-- the bits so far are those of the first i places
pub record IsZipped (old new : Net) (way : Way) (first second made : List ℕ) (i : ℕ) : Type 0 where
  pub grows : Grows old new
  pub known : AreOf new made
  pub count : length made ≡ i
  pub value : (v : ℕ → Bool) → v 0 ≡ false → word (settle_gates new v) made
      ≡ zipped (paired way (settle_gates old v)) (settle_gates old v) (take i first) (take i second)

-- the literal says whether the first number is less, by the first i places
pub record IsLess (old new : Net) (first second : List ℕ) (x i : ℕ) : Type 0 where
  pub grows : Grows old new
  pub known : IsOf new x
  pub value : (v : ℕ → Bool) → v 0 ≡ false → literal (settle_gates new v) x
      ≡ nat_lt (word (settle_gates old v) (take i first)) (word (settle_gates old v) (take i second))
