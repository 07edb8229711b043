-- Gates as they are built: what a longer list keeps, what a literal means, words of literals as numbers.
use Rattle.std.specs.Prelude.{◌≡◌, ℕ, ◌+◌, ◌*◌, ◌<◌, ◌^◌, Bool, false, ◌&&◌, ◌||◌, List, ◌++◌, length}
use Rattle.std.specs.List.{AllByRecursion}
use Rattle.aig_model.specs.declared.form.Gate.{Gate}
use Rattle.aig_model.specs.Form.{AreOrdered, flipped, literal, with_gates, word}

-- gates in order, of which the first is variable start
pub record Net : Type 0 where
  pub start : ℕ
  pub gates : List Gate

-- variables begin at 1, literals fit, and gates read what stands before them
pub record IsReady (n : Net) : Type 0 where
  pub front : 0 < n.start
  pub low : n.start < 2 ^ 61
  pub ordered : AreOrdered n.start n.gates

-- the new gates are the old ones and more behind them
pub record Grows (old new : Net) : Type 0 where
  pub start : new.start ≡ old.start
  pub more : List Gate
  pub appended : new.gates ≡ old.gates ++ more

-- the literal is of a constant, an input, a latch or one of the gates
abbrev pub IsOf : Net → ℕ → Type 0
IsOf n x = x < 2 * (n.start + length n.gates)

-- and so is each of these
abbrev pub AreOf : Net → List ℕ → Type 0
AreOf n xs = AllByRecursion (IsOf n) xs

-- the values of all variables, from those of inputs and latches
abbrev pub settle_gates : Net → (ℕ → Bool) → ℕ → Bool
settle_gates n v = with_gates v n.start n.gates

-- the literal is f of the values of inputs and latches
pub record Means (n : Net) (x : ℕ) (f : (ℕ → Bool) → Bool) : Type 0 where
  pub known : IsOf n x
  pub value : (v : ℕ → Bool) → v 0 ≡ false → literal (settle_gates n v) x ≡ f v

-- and so is the number of these literals
pub record MeansWord (n : Net) (xs : List ℕ) (f : (ℕ → Bool) → ℕ) : Type 0 where
  pub known : AreOf n xs
  pub value : (v : ℕ → Bool) → v 0 ≡ false → word (settle_gates n v) xs ≡ f v

-- exclusive or
abbrev pub differ : Bool → Bool → Bool
differ a b = flipped a b

-- the carry out of a place
abbrev pub majority : Bool → Bool → Bool → Bool
majority a b c = (a && b) || (differ a b && c)
