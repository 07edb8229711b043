-- Families of items and of expressions, by number.
use Rattle.std.specs.Prelude.{ℕ, zero, suc, Bool, List, [], ◌∷◌, ◌++◌, ◌||◌}
use Rattle.vl_tree.specs.declared.tree.Op.TheVariants.{Or}
use Rattle.vl_tree.specs.Values.{Name, Expr, Exprs, number, two, no_parts, parts, Item, wire, assign}

-- the number k in w bits
abbrev pub in_bits : ℕ → ℕ → Expr
in_bits w k = number (record { width = w; value = k })

-- a wire and what it is assigned; h is the number of its most significant bit
abbrev pub defined : ℕ → Name → Expr → List Item
defined h n e = wire h n ∷ assign n e ∷ []

-- the items of 0, of 1 and so on, below n
abbrev pub for_each : ℕ → (ℕ → List Item) → List Item
for_each zero f = []
for_each (suc n) f = for_each n f ++ f n

-- whether a number up to n has it
abbrev pub any_upto : ℕ → (ℕ → Bool) → Bool
any_upto zero f = f zero
any_upto (suc n) f = any_upto n f || f (suc n)

-- the expressions of 0 up to n, joined by OR
abbrev pub or_upto : ℕ → (ℕ → Expr) → Expr
or_upto zero f = f zero
or_upto (suc n) f = two Or (or_upto n f) (f (suc n))

-- the expressions of n down to 0, as the parts of a concatenation
abbrev pub row_parts : (ℕ → Expr) → ℕ → Exprs
row_parts f zero = parts (f zero) no_parts
row_parts f (suc k) = parts (f (suc k)) (row_parts f k)
