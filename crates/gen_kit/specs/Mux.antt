-- One word out of many, and a table by the bits of a number.
use Rattle.std.specs.Prelude.{ℕ, zero, suc, ◌+◌, ◌*◌, ◌==◌, Bool, false, Option, Some, None, if◌then◌else◌}
use Rattle.vl_tree.specs.Values.{Name, Expr, net, number, bit, part, word, not, two, choose, cat}
use Rattle.gen_kit.specs.Families.{in_bits}

-- word k where its bit is 1, and else 0
abbrev pub gated_words : ℕ → (ℕ → Expr) → (ℕ → Expr) → ℕ → Expr
gated_words width b f k = choose (b k) (f k) (in_bits width 0)

-- one of two expressions by a bit of a net
abbrev pub branch : Name → ℕ → Expr → Expr → Expr
branch n i a b = choose (bit n i) a b

-- the number of a constant
abbrev pub constant_of : Expr → Option ℕ
constant_of (net n) = None
constant_of (number k) = Some k.value
constant_of (bit n i) = None
constant_of (part n h l) = None
constant_of (word n e) = None
constant_of (not e) = None
constant_of (two op a b) = None
constant_of (choose c a b) = None
constant_of (cat es) = None

-- whether there are two numbers, and they are equal
abbrev pub are_same : Option ℕ → Option ℕ → Bool
are_same None y = false
are_same (Some x) None = false
are_same (Some x) (Some y) = x == y

-- one constant in place of a choice between two equal ones
abbrev pub merged : Name → ℕ → Expr → Expr → Expr
merged n i a b = if are_same (constant_of a) (constant_of b) then b else branch n i a b

-- what f gives for the net's k bits from bit i on, as constants under choices
abbrev pub table : Name → ℕ → (ℕ → ℕ) → ℕ → ℕ → Expr
table n width f i zero = in_bits width (f 0)
table n width f i (suc k) = merged n i (table n width (λ x. f (2 * x + 1)) (i + 1) k)
    (table n width (λ x. f (2 * x)) (i + 1) k)
