-- Labels of bits: what a bit is known to be, or the domains whose inputs it may depend on. And the labels of an
-- expression's bits.
use Rattle.std.specs.Prelude.{◌≡◌, ℕ, zero, suc, ◌+◌, ◌-◌, ◌*◌, ◌^◌, ◌==◌, nat_lt, Bool, true, false, ◌||◌, Option, Some, None, if◌then◌else◌}
use Rattle.std.specs.Int.{bit_at}
use Rattle.vl_tree.specs.declared.tree.Op.{Op}
use Rattle.vl_tree.specs.declared.tree.Op.TheVariants.{And, Or, Xor}
use Rattle.vl_tree.specs.Values.{Name, Expr, Exprs, net, number, bit, part, word, not, two, choose, cat, no_parts, parts}
use Rattle.vl_model.specs.Meaning.{Widths, width_of, widths_of, op_value, one_if}

-- ---- domains

-- a set of domains, by their numbers
abbrev pub Domains : Type 0
Domains = ℕ → Bool

-- no domain
abbrev pub none : Domains
none e = false

-- domain d alone
abbrev pub only : ℕ → Domains
only d e = e == d

-- the domains of both sets
abbrev pub either : Domains → Domains → Domains
either S T e = S e || T e

-- no domain of the set is other than d
abbrev pub IsWithin : Domains → ℕ → Type 0
IsWithin S d = (e : ℕ) → S e ≡ true → e ≡ d

-- ---- labels

-- the bit is known, or it depends on the inputs of these domains alone
pub data Label : Type 0 where
  known : Bool → Label
  from : Domains → Label

-- the domains that the bit may depend on
abbrev pub sources : Label → Domains
sources (known b) = none
sources (from S) = S

-- the label of a bit that is x, 0 or 1
abbrev pub known_as : ℕ → Label
known_as zero = known false
known_as (suc x) = known true

-- the second label holds of each bit of which the first holds
abbrev pub IsBelow : Label → Label → Type 0
IsBelow (known a) (known b) = a ≡ b
IsBelow (known a) (from T) = Unit {0}
IsBelow (from S) (known b) = ⊥
IsBelow (from S) (from T) = (e : ℕ) → S e ≡ true → T e ≡ true

-- a bit that may depend on both
abbrev pub mixed : Label → Label → Label
mixed x y = from (either (sources x) (sources y))

-- the least label that is above both
abbrev pub join : Label → Label → Label
join (known true) (known true) = known true
join (known false) (known false) = known false
join x y = mixed x y

-- ---- the operators on a bit

-- the other value where it is known
abbrev pub not_label : Label → Label
not_label (known true) = known false
not_label (known false) = known true
not_label (from S) = from S

-- 0 where one is known to be 0
abbrev pub and_label : Label → Label → Label
and_label (known false) y = known false
and_label x (known false) = known false
and_label (known true) (known true) = known true
and_label x y = mixed x y

-- 1 where one is known to be 1
abbrev pub or_label : Label → Label → Label
or_label (known true) y = known true
or_label x (known true) = known true
or_label (known false) (known false) = known false
or_label x y = mixed x y

-- known where both are
abbrev pub xor_label : Label → Label → Label
xor_label (known false) (known false) = known false
xor_label (known false) (known true) = known true
xor_label (known true) (known false) = known true
xor_label (known true) (known true) = known false
xor_label x y = mixed x y

-- the label of the chosen bit where the test is known
abbrev pub choice_label : Label → Label → Label → Label
choice_label (known true) x y = x
choice_label (known false) x y = y
choice_label (from S) x y = from (either S (either (sources x) (sources y)))

-- ---- the operators on all bits of two numbers

-- the domains that bits 0 to w-1 may depend on
abbrev pub all_sources : (ℕ → Label) → ℕ → Domains
all_sources x zero = none
all_sources x (suc w) = either (all_sources x w) (sources (x w))

-- the number of w known bits, with bit w before them where it is known
abbrev pub with_bit : ℕ → Label → Option ℕ → Option ℕ
with_bit w (known b) (Some n) = Some (one_if b * 2 ^ w + n)
with_bit w x n = None

-- the number whose bits 0 to w-1 are known, where all are
abbrev pub number_of : (ℕ → Label) → ℕ → Option ℕ
number_of x zero = Some 0
number_of x (suc w) = with_bit w (x w) (number_of x w)

-- bit i of the result where both numbers are known, and else their domains
abbrev pub result_label : Op → ℕ → Domains → ℕ → Option ℕ → Option ℕ → Label
result_label op w S i (Some m) (Some n) = known_as (bit_at (op_value op w m n) i)
result_label op w S i m n = from S

-- bit i of an operator between two numbers of width w
abbrev pub op_label : Op → ℕ → (ℕ → Label) → (ℕ → Label) → ℕ → Label
op_label And w x y i = and_label (x i) (y i)
op_label Or w x y i = or_label (x i) (y i)
op_label Xor w x y i = xor_label (x i) (y i)
op_label op w x y i =
    result_label op w (either (all_sources x w) (all_sources y w)) i (number_of x w) (number_of y w)

-- ---- expressions

-- the labels of the bits of one module's nets, and of its memories: that of a bit in all words
pub record Labels : Type 0 where
  pub net : Name → ℕ → Label
  pub word : Name → ℕ → Label

-- bit i of an expression, and of a concatenation's parts in a row
abbrev mutual
  pub label_of : Widths → Labels → Expr → ℕ → Label
  label_of w l (net n) i = l.net n i
  label_of w l (number k) i = known_as (bit_at k.value i)
  label_of w l (bit n j) i = l.net n j
  label_of w l (part n h j) i = l.net n (j + i)
  label_of w l (word n e) i = from (either (sources (l.word n i)) (all_sources (label_of w l e) (width_of w e)))
  label_of w l (not e) i = not_label (label_of w l e i)
  label_of w l (two op a b) i = op_label op (width_of w a) (label_of w l a) (label_of w l b) i
  label_of w l (choose c a b) i = choice_label (label_of w l c 0) (label_of w l a i) (label_of w l b i)
  label_of w l (cat es) i = labels_of w l es i

  pub labels_of : Widths → Labels → Exprs → ℕ → Label
  labels_of w l no_parts i = known false
  labels_of w l (parts e es) i =
      if nat_lt i (widths_of w es) then labels_of w l es i else label_of w l e (i - widths_of w es)
