-- Rows of labels: the bits of a number, from bit 0 up.
use Rattle.std.specs.Prelude.{ℕ, zero, suc, ◌+◌, ◌-◌, nat_le, false, List, [], ◌∷◌, ◌++◌, map, length, get_or, Option, Some, None, if◌then◌else◌}
use Rattle.std.specs.Int.{bit_at}
use Rattle.vl_tree.specs.Values.{Name, Expr, Exprs, net, number, bit, part, word, not, two, choose, cat, no_parts, parts}
use Rattle.vl_tree.specs.declared.tree.Op.{Op}
use Rattle.vl_tree.specs.declared.tree.Op.TheVariants.{And, Or, Xor}
use Rattle.vl_model.specs.Meaning.{op_width}
use Rattle.vl_run.specs.Step.{combined}
use Rattle.vl_run.specs.Emit.{mask_of}
use Rattle.vl_rules.specs.declared.names.Names.{Names}
use Rattle.vl_rules.specs.declared.scope.Entry.{Entry}
use Rattle.vl_rules.specs.Names.{found}
use Rattle.label_model.specs.Labels.{Domains, either, Label, known, from, sources, known_as, join, not_label, and_label, or_label, xor_label, choice_label, all_sources, number_of}
use Rattle.label_model.specs.Phase.{write_label}
use Rattle.label_audit.specs.declared.bit.Bit.{Bit}
use Rattle.label_audit.specs.Bits.{label_in}

-- the row that bits of the code stand for
abbrev pub row_in : List Bit → List Label
row_in xs = map label_in xs

-- bit i, which is known to be 0 behind the last
abbrev pub bit_in : List Label → ℕ → Label
bit_in xs i = get_or xs i (known false)

-- labels 0 to n-1
abbrev pub first_bits : (ℕ → Label) → ℕ → List Label
first_bits f zero = []
first_bits f (suc n) = first_bits f n ++ f n ∷ []

-- the domains that the bits may depend on
abbrev pub row_sources : List Label → Domains
row_sources xs = all_sources (bit_in xs) (length xs)

-- the number, where at most 64 bits are all known
abbrev pub row_number : List Label → Option ℕ
row_number xs = if nat_le (length xs) 64 then number_of (bit_in xs) (length xs) else None

-- the first bits of a constant
abbrev pub constant_row : ℕ → ℕ → List Label
constant_row x count = first_bits (λ i. known_as (bit_at x i)) count

-- bits from low on
abbrev pub part_row : List Label → ℕ → ℕ → List Label
part_row xs low count = first_bits (λ i. bit_in xs (low + i)) count

-- the bits from high down to low
unfoldable pub cut_row : List Label → ℕ → ℕ → List Label
cut_row xs high low = part_row xs low (high - low + 1)

-- the complement, bit by bit
abbrev pub not_row : List Label → List Label
not_row xs = first_bits (λ i. not_label (bit_in xs i)) (length xs)

-- an operator on one bit
abbrev pub bitwise_label : Op → Label → Label → Label
bitwise_label And x y = and_label x y
bitwise_label Or x y = or_label x y
bitwise_label op x y = xor_label x y

-- an operator bit by bit
abbrev pub bitwise_row : Op → List Label → List Label → List Label
bitwise_row op xs ys = first_bits (λ i. bitwise_label op (bit_in xs i) (bit_in ys i)) (length xs)

-- a result of so many bits, of operands of width w: known where both are, and else from their domains
abbrev pub result_bits : Op → ℕ → Domains → ℕ → Option ℕ → Option ℕ → List Label
result_bits op w S count (Some m) (Some n) = constant_row (combined op (mask_of w) m n) count
result_bits op w S count m n = first_bits (λ i. from S) count

-- an operator on numbers, of so many bits
abbrev pub result_row : Op → List Label → List Label → ℕ → List Label
result_row op xs ys count =
    result_bits op (length xs) (either (row_sources xs) (row_sources ys)) count (row_number xs) (row_number ys)

-- an operator between two operands of one width
abbrev pub operator_row : Op → List Label → List Label → List Label
operator_row And xs ys = bitwise_row And xs ys
operator_row Or xs ys = bitwise_row Or xs ys
operator_row Xor xs ys = bitwise_row Xor xs ys
operator_row op xs ys = result_row op xs ys (op_width op (length xs))

-- the first operand where the test is 1, and else the second
abbrev pub choice_row : Label → List Label → List Label → List Label
choice_row c xs ys = first_bits (λ i. choice_label c (bit_in xs i) (bit_in ys i)) (length xs)

-- the bits of a word of a memory that is read at the index
abbrev pub word_row : List Label → List Label → List Label
word_row xs index = first_bits (λ i. from (either (sources (bit_in xs i)) (row_sources index))) (length xs)

-- the bits of a memory after a store
abbrev pub store_row : Label → List Label → List Label → List Label → List Label
store_row enable index value xs = first_bits
    (λ i. write_label enable (bit_in xs i) (from (either (row_sources index) (sources (bit_in value i))))) (length xs)

-- the labels above both, bit by bit
abbrev pub joined_row : List Label → List Label → List Label
joined_row xs ys = first_bits (λ i. join (bit_in xs i) (bit_in ys i)) (length xs)

-- ---- expressions

-- the row of an expression's bits, from those of nets and memories by name, and of a concatenation's parts in a row
abbrev mutual
  pub row_of : (Name → List Label) → Expr → List Label
  row_of v (net n) = v n
  row_of v (number k) = constant_row k.value k.width
  row_of v (bit n i) = part_row (v n) i 1
  row_of v (part n h l) = cut_row (v n) h l
  row_of v (word n e) = word_row (v n) (row_of v e)
  row_of v (not e) = not_row (row_of v e)
  row_of v (two op a b) = operator_row op (row_of v a) (row_of v b)
  row_of v (choose c a b) = choice_row (bit_in (row_of v c) 0) (row_of v a) (row_of v b)
  row_of v (cat es) = rows_of v es

  pub rows_of : (Name → List Label) → Exprs → List Label
  rows_of v no_parts = []
  rows_of v (parts e es) = rows_of v es ++ row_of v e

-- items 0 to n-1
abbrev pub firsts : {A : Type 0} → (ℕ → A) → ℕ → List A
firsts f zero = []
firsts f (suc n) = firsts f n ++ f n ∷ []

-- the labels above both, row by row
abbrev pub joined_rows : List (List Label) → List (List Label) → List (List Label)
joined_rows xs ys = firsts (λ i. joined_row (get_or xs i []) (get_or ys i [])) (length xs)

-- the bits of what an entry declares
abbrev pub entry_bits : Option Entry → ℕ
entry_bits None = 0
entry_bits (Some e) = e.high + 1

-- the bits of the net or the memory's word that a table has under the name
abbrev pub bits_in : Names Entry → Name → ℕ
bits_in t n = entry_bits (found t n)

-- the row of the line that declares the name
abbrev pub rows_by : (Name → ℕ) → List (List Label) → Name → List Label
rows_by s rows n = get_or rows (s n) []
