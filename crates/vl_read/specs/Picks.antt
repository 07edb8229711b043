-- What the parts of an expression that stand behind its first part are.
use Rattle.std.specs.Prelude.{ℕ, List, codes}
use Rattle.vl_tree.specs.Read.{read}
use Rattle.vl_tree.specs.Values.{Expr, not as complement}
use Rattle.vl_tree.specs.Reading as reading
use Rattle.vl_tree.specs.Reading.{whole, at_bit, at_part, at_word, with, which, Reader, one, both, made, either, deeper, until, phrase, closed, opened, is_mark, is_plain_token, the_name, picked_of, numbers_at, pick_at, rest_at, group_at, cat_at}
use Rattle.vl_read.specs.declared.expr.Pick.{Pick}
use Rattle.vl_read.specs.declared.expr.Pick.TheVariants.{Whole, Bit, Part, Word}
use Rattle.vl_read.specs.declared.expr.Rest.{Rest}
use Rattle.vl_read.specs.declared.expr.Rest.TheVariants.{With, Which}

-- what the code found behind a name: nothing, a bit, the bits between two numbers, or the index of a word
abbrev pub pick_of : Pick → reading.Pick
pick_of Whole = whole
pick_of (Bit i) = at_bit i
pick_of (Part h l) = at_part h l
pick_of (Word e) = at_word (read e)

-- what the code found behind a first operand: an operator and its second operand, or both branches of a choice
abbrev pub rest_of : Rest → reading.Rest
rest_of (With op b) = with op (read b)
rest_of (Which b c) = which (read b) (read c)

-- ---- parts of the readers of an expression

-- a name with what stands behind it
abbrev pub named_at : ℕ → Reader Expr → Reader Expr
named_at d below = made (λ x. picked_of x.0 x.1) (both (one the_name) (λ n. pick_at d below))

-- the index of a memory's word, and its closing bracket
abbrev pub word_at : Reader Expr → Reader reading.Pick
word_at below = made at_word (closed below (codes "]"))

-- what stands behind an opening bracket: the numbers of bits, or the index of a memory's word
abbrev pub index_at : ℕ → Reader Expr → Reader reading.Pick
index_at d below = either is_plain_token numbers_at (deeper d (word_at below))

-- a group or a concatenation, where there is a level left for its parts
abbrev pub deep_at : ℕ → Reader Expr → Reader Expr
deep_at d below = deeper d (either (is_mark (codes "(")) (group_at below) (cat_at below))

-- what stands between round brackets
abbrev pub inside_at : Reader Expr → Reader Expr
inside_at below = either (is_mark (codes "~")) (made complement (opened (codes "~") below))
    (made (λ x. reading.rest_of x.0 x.1) (both below (λ a. rest_at below)))

-- a part of a concatenation, with the comma before it
abbrev pub part_at : Reader Expr → Reader Expr
part_at below = opened (codes ",") below

-- the parts of a concatenation behind the first one, and the brace that closes them
abbrev pub parts_at : Reader Expr → Reader (List Expr × Unit {0})
parts_at below = until (is_mark (codes ",")) (part_at below) (phrase (codes "}"))
