-- A list in a memory, as generated items: the words stand from the read pointer on, modulo the number of words.
use Rattle.std.specs.Prelude.{◌≡◌, ℕ, suc, ◌+◌, ◌-◌, ◌<◌, ◌%◌, ◌^◌, Bool, true, false, List, [], ◌∷◌, ◌++◌, length}
use Rattle.vl_tree.specs.declared.tree.Op.TheVariants.{Add, Sub, Equal}
use Rattle.vl_tree.specs.Values.{Name, Expr, net, word, two, choose, Item, reg, mem, clocked, store}
use Rattle.vl_model.specs.Meaning.{Values}
use Rattle.gen_kit.specs.Families.{in_bits, defined}

-- the names of the memory, of its registers and nets, and of the nets that push a word and pop one
pub record FifoNames : Type 0 where
  pub memory : Name
  pub read : Name
  pub write : Name
  pub count : Name
  pub front : Name
  pub empty : Name
  pub push : Name
  pub word : Name
  pub pop : Name

-- a net of h + 1 bits plus 1
abbrev pub one_more : ℕ → Name → Expr
one_more h n = two Add (net n) (in_bits (h + 1) 1)

-- a net of h + 1 bits minus 1
abbrev pub one_less : ℕ → Name → Expr
one_less h n = two Sub (net n) (in_bits (h + 1) 1)

-- a register of h + 1 bits that begins at 0
abbrev pub clocked_from_zero : ℕ → Name → Expr → Item
clocked_from_zero h n e = clocked n (record { width = h + 1; value = 0 }) e

-- a register of h + 1 bits that a net of one bit moves on by one
abbrev pub steps_by : ℕ → Name → Name → Item
steps_by h n by = clocked_from_zero h n (choose (net by) (one_more h n) (net n))

-- the length after a push, a pop, both or neither
abbrev pub next_count : FifoNames → ℕ → Expr
next_count n lh = choose (net n.push) (choose (net n.pop) (net n.count) (one_more lh n.count))
    (choose (net n.pop) (one_less lh n.count) (net n.count))

-- The items, where bh, lh and wh are the highs of the pointers, of the length and of the words. There are two to bh + 1
-- words. First what is declared
abbrev pub fifo_heads : FifoNames → ℕ → ℕ → ℕ → List Item
fifo_heads n bh lh wh =
    mem wh n.memory (2 ^ (bh + 1) - 1) ∷ reg bh n.read ∷ reg bh n.write ∷ reg lh n.count ∷ []

-- then the front, and whether there is none
abbrev pub fifo_nets : FifoNames → ℕ → ℕ → List Item
fifo_nets n lh wh = defined wh n.front (word n.memory (net n.read))
    ++ defined 0 n.empty (two Equal (net n.count) (in_bits (lh + 1) 0))

-- then what an edge does
abbrev pub fifo_moves : FifoNames → ℕ → ℕ → List Item
fifo_moves n bh lh =
    steps_by bh n.read n.pop ∷ steps_by bh n.write n.push ∷ clocked_from_zero lh n.count (next_count n lh)
    ∷ store (net n.push) n.memory (net n.write) (net n.word)
    ∷ []

-- all of them
abbrev pub fifo_items : FifoNames → ℕ → ℕ → ℕ → List Item
fifo_items n bh lh wh = fifo_heads n bh lh wh ++ (fifo_nets n lh wh ++ fifo_moves n bh lh)

-- the words from place r on, modulo the number of words, are the list
abbrev pub WordsAre : (ℕ → ℕ) → ℕ → ℕ → List ℕ → Type 0
WordsAre words m r [] = Unit {0}
WordsAre words m r (x ∷ xs) = (words (r % m) ≡ x) × WordsAre words m (suc r) xs

-- after r pops the memory and its registers hold the list
pub record Stands (n : FifoNames) (bh : ℕ) (v : Values) (r : ℕ) (q : List ℕ) : Type 0 where
  pub read : v.net n.read ≡ r % 2 ^ (bh + 1)
  pub write : v.net n.write ≡ (r + length q) % 2 ^ (bh + 1)
  pub count : v.net n.count ≡ length q
  pub words : WordsAre (v.word n.memory) (2 ^ (bh + 1)) r q

-- the memory and its registers hold the list
abbrev pub IsList : FifoNames → ℕ → Values → List ℕ → Type 0
IsList n bh v q = (r : ℕ) × Stands n bh v r q

-- what a pop leaves
abbrev pub popped : Bool → List ℕ → List ℕ
popped false q = q
popped true [] = []
popped true (x ∷ q) = q

-- what a push adds
abbrev pub pushed : Bool → ℕ → List ℕ → List ℕ
pushed false x q = q
pushed true x q = q ++ x ∷ []

-- at one edge a pop takes the front, and a push adds at the end
abbrev pub next_list : Bool → Bool → ℕ → List ℕ → List ℕ
next_list push pop x q = pushed push x (popped pop q)

-- a push only where there is room, and a pop only where there is something
abbrev pub MayMove : Bool → Bool → ℕ → List ℕ → Type 0
MayMove push pop depth q = (push ≡ true → length q < depth) × (pop ≡ true → 0 < length q)
