-- A buffer: the names that it makes, its items, and what they are.
use Rattle.std.specs.Prelude.{◌≡◌, ℕ, ◌-◌, ◌≤◌, Bool, true, false, List, [], ◌∷◌, length}
use Rattle.vl_tree.specs.Values.{Name, Item}
use Rattle.vl_model.specs.Meaning.{Values, one_if}
use Rattle.vl_model.specs.Parts.{AllReset, Gives, Keeps}
use Rattle.gen_kit.specs.OwnNames.{own_name_of}
use Rattle.gen_buffer.specs.declared.BufferSpec.{BufferSpec}
use Rattle.gen_buffer.specs.declared.BufferNets.{BufferNets}
use Rattle.gen_buffer.specs.Fifo.{FifoNames, fifo_items, IsList, next_list, MayMove}
use Rattle.gen_buffer.specs.Sizes.{index_high, count_high}

-- the names of the buffer's items
abbrev pub fifo_names : BufferSpec → FifoNames
fifo_names s = record {
  memory = own_name_of s.tag (0 ∷ []);
  read = own_name_of s.tag (1 ∷ []);
  write = own_name_of s.tag (2 ∷ []);
  count = own_name_of s.tag (3 ∷ []);
  front = own_name_of s.tag (4 ∷ []);
  empty = own_name_of s.tag (5 ∷ []);
  push = s.push;
  word = s.word;
  pop = s.pop;
}

-- the nets that it shows itself by
abbrev pub nets_of : BufferSpec → BufferNets
nets_of s = record {
  front = own_name_of s.tag (4 ∷ []);
  empty = own_name_of s.tag (5 ∷ []);
  length = own_name_of s.tag (3 ∷ []);
}

-- the items of the buffer
abbrev pub buffer_items : BufferSpec → List Item
buffer_items s = fifo_items (fifo_names s) (index_high s.depth) (count_high s.depth) (s.width - 1)

-- the buffer holds the list, which is no longer than the depth
pub record HoldsList (s : BufferSpec) (v : Values) (q : List ℕ) : Type 0 where
  pub list : IsList (fifo_names s) (index_high s.depth) v q
  pub short : length q ≤ s.depth

-- whether there is nothing
abbrev pub is_nothing : List ℕ → Bool
is_nothing [] = true
is_nothing (x ∷ q) = false

-- the front's net shows the front, if there is one
abbrev pub ShowsFront : ℕ → List ℕ → Type 0
ShowsFront front [] = Unit {0}
ShowsFront front (x ∷ q) = front ≡ x

-- the nets show the list
pub record ShowsList (n : BufferNets) (v : Values) (q : List ℕ) : Type 0 where
  pub front : ShowsFront (v.net n.front) q
  pub empty : v.net n.empty ≡ one_if (is_nothing q)
  pub length : v.net n.length ≡ length q

-- Among these items a buffer is a list. It is empty at reset, whatever the memory holds. At an edge a pop takes its
-- front, and a push adds the word at its end, where there is a front and room. Its nets show it
pub record IsBuffer (items : List Item) (s : BufferSpec) (n : BufferNets) : Type 0 where
  pub starts : (v : Values) → AllReset v items → HoldsList s v []
  pub kept : Keeps items (λ w v u. (push pop : Bool) (q : List ℕ) → v.net s.push ≡ one_if push
      → v.net s.pop ≡ one_if pop → MayMove push pop s.depth q → HoldsList s v q
      → HoldsList s u (next_list push pop (v.net s.word) q))
  pub shown : Gives items (λ w v. (q : List ℕ) → HoldsList s v q → ShowsList n v q)
