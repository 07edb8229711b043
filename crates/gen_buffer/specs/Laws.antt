-- What the laws say.
use Rattle.std.specs.Prelude.{◌≡◌, ℕ, ◌+◌, ◌<◌, ◌≤◌, ◌^◌, Bool, List, [], length}
use Rattle.vl_model.specs.Meaning.{Values, one_if}
use Rattle.vl_model.specs.Parts.{AllReset, Keeps}
use Rattle.gen_buffer.specs.Fifo.{FifoNames, fifo_items, IsList, next_list, MayMove}

-- An edge keeps the list in a memory, in every leaf that has the items
abbrev pub ListKept : Type 0
ListKept = (n : FifoNames) (bh lh wh depth : ℕ) → depth ≤ 2 ^ (bh + 1) → depth < 2 ^ (lh + 1)
    → Keeps (fifo_items n bh lh wh) (λ w v u. (push pop : Bool) (q : List ℕ) → v.net n.push ≡ one_if push
    → v.net n.pop ≡ one_if pop → length q ≤ depth → MayMove push pop depth q → IsList n bh v q
    → IsList n bh u (next_list push pop (v.net n.word) q))

-- The list is empty at reset, whatever the memory holds
abbrev pub ListStarts : Type 0
ListStarts = (n : FifoNames) (bh lh wh : ℕ) (v : Values) → AllReset v (fifo_items n bh lh wh) → IsList n bh v []
