-- Another word of a memory, by the number of its instance among the top's and its own among its leaf's.
use Rattle.std.specs.Prelude.{ℕ, zero, suc, ◌+◌, ◌==◌, ◌&&◌, List, [], ◌∷◌, length, if◌then◌else◌, bytes_eq, slice_set, slice_index_or}
use Rattle.vl_tree.specs.declared.tree.TopItem.{TopItem}
use Rattle.vl_tree.specs.declared.tree.TopItem.TheVariants.{Wire, Instance}
use Rattle.vl_tree.specs.Values.{Name, Item, wire, reg, mem, assign, clocked, store, Leaf}
use Rattle.vl_model.specs.Meaning.{Values}
use Rattle.vl_run.specs.State.{Kept, Part}

-- the instances in order, each by the names of its leaf and its own
abbrev pub instances : List TopItem → List (Name × Name)
instances [] = []
instances (Wire h n ∷ is) = instances is
instances (Instance l n joins ∷ is) = (l, n) ∷ instances is

-- a memory: its name, and the numbers of its words' highest bit and of its last word
pub record Memory : Type 0 where
  pub name : Name
  pub high : ℕ
  pub last : ℕ

-- the memories of a leaf in order
abbrev pub memories_of : List Item → List Memory
memories_of [] = []
memories_of (mem h n last ∷ is) = record { name = n; high = h; last = last } ∷ memories_of is
memories_of (wire h n ∷ is) = memories_of is
memories_of (reg h n ∷ is) = memories_of is
memories_of (assign n e ∷ is) = memories_of is
memories_of (clocked n k e ∷ is) = memories_of is
memories_of (store c n i e ∷ is) = memories_of is

-- the values with x at word i of memory n
abbrev pub with_word : Values → Name → ℕ → ℕ → Values
with_word v n i x = record { net = v.net; word = λ m j. if bytes_eq m n && (i == j) then x else v.word m j }

-- the values in each instance, with x at word i of memory n of instance k
abbrev pub with_word_in : (Name → Values) → Name → Name → ℕ → ℕ → Name → Values
with_word_in inside k n i x m = if bytes_eq m k then with_word (inside m) n i x else inside m

-- the memories' first content, with x at word i of memory n of instance k
abbrev pub with_first : (Name → Name → ℕ → ℕ) → Name → Name → ℕ → ℕ → Name → Name → ℕ → ℕ
with_first first k n i x a m j = if bytes_eq a k && (bytes_eq m n && (i == j)) then x else first a m j

-- ---- in the machine

-- the place of the memory of this number among the items
abbrev pub memory_place : List Item → ℕ → ℕ
memory_place [] k = 0
memory_place (mem h n last ∷ is) zero = 0
memory_place (mem h n last ∷ is) (suc k) = suc (memory_place is k)
memory_place (wire h n ∷ is) k = suc (memory_place is k)
memory_place (reg h n ∷ is) k = suc (memory_place is k)
memory_place (assign n e ∷ is) k = suc (memory_place is k)
memory_place (clocked n c e ∷ is) k = suc (memory_place is k)
memory_place (store c n i e ∷ is) k = suc (memory_place is k)

-- the line that declares it
abbrev pub memory_line : Leaf → ℕ → ℕ
memory_line l k = suc (length l.ports + memory_place l.items k)

-- what an instance keeps, with x as word i of the memory at line `row`
abbrev pub kept_with : ℕ → ℕ → ℕ → Kept → Kept
kept_with row i x k =
    record { nets = k.nets; memories = slice_set k.memories row (slice_set (slice_index_or k.memories row []) i x) }

-- the instance, its code as it was
abbrev pub part_with : ℕ → ℕ → ℕ → Part → Part
part_with row i x p = record { code = p.code; kept = kept_with row i x p.kept }

-- the instances in order, the one of number c changed so
abbrev pub parts_with : ℕ → ℕ → ℕ → ℕ → List Part → List Part
parts_with c row i x [] = []
parts_with zero row i x (p ∷ ps) = part_with row i x p ∷ ps
parts_with (suc c) row i x (p ∷ ps) = p ∷ parts_with c row i x ps
