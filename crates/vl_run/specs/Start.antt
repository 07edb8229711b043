-- The state of an instance at reset.
use Rattle.std.specs.Prelude.{◌≡◌, ℕ, ◌+◌, ◌<◌, ◌≤◌, List, map, replicate, length}
use Rattle.std.specs.List.{AllByRecursion}
use Rattle.vl_tree.specs.Values.{Name, wire, reg, mem, assign, clocked, store, Leaf}
use Rattle.vl_model.specs.Lines.{Line, heading, port, item, joint, leaf_lines}
use Rattle.vl_run.specs.declared.step.Step.{Step}
use Rattle.vl_run.specs.Step.{ran, word_at}
use Rattle.vl_run.specs.Program.{reset_steps}
use Rattle.vl_run.specs.State.{Code, Kept, Part}
use Rattle.vl_run.specs.Shown.{operands}

-- the step writes below a length
abbrev pub IsWithin : ℕ → Step → Type 0
IsWithin n s = s.to < n

-- the step writes and reads below a length
abbrev pub IsInside : ℕ → Step → Type 0
IsInside n s = (s.to < n) × AllByRecursion (λ p. p < n) (operands s.action)

-- so do all steps of a code
pub record AreInside (n : ℕ) (p : Code) : Type 0 where
  pub settle : AllByRecursion (IsInside n) p.settle
  pub next : AllByRecursion (IsInside n) p.next
  pub moves : AllByRecursion (IsInside n) p.moves

-- an instance has all places that its code writes and reads
abbrev pub HasPlaces : Part → Type 0
HasPlaces x = AreInside (length x.kept.nets) x.code

-- how many words a line declares
abbrev pub words_of : Line → ℕ
words_of (heading n) = 0
words_of (port p) = 0
words_of (item (wire h n)) = 0
words_of (item (reg h n)) = 0
words_of (item (mem h n last)) = last + 1
words_of (item (assign n e)) = 0
words_of (item (clocked n k e)) = 0
words_of (item (store c n i e)) = 0
words_of (joint x) = 0

-- as many words of 0 as the line declares
abbrev pub empty_memory : Line → List ℕ
empty_memory x = replicate (words_of x) 0

-- there is room for all nets, and for what the code writes and reads
pub record HasRoom (l : Leaf) (p : Code) (nets : List ℕ) : Type 0 where
  pub lines : length (leaf_lines l) ≤ length nets
  pub settle : AllByRecursion (IsWithin (length nets)) p.settle
  pub next : AllByRecursion (IsWithin (length nets)) p.next
  pub moves : AllByRecursion (IsWithin (length nets)) p.moves
  pub inside : AreInside (length nets) p

-- memories of 0 at the lines that declare them, and registers at their reset constants
pub record IsStart (s : Name → ℕ) (l : Leaf) (p : Code) (k : Kept) : Type 0 where
  pub room : HasRoom l p k.nets
  pub memories : k.memories ≡ map empty_memory (leaf_lines l)
  pub resets : AllByRecursion (IsWithin (length k.nets)) (reset_steps s l.items)
  pub nets : k.nets ≡ ran (word_at k.memories) (reset_steps s l.items) (replicate (length k.nets) 0)
