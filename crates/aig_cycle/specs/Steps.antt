-- Programs on words of literals.
use Rattle.std.specs.Prelude.{ℕ, Bool, List, [], ◌∷◌, slice_index_or, slice_set}
use Rattle.std.specs.List.{AllByRecursion}
use Rattle.aig_model.specs.Netlist.{Net}
use Rattle.vl_run.specs.declared.program.Link.{Link}
use Rattle.vl_run.specs.State.{Code, Part}
use Rattle.aig_cycle.specs.Wires.{Wires, kept_as, AreWires, ArePlain}

-- words that are copied from one row to another: the first link to a place counts
abbrev pub linked_words : List (List ℕ) → List Link → List (List ℕ) → List (List ℕ)
linked_words from [] to = to
linked_words from (l ∷ ls) to = slice_set (linked_words from ls to) l.to (slice_index_or from l.from [])

-- an instance: its code and its words
pub record Wired : Type 0 where
  pub code : Code
  pub wires : Wires

-- the instance that it stands for
abbrev pub part_as : (ℕ → Bool) → Wired → Part
part_as s x = record { code = x.code; kept = kept_as s x.wires }

-- the top's nets take the words of output ports: the first that is joined to a net counts
abbrev pub shown_words : List Wired → List (List ℕ) → List (List ℕ)
shown_words [] tops = tops
shown_words (x ∷ xs) tops = linked_words x.wires.nets x.code.outs (shown_words xs tops)

-- masks are masks in all that the code computes
pub record IsPlainCode (c : Code) : Type 0 where
  pub settle : ArePlain c.settle
  pub next : ArePlain c.next
  pub moves : ArePlain c.moves

-- an instance on this net
pub record IsWired (n : Net) (x : Wired) : Type 0 where
  pub plain : IsPlainCode x.code
  pub wires : AreWires n x.wires

-- and all of them
abbrev pub AreWired : Net → List Wired → Type 0
AreWired n xs = AllByRecursion (IsWired n) xs
