-- Laws over the definitions.
use Rattle.std.specs.Prelude.{◌≡◌, ℕ, ◌+◌, ◌<◌, Bool, false, List, [], length, slice_index_or, if◌then◌else◌}
use Rattle.std.specs.List.{AllByRecursion}
use Rattle.vl_tree.specs.declared.tree.Join.{Join}
use Rattle.vl_tree.specs.declared.tree.Port.{Port}
use Rattle.vl_tree.specs.Values.{Name, Leaf}
use Rattle.vl_model.specs.Meaning.{Widths}
use Rattle.aig_model.specs.Form.{word}
use Rattle.aig_model.specs.FormOf.{AreBits, FitPorts, all_bits}
use Rattle.vl_run.specs.State.{code_of}
use Rattle.aig_cycle.specs.Steps.{IsPlainCode}
use Rattle.aig_design.specs.Start.{has_place, input_ports, AreInputsPut}

-- In the code of each leaf masks are masks and scales are scales, so it runs on words
abbrev pub CodesArePlain : Type 0
CodesArePlain = (place : Name → ℕ) (w : Widths) (top : Name → ℕ) (l : Leaf) (joins : List Join) → IsPlainCode (code_of place w top l joins)

-- the numbers of input ports stand at their places
abbrev pub StandAt : (Name → ℕ) → (ℕ → ℕ) → (Name → ℕ) → List Port → Type 0
StandAt t h given ps = AllByRecursion (λ (p : Port). p.output ≡ false → h (t p.name) ≡ given p.name) ps

-- Where the variables have the bits of the input ports, as a form's inputs have them, the words at their places have the
-- ports' numbers
abbrev pub InputsHaveNumbers : Type 0
InputsHaveNumbers = (t : Name → ℕ) (first next : ℕ) (ps : List Port) (old new : List (List ℕ)) (v : ℕ → Bool) (h : ℕ → ℕ) (given : Name → ℕ)
    → AreInputsPut t first next (input_ports ps) old new → StandAt t h given ps → FitPorts given ps
    → AreBits (all_bits false given ps) (λ j. v (first + j)) 0 → (p : ℕ) → p < length old
    → word v (slice_index_or new p []) ≡ (if has_place (λ (q : Port). t q.name) (input_ports ps) p then h p else word v (slice_index_or old p []))
