-- The text of a form: AIGER ASCII.
use Rattle.std.specs.Prelude.{ℕ, zero, suc, ◌+◌, ◌*◌, List, [], ◌∷◌, ◌++◌, length, codes, decimal}
use Rattle.aig_model.specs.declared.form.Gate.{Gate}
use Rattle.aig_model.specs.Form.{Form, first_gate, last_variable}

-- numbers with one space between them, and a line end
abbrev pub line : ℕ → List ℕ → List ℕ
line n [] = decimal n ++ 10 ∷ []
line n (m ∷ ms) = decimal n ++ 32 ∷ line m ms

-- the variables from k on, one a line
abbrev pub input_lines : ℕ → ℕ → List ℕ
input_lines k zero = []
input_lines k (suc n) = line (2 * k) [] ++ input_lines (k + 1) n

-- a latch's variable, of which the first is k, and its next literal
abbrev pub latch_lines : ℕ → List ℕ → List ℕ
latch_lines k [] = []
latch_lines k (x ∷ xs) = line (2 * k) (x ∷ []) ++ latch_lines (k + 1) xs

-- the literals, one a line
abbrev pub output_lines : List ℕ → List ℕ
output_lines [] = []
output_lines (x ∷ xs) = line x [] ++ output_lines xs

-- a gate's variable, of which the first is k, and its two literals
abbrev pub gate_lines : ℕ → List Gate → List ℕ
gate_lines k [] = []
gate_lines k (g ∷ gs) = line (2 * k) (g.first ∷ g.second ∷ []) ++ gate_lines (k + 1) gs

-- the text of a form: its counts, then inputs, latches, outputs and gates
unfoldable pub text_of : Form → List ℕ
text_of f =
    codes "aag "
    ++ (line (last_variable f) (f.inputs ∷ length f.latches ∷ length f.outputs ∷ length f.gates ∷ [])
    ++ (input_lines 1 f.inputs ++ (latch_lines (f.inputs + 1) f.latches
    ++ (output_lines f.outputs ++ gate_lines (first_gate f) f.gates))))
