-- The form that a value of the code is.
use Rattle.std.specs.Prelude.{ℕ, List, [], ◌∷◌, length}
use Rattle.aig_model.specs.Form.{Form, last_variable}
use Rattle.aig_model.specs.Text.{line}
use Rattle.aig_out.specs.declared.form.Aig.{Aig}

-- the form of a value
abbrev pub form_of : Aig → Form
form_of a = record { inputs = a.inputs; latches = a.latches; outputs = a.outputs; gates = a.gates }

-- the line of a form's counts, behind the letters that begin it
abbrev pub head_line : Form → List ℕ
head_line f = line (last_variable f) (f.inputs ∷ length f.latches ∷ length f.outputs ∷ length f.gates ∷ [])
