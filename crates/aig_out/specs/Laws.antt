-- Laws over the definitions.
use Rattle.std.specs.Prelude.{◌≡◌, ℕ, ◌+◌, Bool, false, List, length, map, replicate}
use Rattle.aig_model.specs.Form.{literal, form_outputs}
use Rattle.aig_out.specs.Ran.{Ran, at, values_of, IsAt}

-- With all latches at 0 a run stands at cycle 0
abbrev pub RunStarts : Type 0
RunStarts = (r : Ran) (inputs : ℕ → ℕ → Bool) → r.state ≡ replicate (length r.form.latches) false → IsAt r inputs 0

-- A step from cycle t gives the outputs of cycle t, and a run that stands at the next one
abbrev pub RunGoesOn : Type 0
RunGoesOn = (r next : Ran) (given outputs : List Bool) (inputs : ℕ → ℕ → Bool) (t : ℕ) → inputs t ≡ at given → IsAt r inputs t
    → next.form ≡ r.form → next.state ≡ map (literal (values_of r given)) r.form.latches
    → outputs ≡ map (literal (values_of r given)) r.form.outputs
    → (outputs ≡ form_outputs r.form inputs t) × IsAt next inputs (t + 1)
