-- A run of a form, as the code keeps it.
use Rattle.std.specs.Prelude.{◌≡◌, ℕ, Bool, false, List, slice_index_or}
use Rattle.aig_model.specs.Form.{Form, values, states}

-- bits of a list, and false behind the last
abbrev pub at : List Bool → ℕ → Bool
at bits i = slice_index_or bits i false

-- a form, and the values of its latches
pub record Ran : Type 0 where
  pub form : Form
  pub state : List Bool

-- the values of all variables, where the inputs have these
abbrev pub values_of : Ran → List Bool → ℕ → Bool
values_of r inputs = values r.form (at inputs) (at r.state)

-- the latches are as they are in cycle t
abbrev pub IsAt : Ran → (ℕ → ℕ → Bool) → ℕ → Type 0
IsAt r inputs t = at r.state ≡ states r.form inputs t
