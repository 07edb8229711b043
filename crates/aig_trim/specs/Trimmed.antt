-- A form without the gates that nothing needs: the values that stay, and what reads each gate.
use Rattle.std.specs.Prelude.{◌≡◌, ℕ, ◌+◌, ◌≤◌, ◌||◌, Bool, true, List, [], ◌∷◌, map, length}
use Rattle.std.specs.List.{list_any}
use Rattle.aig_model.specs.declared.form.Gate.{Gate}
use Rattle.aig_model.specs.Form.{Form, IsForm, first_gate, literal, values}
use Rattle.aig_trim.specs.Marks.{is_of}

-- the literals that gates read
abbrev pub gate_literals : List Gate → List ℕ
gate_literals [] = []
gate_literals (g ∷ gs) = g.first ∷ g.second ∷ gate_literals gs

-- whether an output, a latch or a gate reads the variable
abbrev pub is_read : Form → ℕ → Bool
is_read f x = list_any (is_of x) f.outputs || list_any (is_of x) f.latches || list_any (is_of x) (gate_literals f.gates)

-- something in the form reads each of these gates, of which the first is variable k
abbrev pub AreRead : Form → ℕ → List Gate → Type 0
AreRead f k [] = Unit {0}
AreRead f k (g ∷ gs) = (is_read f k ≡ true) × AreRead f (k + 1) gs

-- an output, a latch or a gate reads each gate of the form. Gates read what stands before them, so each is needed by an
-- output or a latch
abbrev pub HasNeededGates : Form → Type 0
HasNeededGates f = AreRead f (first_gate f) f.gates

-- the second form has the values of the first, and no gate that nothing needs
pub record IsTrimmed (f g : Form) : Type 0 where
  pub form : IsForm g
  pub inputs : g.inputs ≡ f.inputs
  pub latches : length g.latches ≡ length f.latches
  pub next : (input state : ℕ → Bool) → map (literal (values g input state)) g.latches
      ≡ map (literal (values f input state)) f.latches
  pub outputs : (input state : ℕ → Bool) → map (literal (values g input state)) g.outputs
      ≡ map (literal (values f input state)) f.outputs
  pub few : length g.gates ≤ length f.gates
  pub needed : HasNeededGates g
