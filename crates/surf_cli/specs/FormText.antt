-- The text of a form of a plan.
use Rattle.std.specs.Prelude.{◌≡◌, ℕ, ◌+◌, List, [], ◌∷◌}
use Rattle.std.specs.Coded.{×_prop, Unit-prop, le_prop}
use Rattle.vl_tree.specs.Values.{Design}
use Rattle.noc_model.specs.Plan.{Plan}
use Rattle.gen_kit.specs.Right.{IsRightDesign}
use Rattle.aig_model.specs.declared.form.Gate.{Gate}
use Rattle.aig_model.specs.Form.{Form, AreOrdered}
use Rattle.aig_model.specs.FormOf.{IsFormOf}
use Rattle.aig_model.specs.Text.{text_of}

-- the bytes are the text of a form of a right design of the plan: in every run the form's outputs are the design's, bit
-- by bit
pub record IsFormText (p : Plan) (bytes : List ℕ) : Type 0 where
  pub design : Design
  pub form : Form
  pub right : IsRightDesign p design
  pub of_design : IsFormOf design form
  pub text : bytes ≡ text_of form

-- a list of gates is in order in one way at most
pub AreOrdered-prop : (k : ℕ) (gates : List Gate) → IsProp (AreOrdered k gates)
AreOrdered-prop k [] = Unit-prop
AreOrdered-prop k (g ∷ gs) = ×_prop (×_prop le_prop le_prop) (AreOrdered-prop (k + 1) gs)
