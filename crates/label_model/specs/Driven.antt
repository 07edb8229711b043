-- What drives a net of the top, and what is inside an instance, whatever a net's value is.
use Rattle.std.specs.Prelude.{List, [], ◌∷◌, Option, Some, None, if◌then◌else◌, bytes_eq, find}
use Rattle.vl_tree.specs.declared.tree.Join.{Join}
use Rattle.vl_tree.specs.declared.tree.TopItem.{TopItem}
use Rattle.vl_tree.specs.declared.tree.TopItem.TheVariants.{Wire, Instance}
use Rattle.vl_tree.specs.Values.{Name, Leaf}
use Rattle.vl_model.specs.Lines.{leaf_named}
use Rattle.vl_model.specs.Rules.{join_drives}

-- what the port of the join has, or else y
abbrev pub of_port : {X : Type 0} → Option Join → (Name → X) → X → X
of_port None f y = y
of_port (Some j) f y = f j.port

-- what instance i gives net n of the top by an output port, or else y
abbrev pub of_instance : {X : Type 0} → (Leaf → Name → Name → X) → Name → List Join → Option Leaf → Name → X → X
of_instance out i joins None n y = y
of_instance out i joins (Some l) n y = of_port (find (join_drives l n) joins) (out l i) y

-- what net n of the top has: what the output port that drives it has by its leaf and its instance, and else y
abbrev pub driven_by : {X : Type 0} → List Leaf → (Leaf → Name → Name → X) → List TopItem → Name → X → X
driven_by leaves out [] n y = y
driven_by leaves out (Wire h m ∷ is) n y = driven_by leaves out is n y
driven_by leaves out (Instance l i joins ∷ is) n y =
    of_instance out i joins (leaf_named leaves l) n (driven_by leaves out is n y)

-- what the net of the join has, or else y
abbrev pub of_net : {X : Type 0} → Option Join → (Name → X) → X → X
of_net None top y = y
of_net (Some j) top y = top j.net

-- what is inside, by the instance's name: f of its leaf, its name and its joins, and other where no instance has the
-- name
abbrev pub by_instance : {X : Type 0} → List Leaf → List TopItem → (Option Leaf → Name → List Join → X) → (Name → X)
    → Name → X
by_instance leaves [] f other n = other n
by_instance leaves (Wire h m ∷ is) f other n = by_instance leaves is f other n
by_instance leaves (Instance l i joins ∷ is) f other n =
    if bytes_eq n i then f (leaf_named leaves l) n joins else by_instance leaves is f other n
