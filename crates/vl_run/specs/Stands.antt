-- What a machine keeps, and the state that it stands for.
use Rattle.std.specs.Prelude.{◌≡◌, ℕ, ◌+◌, ◌≤◌, ◌<◌, ◌^◌, Bool, true, false, List, [], ◌∷◌, length, Option, Some, None, slice_index, drop}
use Rattle.vl_tree.specs.declared.tree.Port.{Port}
use Rattle.vl_tree.specs.declared.tree.Join.{Join}
use Rattle.vl_tree.specs.declared.tree.TopItem.{TopItem}
use Rattle.vl_tree.specs.declared.tree.TopItem.TheVariants.{Wire, Instance}
use Rattle.vl_tree.specs.Values.{Name, Leaf, Design}
use Rattle.vl_model.specs.Meaning.{Values}
use Rattle.vl_model.specs.Lines.{leaf_lines, top_lines, leaf_named, is_net, is_driven, is_input}
use Rattle.vl_model.specs.Rules.{is_kind}
use Rattle.vl_model.specs.Leaf.{leaf_widths, AreSmall}
use Rattle.vl_model.specs.Settle.{net_value}
use Rattle.vl_run.specs.Places.{ArePlaces}
use Rattle.vl_run.specs.Rows.{Rows}
use Rattle.vl_run.specs.State.{Part, code_of}
use Rattle.vl_run.specs.Start.{HasRoom}
use Rattle.vl_run.specs.Top.{places_of}

-- what a machine keeps: its design, the instances in order, the numbers of the top's nets, and where its ports stand
pub record Running : Type 0 where
  pub design : Design
  pub parts : List Part
  pub tops : List ℕ
  pub ports : List ℕ

-- an instance's registers, input ports and memories have the numbers of v. Names of the top stand at t
pub record StandsIn (t : Name → ℕ) (l : Leaf) (joins : List Join) (x : Part) (v : Values) : Type 0 where
  pub place : Name → ℕ
  pub places : ArePlaces (leaf_lines l) place
  pub code : x.code ≡ code_of place (leaf_widths l) t l joins
  pub room : HasRoom l x.code x.kept.nets
  pub small : AreSmall (leaf_widths l) v
  pub nets : (n : Name) → is_kind is_net (leaf_lines l) n ≡ true → is_kind is_driven (leaf_lines l) n ≡ false
      → slice_index x.kept.nets (place n) ≡ v.net n
  pub rows : Rows (leaf_lines l) place x.kept.memories v

-- the same, and there is such a leaf
abbrev pub StandsAt : (Name → ℕ) → Option Leaf → List Join → Part → Values → Type 0
StandsAt t None joins x v = ⊥
StandsAt t (Some l) joins x v = StandsIn t l joins x v

-- the same of all instances, in the order of the items
abbrev pub AllStand : (Name → ℕ) → List Leaf → (Name → Values) → List TopItem → List Part → Type 0
AllStand t leaves inside [] xs = xs ≡ []
AllStand t leaves inside (Wire h n ∷ is) xs = AllStand t leaves inside is xs
AllStand t leaves inside (Instance l n joins ∷ is) [] = ⊥
AllStand t leaves inside (Instance l n joins ∷ is) (x ∷ xs) = StandsAt t (leaf_named leaves l) joins x (inside n)
    × AllStand t leaves inside is xs

-- a machine that stands at a state, by instance: all registers and memories have its numbers, and the top's nets but
-- its input ports those that follow from it
pub record Stands (m : Running) (inside : Name → Values) : Type 0 where
  pub top : Name → ℕ
  pub places : ArePlaces (top_lines m.design.top) top
  pub parts : AllStand top m.design.leaves inside m.design.top.items m.parts
  pub room : length (top_lines m.design.top) ≤ length m.tops
  pub ports : m.ports ≡ places_of top m.design.top.ports
  pub tops : (n : Name) → is_kind is_net (top_lines m.design.top) n ≡ true
      → is_kind is_input (top_lines m.design.top) n ≡ false → (y : ℕ)
      → slice_index m.tops (top n) ≡ net_value m.design.leaves inside m.design.top.items n y

-- an input port takes the first number, which its width can hold, and leaves the others; an output port takes none
abbrev pub FitsPort : Bool → Port → List ℕ → (List ℕ → Type 0) → Type 0
FitsPort true p xs rest = rest xs
FitsPort false p xs rest = (slice_index xs 0 < 2 ^ (p.high + 1)) × rest (drop 1 xs)

-- numbers for the input ports in order, each below two to the port's width
abbrev pub AreInputs : List Port → List ℕ → Type 0
AreInputs [] xs = Unit {0}
AreInputs (p ∷ ps) xs = FitsPort p.output p xs (λ more. AreInputs ps more)
