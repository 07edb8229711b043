-- Laws over the definitions.
use Rattle.std.specs.Prelude.{◌≡◌, ◌≢◌, ℕ, Bool, true, false, List, [], ◌∷◌, ◌++◌, ◌≤◌, map, Some, None}
use Rattle.std.specs.List.{AllByRecursion, list_all}
use Rattle.vl_tree.specs.declared.tree.Port.{Port}
use Rattle.vl_tree.specs.Values.{Name, Item, Leaf, Design}
use Rattle.vl_tree.specs.Plain.{plain_port, plain_item, plain_top_item}
use Rattle.vl_model.specs.Meaning.{Widths, Values}
use Rattle.vl_model.specs.Lines.{port, item, is_net, leaf_lines, sites_behind, leaf_named, module_sites, top_lines}
use Rattle.vl_model.specs.Rules.{rules, early_rules, first_fault_of, is_kind, is_through, drivers, IsSound, IsSoundLeaf, IsTidy}
use Rattle.vl_model.specs.Leaf.{leaf_widths, IsRightIn, IsLeafRun}
use Rattle.vl_model.specs.Parts.{AllHold}
use Rattle.vl_model.specs.Whole.{Nets, IsRight, SameState, SameNets, AreSmallNets, EachInstance, Joined, IsRun, Fit}
use Rattle.vl_model.specs.Handed.{Handed}
use Rattle.vl_model.specs.Settle.{settled, run}

-- A sound design has exactly one right valuation for each state and inputs
abbrev pub OneValuation : Type 0
OneValuation = (d : Design) → IsSound d → (s : Nets) → AreSmallNets d s
    → IsRight d (settled d s) × SameState d s (settled d s)
    × ((u : Nets) → IsRight d u → SameState d s u → SameNets d u (settled d s))

-- In a run of a design each instance runs as its leaf, with the joined nets at its ports
abbrev pub InstanceRuns : Type 0
InstanceRuns = (d : Design) (first : Name → Name → ℕ → ℕ) (inputs : ℕ → Name → ℕ) (values : ℕ → Nets) → IsSound d
    → IsRun d first inputs values
    → EachInstance d (λ l n joins. IsLeafRun l (λ t. (values t).inside n)
    × ((t : ℕ) → AllByRecursion (Joined ((values t).inside n) (values t).top) joins))

-- What items give and keep holds of every leaf of a sound design that has them: in a right valuation each item of a
-- leaf holds
abbrev pub PartsHold : Type 0
PartsHold = (d : Design) → IsSound d → (n : Name) (l : Leaf) → leaf_named d.leaves n ≡ Some l → (v : Values)
    → IsRightIn l v → AllHold (leaf_widths l) v l.items

-- and so does each part of the items
abbrev pub PartsAlone : Type 0
PartsAlone = (w : Widths) (v : Values) (before items after : List Item) → AllHold w v (before ++ (items ++ after))
    → AllHold w v items

-- A sound design has exactly one run for each first content of its memories and all inputs, and it is the computed one
abbrev pub OneRun : Type 0
OneRun = (d : Design) → IsSound d → (first : Name → Name → ℕ → ℕ) (inputs : ℕ → Name → ℕ) → Fit d first inputs
    → IsRun d first inputs (run d first inputs)
    × ((values : ℕ → Nets) → IsRun d first inputs values → (t : ℕ) → SameNets d (values t) (run d first inputs t))

-- no later leaf has the name
abbrev pub NamesApart : List Leaf → Type 0
NamesApart [] = Unit {0}
NamesApart (l ∷ ls) = AllByRecursion (λ (k : Leaf). k.name ≢ l.name) ls × NamesApart ls

-- Leaves that are sound by themselves and have names of their own, under a top that keeps the rules, are a sound design
abbrev pub SoundTogether : Type 0
SoundTogether = (d : Design) → AllByRecursion IsSoundLeaf d.leaves → NamesApart d.leaves
    → list_all plain_port d.top.ports ≡ true → list_all plain_top_item d.top.items ≡ true
    → first_fault_of rules (module_sites d.leaves (top_lines d.top)) ≡ None → IsSound d

-- the leaf with more items behind its own
abbrev pub with_items : Leaf → List Item → Leaf
with_items l is = record { name = l.name; ports = l.ports; items = l.items ++ is }

-- A leaf so far stays tidy with more items that keep the rules behind its own, where these drive nothing twice and no
-- output port goes through with them
abbrev pub TidyMore : Type 0
TidyMore = (l : Leaf) (is : List Item) → IsTidy l → list_all plain_item is ≡ true
    → first_fault_of early_rules (sites_behind [] (leaf_lines l) (leaf_lines l) (map item is)) ≡ None
    → ((n : Name) → drivers [] (leaf_lines l ++ map item is) n ≤ 1)
    → AllByRecursion (λ (p : Port). is_through (leaf_lines l ++ map item is) (port p) ≡ false) l.ports
    → IsTidy (with_items l is)

-- Induction over the nets of a cycle: what the top's inputs and all registers have, and assigns and joins hand on,
-- all nets have. A law speaks of tests; the lemma that proves it, of any property
abbrev pub NetInduction : Type 0
NetInduction = (d : Design) → IsSound d → (top : Name → Bool) (inside : Name → Name → Bool)
    → Handed d (λ n. top n ≡ true) (λ i n. inside i n ≡ true)
    → ((n : Name) → is_kind is_net (top_lines d.top) n ≡ true → top n ≡ true)
    × EachInstance d (λ l i joins. (n : Name) → is_kind is_net (leaf_lines l) n ≡ true → inside i n ≡ true)
