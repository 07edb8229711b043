-- How many literals words have, where actions need no gate.
use Rattle.std.specs.Prelude.{◌≡◌, ℕ, ◌+◌, ◌%◌, ◌^◌, ◌<◌, ◌≤◌, ◌==◌, Bool, true, List, [], ◌∷◌, ◌++◌, length, slice_index_or, if◌then◌else◌}
use Rattle.vl_tree.specs.Values.{Name}
use Rattle.vl_run.specs.declared.step.Action.{Action}
use Rattle.vl_run.specs.declared.step.Action.TheVariants.{Number, Copy, Bits, Not, Two, Choose, Load, Join}
use Rattle.vl_run.specs.declared.step.Step.{Step}
use Rattle.aig_model.specs.Netlist.{Net}
use Rattle.aig_cycle.specs.Steps.{Wired, linked_words}

-- how long the word at each place is
abbrev pub lengths : List (List ℕ) → ℕ → ℕ
lengths ws i = length (slice_index_or ws i [])

-- bounds with another one at place i
abbrev pub bounded : ℕ → ℕ → (ℕ → ℕ) → ℕ → ℕ
bounded i k b j = if j == i then k else b j

-- the back fits behind the front, and both together are no longer than this
pub record IsShortJoin (front scale back k : ℕ) : Type 0 where
  pub width : ℕ
  pub narrow : width ≤ 64
  pub is : scale ≡ 2 ^ width % 2 ^ 64
  pub fits : back ≤ width
  pub most : width + front ≤ k

-- of words within these bounds an action makes one no longer than k, and it needs no gate
abbrev pub IsShort : (ℕ → ℕ) → Action → ℕ → Type 0
IsShort b (Number n) k = n < 2 ^ k
IsShort b (Copy a) k = b a ≤ k
IsShort b (Bits a low mask) k = mask < 2 ^ k
IsShort b (Not a mask) k = (mask < 2 ^ k) × (2 ^ b a ≤ mask + 1)
IsShort b (Two op mask x y) k = ⊥
IsShort b (Choose c x y) k = ⊥
IsShort b (Load m i) k = ⊥
IsShort b (Join a scale e) k = IsShortJoin (b a) scale (b e) k

-- the places of names, and how long the words there may be
pub record Bounds : Type 0 where
  pub known : Name → Bool
  pub place : Name → ℕ
  pub most : Name → ℕ

-- words of known names are within the bounds
abbrev pub IsWithin : Bounds → (ℕ → ℕ) → Type 0
IsWithin x b = (n : Name) → x.known n ≡ true → b (x.place n) ≤ x.most n

-- steps need no gate, from words within b on, and words end within the bounds
abbrev pub AreShort : Bounds → List Step → (ℕ → ℕ) → Type 0
AreShort x [] b = IsWithin x b
AreShort x (s ∷ ss) b = (k : ℕ) × (IsShort b s.action k × AreShort x ss (bounded s.to k b))

-- steps grow no gate where they and those that follow need none, and those that follow still need none
abbrev pub RunShort : Net → Net → List Step → (ℕ → ℕ) → (ℕ → ℕ) → Type 0
RunShort old new ss b c = (x : Bounds) (rest : List Step) → AreShort x (ss ++ rest) b → (new ≡ old) × AreShort x rest c

-- an instance settles without gates
abbrev pub IsShortSettle : Bounds → Wired → Type 0
IsShortSettle x p = AreShort x p.code.settle (lengths p.wires.nets)

-- all do, each within its own bounds
abbrev pub AreShortSettles : List Bounds → List Wired → Type 0
AreShortSettles [] [] = Unit {0}
AreShortSettles (x ∷ xs) (p ∷ ps) = IsShortSettle x p × AreShortSettles xs ps
AreShortSettles _ _ = ⊥

-- words of all are within bounds
abbrev pub AreWithin : List Bounds → List Wired → Type 0
AreWithin [] [] = Unit {0}
AreWithin (x ∷ xs) (p ∷ ps) = IsWithin x (lengths p.wires.nets) × AreWithin xs ps
AreWithin _ _ = ⊥

-- an edge of an instance needs no gate, where the top's nets have these words
pub record IsShortEdge (tops : List (List ℕ)) (p : Wired) : Type 0 where
  pub bounds : Bounds
  pub steps : AreShort bounds (p.code.settle ++ (p.code.next ++ p.code.moves)) (lengths (linked_words tops p.code.feeds p.wires.nets))
  pub stores : p.code.stores ≡ []

-- nor does one of all
abbrev pub AreShortEdges : List (List ℕ) → List Wired → Type 0
AreShortEdges tops [] = Unit {0}
AreShortEdges tops (p ∷ ps) = IsShortEdge tops p × AreShortEdges tops ps
