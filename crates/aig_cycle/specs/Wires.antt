-- Words of literals where a program has numbers.
use Rattle.std.specs.Prelude.{◌≡◌, ℕ, ◌-◌, ◌%◌, ◌≤◌, ◌^◌, Bool, List, map, length}
use Rattle.std.specs.List.{AllByRecursion}
use Rattle.aig_model.specs.Form.{word}
use Rattle.aig_model.specs.Netlist.{Net, AreOf}
use Rattle.vl_run.specs.declared.step.Action.{Action}
use Rattle.vl_run.specs.declared.step.Action.TheVariants.{Number, Copy, Bits, Not, Two, Choose, Load, Join}
use Rattle.vl_run.specs.declared.step.Step.{Step}
use Rattle.vl_run.specs.State.{Kept}

-- the numbers of words
abbrev pub numbers : (ℕ → Bool) → List (List ℕ) → List ℕ
numbers s ws = map (word s) ws

-- the numbers of the words of memories
abbrev pub rows : (ℕ → Bool) → List (List (List ℕ)) → List (List ℕ)
rows s ms = map (numbers s) ms

-- the words of an instance's nets, and those of its memories
pub record Wires : Type 0 where
  pub nets : List (List ℕ)
  pub memories : List (List (List ℕ))

-- the state that they stand for
abbrev pub kept_as : (ℕ → Bool) → Wires → Kept
kept_as s w = record { nets = numbers s w.nets; memories = rows s w.memories }

-- the literals are of the net, and at most 64
pub record IsWord (n : Net) (w : List ℕ) : Type 0 where
  pub known : AreOf n w
  pub narrow : length w ≤ 64

-- so are those of each word
abbrev pub AreWords : Net → List (List ℕ) → Type 0
AreWords n ws = AllByRecursion (IsWord n) ws

-- and those of each memory
abbrev pub AreRows : Net → List (List (List ℕ)) → Type 0
AreRows n ms = AllByRecursion (AreWords n) ms

-- and all of an instance
pub record AreWires (n : Net) (w : Wires) : Type 0 where
  pub nets : AreWords n w.nets
  pub memories : AreRows n w.memories

-- the mask has so many bits, all 1
pub record IsMask (mask : ℕ) : Type 0 where
  pub width : ℕ
  pub narrow : width ≤ 64
  pub is : mask ≡ 2 ^ width - 1

-- the scale moves by so many bits, in 64
pub record IsScale (scale : ℕ) : Type 0 where
  pub width : ℕ
  pub narrow : width ≤ 64
  pub is : scale ≡ 2 ^ width % 2 ^ 64

-- masks are masks, and scales are scales
abbrev pub IsPlain : Action → Type 0
IsPlain (Number k) = Unit {0}
IsPlain (Copy a) = Unit {0}
IsPlain (Bits a low mask) = IsMask mask
IsPlain (Not a mask) = IsMask mask
IsPlain (Two op mask a b) = IsMask mask
IsPlain (Choose c a b) = Unit {0}
IsPlain (Load k i) = Unit {0}
IsPlain (Join a scale b) = IsScale scale

-- so it is in each step
abbrev pub ArePlain : List Step → Type 0
ArePlain ss = AllByRecursion (λ (s : Step). IsPlain s.action) ss
