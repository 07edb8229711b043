-- When a form is a design's: inputs, outputs and latches bit by bit; which expressions need no gate.
use Rattle.std.specs.Prelude.{◌≡◌, ℕ, zero, suc, ◌+◌, ◌^◌, ◌<◌, ◌==◌, Bool, true, false, ◌&&◌, List, [], ◌∷◌, ◌++◌, flat_map, length, Option, Some, None, if◌then◌else◌}
use Rattle.std.specs.Int.{bit_at}
use Rattle.std.specs.List.{AllByRecursion, list_all}
use Rattle.vl_tree.specs.declared.tree.Port.{Port}
use Rattle.vl_tree.specs.declared.tree.TopItem.{TopItem}
use Rattle.vl_tree.specs.declared.tree.TopItem.TheVariants.{Wire, Instance}
use Rattle.vl_tree.specs.Values.{Name, Expr, Exprs, net, number, bit, part, word, not, two, choose, cat, no_parts, parts, Item, wire, reg, mem, assign, clocked, store, Leaf, Design}
use Rattle.vl_model.specs.Meaning.{Values}
use Rattle.vl_model.specs.Lines.{leaf_named}
use Rattle.vl_model.specs.Settle.{reset_net, run}
use Rattle.aig_model.specs.Form.{Form, IsForm, flipped, states, form_outputs}

-- bits i to i+w-1 of a number
abbrev pub bits_from : ℕ → ℕ → ℕ → List Bool
bits_from x i zero = []
bits_from x i (suc w) = (bit_at x i == 1) ∷ bits_from x (i + 1) w

-- ---- ports

-- whether a port goes the wanted way
abbrev pub in_way : Bool → Bool → Bool
in_way true b = b
in_way false true = false
in_way false false = true

-- the bits of a port that goes the wanted way, from bit 0 up
abbrev pub port_bits : Bool → (Name → ℕ) → Port → List Bool
port_bits way numbers p = if in_way way p.output then bits_from (numbers p.name) 0 (p.high + 1) else []

-- the bits of the output ports (way: true) or of the input ports, in list order
abbrev pub all_bits : Bool → (Name → ℕ) → List Port → List Bool
all_bits way numbers ps = flat_map (port_bits way numbers) ps

-- ---- latches

-- bits i to i+w-1 of a number, complemented where the bit of k is 1
abbrev pub flipped_bits : ℕ → ℕ → ℕ → ℕ → List Bool
flipped_bits x k i zero = []
flipped_bits x k i (suc w) = flipped (bit_at k i == 1) (bit_at x i == 1) ∷ flipped_bits x k (i + 1) w

-- the bits of each register, in order: a latch starts at 0, so a bit that is 1 after reset is kept complemented
abbrev pub register_bits : List Item → Values → List Item → List Bool
register_bits all v [] = []
register_bits all v (reg h n ∷ is) = flipped_bits (v.net n) (reset_net all n) 0 (h + 1) ++ register_bits all v is
register_bits all v (wire h n ∷ is) = register_bits all v is
register_bits all v (mem h n last ∷ is) = register_bits all v is
register_bits all v (assign n e ∷ is) = register_bits all v is
register_bits all v (clocked n k e ∷ is) = register_bits all v is
register_bits all v (store c n i e ∷ is) = register_bits all v is

-- the bits of so many words from word j on, each of h + 1 bits
abbrev pub words_from : (ℕ → ℕ) → ℕ → ℕ → ℕ → List Bool
words_from f h j zero = []
words_from f h j (suc count) = bits_from (f j) 0 (h + 1) ++ words_from f h (j + 1) count

-- the bits of each memory, in order
abbrev pub memory_bits : Values → List Item → List Bool
memory_bits v [] = []
memory_bits v (mem h n last ∷ is) = words_from (v.word n) h 0 (last + 1) ++ memory_bits v is
memory_bits v (wire h n ∷ is) = memory_bits v is
memory_bits v (reg h n ∷ is) = memory_bits v is
memory_bits v (assign n e ∷ is) = memory_bits v is
memory_bits v (clocked n k e ∷ is) = memory_bits v is
memory_bits v (store c n i e ∷ is) = memory_bits v is

-- what an instance keeps: its registers, then its memories
abbrev pub leaf_latches : Option Leaf → Values → List Bool
leaf_latches None v = []
leaf_latches (Some l) v = register_bits l.items v l.items ++ memory_bits v l.items

-- what all instances keep, in order
abbrev pub all_latches : List Leaf → (Name → Values) → List TopItem → List Bool
all_latches leaves inside [] = []
all_latches leaves inside (Wire h n ∷ is) = all_latches leaves inside is
all_latches leaves inside (Instance l n joins ∷ is) =
    leaf_latches (leaf_named leaves l) (inside n) ++ all_latches leaves inside is

-- ---- no gate

-- whether an expression only names, cuts, joins and complements bits
abbrev mutual
  pub is_wiring : Expr → Bool
  is_wiring (net n) = true
  is_wiring (number k) = true
  is_wiring (bit n i) = true
  is_wiring (part n h l) = true
  is_wiring (word n e) = false
  is_wiring (not e) = is_wiring e
  is_wiring (two op a b) = false
  is_wiring (choose c a b) = false
  is_wiring (cat es) = are_wiring es

  pub are_wiring : Exprs → Bool
  are_wiring no_parts = true
  are_wiring (parts e es) = is_wiring e && are_wiring es

-- whether an item needs no gate
abbrev pub needs_no_gate : Item → Bool
needs_no_gate (wire h n) = true
needs_no_gate (reg h n) = true
needs_no_gate (mem h n last) = false
needs_no_gate (assign n e) = is_wiring e
needs_no_gate (clocked n k e) = is_wiring e
needs_no_gate (store c n i e) = false

-- ---- the form of a design

-- memories begin with words of 0
abbrev pub zero_words : Name → Name → ℕ → ℕ
zero_words i m k = 0

-- the bits are those of the function from i on
abbrev pub AreBits : List Bool → (ℕ → Bool) → ℕ → Type 0
AreBits [] f i = Unit {0}
AreBits (b ∷ bs) f i = (f i ≡ b) × AreBits bs f (i + 1)

-- the numbers of the input ports fit them
abbrev pub FitPorts : (Name → ℕ) → List Port → Type 0
FitPorts numbers ps = AllByRecursion (λ (p : Port). p.output ≡ false → numbers p.name < 2 ^ (p.high + 1)) ps

-- in each cycle the inputs of the form are the bits of the design's, which fit their ports
abbrev pub AreInputs : Design → (ℕ → Name → ℕ) → (ℕ → ℕ → Bool) → Type 0
AreInputs d given bits = (t : ℕ) → FitPorts (given t) d.top.ports
    × AreBits (all_bits false (given t) d.top.ports) (bits t) 0

-- for all inputs the form's outputs and latches are bit by bit the design's, from memories of 0
pub record IsFormOf (d : Design) (f : Form) : Type 0 where
  pub form : IsForm f
  pub inputs : f.inputs ≡ length (all_bits false (λ n. 0) d.top.ports)
  pub count : length f.latches
      ≡ length (all_latches d.leaves (λ i. record { net = λ n. 0; word = λ n j. 0 }) d.top.items)
  pub outputs : (given : ℕ → Name → ℕ) (bits : ℕ → ℕ → Bool) → AreInputs d given bits → (t : ℕ)
      → form_outputs f bits t ≡ all_bits true (run d zero_words given t).top d.top.ports
  pub latches : (given : ℕ → Name → ℕ) (bits : ℕ → ℕ → Bool) → AreInputs d given bits → (t : ℕ)
      → AreBits (all_latches d.leaves (run d zero_words given t).inside d.top.items) (states f bits t) 0
  pub free : list_all (λ (l : Leaf). list_all needs_no_gate l.items) d.leaves ≡ true → length f.gates ≡ 0
