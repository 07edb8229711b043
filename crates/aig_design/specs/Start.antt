-- Words of variables that a cycle begins with: of registers, memories and input ports, at their places.
use Rattle.std.specs.Prelude.{◌≡◌, ℕ, ◌+◌, ◌<◌, ◌≤◌, ◌^◌, ◌==◌, Bool, true, not, List, [], ◌∷◌, ◌++◌, filter, length, flat_map, slice_index, slice_index_or, replicate, if◌then◌else◌}
use Rattle.std.specs.List.{AllByRecursion, list_any}
use Rattle.aig_model.specs.Form.{word}
use Rattle.aig_model.specs.FormOf.{AreBits, bits_from, flipped_bits, words_from}
use Rattle.aig_model.specs.Netlist.{Net}
use Rattle.vl_tree.specs.declared.tree.Port.{Port}
use Rattle.vl_tree.specs.Values.{Name}
use Rattle.vl_run.specs.declared.program.Register.{Register}
use Rattle.vl_run.specs.declared.program.Memory.{Memory}
use Rattle.vl_run.specs.State.{Part}
use Rattle.aig_cycle.specs.Wires.{numbers, IsWord, AreWords}
use Rattle.aig_cycle.specs.Steps.{Wired}
use Rattle.aig_cycle.specs.Latches.{part_bits}
use Rattle.aig_cycle.specs.Short.{Bounds, IsWithin, lengths}

-- whether one of these stands at the place
abbrev pub has_place : {A : Type 0} → (A → ℕ) → List A → ℕ → Bool
has_place place xs p = list_any (λ x. place x == p) xs

-- the bits of these in order, where what stands at place p is h p
abbrev pub kept_bits : {A X : Type 0} → (A → ℕ) → (A → X → List Bool) → (ℕ → X) → List A → List Bool
kept_bits place bits h xs = flat_map (λ x. bits x (h (place x))) xs

-- variables from first to next make one of these: where they have its bits, that is what it means
pub record IsMade {A E X : Type 0} (narrow : A → Type 0) (fits : A → X → Type 0) (bits : A → X → List Bool) (known : Net → E → Type 0) (mean : (ℕ → Bool) → E → X) (first next : ℕ) (a : A) (made : E) : Type 0 where
  pub up : first ≤ next
  pub count : (x : X) → next ≡ first + length (bits a x)
  pub are_known : (n : Net) → next ≤ n.start → narrow a → known n made
  pub value : (v : ℕ → Bool) (x : X) → fits a x → AreBits (bits a x) (λ j. v (first + j)) 0 → mean v made ≡ x

-- variables from first to next make all of these, at their places. Other places stay
pub record ArePut {A E X : Type 0} (place : A → ℕ) (narrow : A → Type 0) (fits : A → X → Type 0) (bits : A → X → List Bool) (known : Net → E → Type 0) (mean : (ℕ → Bool) → E → X) (none : E) (first next : ℕ) (xs : List A) (old new : List E) : Type 0 where
  pub count : (h : ℕ → X) → next ≡ first + length (kept_bits place bits h xs)
  pub size : length new ≡ length old
  pub are_known : (n : Net) → next ≤ n.start → AllByRecursion narrow xs → AllByRecursion (known n) old → AllByRecursion (known n) new
  pub value : (v : ℕ → Bool) (h : ℕ → X) → AllByRecursion (λ x. fits x (h (place x))) xs → AreBits (kept_bits place bits h xs) (λ j. v (first + j)) 0 → (p : ℕ) → p < length old
      → mean v (slice_index_or new p none) ≡ (if has_place place xs p then h p else mean v (slice_index_or old p none))

-- ---- registers

-- the number of a register's place
abbrev pub register_place : Register → ℕ
register_place r = r.place

-- a register has at most 64 bits
abbrev pub is_narrow_register : Register → Type 0
is_narrow_register r = r.high < 64

-- the number fits the register's width
abbrev pub fits_register : Register → ℕ → Type 0
fits_register r x = x < 2 ^ (r.high + 1)

-- the bits of a register with this number, complemented where its reset constant has a 1
abbrev pub register_bits : List ℕ → Register → ℕ → List Bool
register_bits resets r x = flipped_bits x (slice_index resets r.place) 0 (r.high + 1)

-- registers have words of variables
abbrev pub AreRegistersPut : List ℕ → ℕ → ℕ → List Register → List (List ℕ) → List (List ℕ) → Type 0
AreRegistersPut resets first next rs old new = ArePut register_place is_narrow_register fits_register (register_bits resets) IsWord word [] first next rs old new

-- a register is no wider than the bounds of its place
abbrev pub IsBounded : Bounds → Register → Type 0
IsBounded b r = (n : Name) → b.known n ≡ true → b.place n ≡ r.place → r.high + 1 ≤ b.most n

-- ---- memories

-- the number of a memory's place
abbrev pub memory_place : Memory → ℕ
memory_place m = m.place

-- a word of the memory has at most 64 bits
abbrev pub is_narrow_memory : Memory → Type 0
is_narrow_memory m = m.high < 64

-- as many words as the memory has, and each fits
pub record FitsMemory (m : Memory) (row : List ℕ) : Type 0 where
  pub count : length row ≡ m.last + 1
  pub words : AllByRecursion (λ x. x < 2 ^ (m.high + 1)) row

-- the bits of a memory with these words
abbrev pub memory_bits : Memory → List ℕ → List Bool
memory_bits m row = words_from (λ j. slice_index row j) m.high 0 (m.last + 1)

-- a memory has words of variables
abbrev pub IsMemoryMade : ℕ → ℕ → Memory → List (List ℕ) → Type 0
IsMemoryMade first next m made = IsMade is_narrow_memory FitsMemory memory_bits AreWords numbers first next m made

-- and so have all
abbrev pub AreMemoriesPut : ℕ → ℕ → List Memory → List (List (List ℕ)) → List (List (List ℕ)) → Type 0
AreMemoriesPut first next ms old new = ArePut memory_place is_narrow_memory FitsMemory memory_bits AreWords numbers [] first next ms old new

-- ---- input ports

-- the ports that go inwards
abbrev pub input_ports : List Port → List Port
input_ports ps = filter (λ (p : Port). not p.output) ps

-- a port has at most 64 bits
abbrev pub is_narrow_port : Port → Type 0
is_narrow_port p = p.high < 64

-- the number fits the port's width
abbrev pub fits_port : Port → ℕ → Type 0
fits_port p x = x < 2 ^ (p.high + 1)

-- the bits of a port with this number
abbrev pub number_bits : Port → ℕ → List Bool
number_bits p x = bits_from x 0 (p.high + 1)

-- input ports, of which the names stand at t, have words of variables
abbrev pub AreInputsPut : (Name → ℕ) → ℕ → ℕ → List Port → List (List ℕ) → List (List ℕ) → Type 0
AreInputsPut t first next ps old new = ArePut (λ (p : Port). t p.name) is_narrow_port fits_port number_bits IsWord word [] first next ps old new

-- an input port, of which the names stand at t, is no wider than the bounds of its place
abbrev pub IsBoundedPort : (Name → ℕ) → Bounds → Port → Type 0
IsBoundedPort t b p = (n : Name) → b.known n ≡ true → b.place n ≡ t p.name → p.high + 1 ≤ b.most n

-- ---- instances

-- variables from first to next make the words of an instance. All other words have no literal
pub record IsLaid (first next : ℕ) (x : Part) (w : Wired) : Type 0 where
  pub code : w.code ≡ x.code
  pub middle : ℕ
  pub registers : AreRegistersPut x.kept.nets first middle x.code.registers (replicate (length x.kept.nets) []) w.wires.nets
  pub memories : AreMemoriesPut middle next x.code.memories (replicate (length x.kept.memories) []) w.wires.memories
  pub short : (b : Bounds) → AllByRecursion (IsBounded b) x.code.registers → IsWithin b (lengths w.wires.nets)

-- an instance behind these variables, and all that follow
pub record IsLaidThen (first : ℕ) (x : Part) (w : Wired) (reset : List ℕ) (more : ℕ → Type 0) : Type 0 where
  pub middle : ℕ
  pub laid : IsLaid first middle x w
  pub at_reset : reset ≡ x.kept.nets
  pub rest : more middle

-- so it is with all instances, in order. Of each the numbers of its nets at reset are known
abbrev pub AreLaid : ℕ → ℕ → List Part → List Wired → List (List ℕ) → Type 0
AreLaid first next [] [] [] = next ≡ first
AreLaid first next (x ∷ xs) (w ∷ ws) (r ∷ rs) = IsLaidThen first x w r (λ middle. AreLaid middle next xs ws rs)
AreLaid first next _ _ _ = ⊥

-- the bits of all instances, in order, each with the numbers of its nets at reset
abbrev pub instance_bits : List (List ℕ) → List Part → List Bool
instance_bits (r ∷ rs) (x ∷ xs) = part_bits r x ++ instance_bits rs xs
instance_bits _ _ = []
