-- A form of AIGER: inputs, latches, outputs and gates over literals; its values in a cycle, and its run.
use Rattle.std.specs.Prelude.{ℕ, zero, suc, ◌+◌, ◌-◌, ◌*◌, ◌/◌, ◌%◌, ◌<◌, ◌≤◌, ◌^◌, ◌==◌, nat_le, Bool, true, false, not, ◌&&◌, List, [], ◌∷◌, map, length, get_or, if◌then◌else◌}
use Rattle.std.specs.List.{AllByRecursion}
use Rattle.aig_model.specs.declared.form.Gate.{Gate}

-- a form: how many inputs, the next literal of each latch, the literal of each output, and the gates. Input i is
-- variable i + 1, and the latches' variables stand behind the inputs', the gates' behind those
pub record Form : Type 0 where
  pub inputs : ℕ
  pub latches : List ℕ
  pub outputs : List ℕ
  pub gates : List Gate

-- the variable of the first gate
abbrev pub first_gate : Form → ℕ
first_gate f = f.inputs + length f.latches + 1

-- the last variable
abbrev pub last_variable : Form → ℕ
last_variable f = f.inputs + length f.latches + length f.gates

-- both literals of a gate are below its own, where the first of these gates is variable k
abbrev pub AreOrdered : ℕ → List Gate → Type 0
AreOrdered k [] = Unit {0}
AreOrdered k (g ∷ gs) = (g.first < 2 * k × g.second < 2 * k) × AreOrdered (k + 1) gs

-- each literal is of a variable or constant, and fits in 64 bits
pub record IsForm (f : Form) : Type 0 where
  pub ordered : AreOrdered (first_gate f) f.gates
  pub latches : AllByRecursion (λ x. x ≤ 2 * last_variable f + 1) f.latches
  pub outputs : AllByRecursion (λ x. x ≤ 2 * last_variable f + 1) f.outputs
  pub fits : 2 * last_variable f + 1 < 2 ^ 64
  pub count : length f.outputs < 2 ^ 64

-- ---- values

-- the other where the test holds
abbrev pub flipped : Bool → Bool → Bool
flipped true b = not b
flipped false b = b

-- 2v is variable v, and 2v+1 its complement
abbrev pub literal : (ℕ → Bool) → ℕ → Bool
literal v x = flipped (x % 2 == 1) (v (x / 2))

-- the values with another for variable k
abbrev pub with_value : (ℕ → Bool) → ℕ → Bool → ℕ → Bool
with_value v k b x = if x == k then b else v x

-- the values with those of these gates, of which the first is variable k
abbrev pub with_gates : (ℕ → Bool) → ℕ → List Gate → ℕ → Bool
with_gates v k [] = v
with_gates v k (g ∷ gs) = with_gates (with_value v k (literal v g.first && literal v g.second)) (k + 1) gs

-- the values of the inputs and the latches. There is no variable 0: its literals are false and true
abbrev pub given : Form → (ℕ → Bool) → (ℕ → Bool) → ℕ → Bool
given f input state x =
    if x == 0 then false else if nat_le x f.inputs then input (x - 1) else state (x - f.inputs - 1)

-- the values of all variables in a cycle
abbrev pub values : Form → (ℕ → Bool) → (ℕ → Bool) → ℕ → Bool
values f input state = with_gates (given f input state) (first_gate f) f.gates

-- ---- a run

-- latch j after an edge
abbrev pub next_state : Form → (ℕ → Bool) → ℕ → Bool
next_state f v j = literal v (get_or f.latches j 0)

-- the latches after t edges, from all 0 on
unfoldable pub states : Form → (ℕ → ℕ → Bool) → ℕ → ℕ → Bool
states f inputs zero = λ j. false
states f inputs (suc t) = next_state f (values f (inputs t) (states f inputs t))

-- the outputs in cycle t
abbrev pub form_outputs : Form → (ℕ → ℕ → Bool) → ℕ → List Bool
form_outputs f inputs t = map (literal (values f (inputs t) (states f inputs t))) f.outputs

-- ---- words

-- 1 if it holds, else 0
abbrev pub one_if_true : Bool → ℕ
one_if_true true = 1
one_if_true false = 0

-- the number that these literals stand for, from bit 0 up
abbrev pub word : (ℕ → Bool) → List ℕ → ℕ
word v [] = 0
word v (x ∷ xs) = one_if_true (literal v x) + 2 * word v xs
