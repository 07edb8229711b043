-- Marks of the variables that outputs and latches depend on, and the new numbers of those.
use Rattle.std.specs.Prelude.{ℕ, zero, suc, ◌+◌, ◌*◌, ◌/◌, ◌%◌, ◌==◌, ◌||◌, nat_lt, Bool, true, false, List, [], ◌∷◌}
use Rattle.std.specs.List.{list_any}
use Rattle.aig_model.specs.declared.form.Gate.{Gate}
use Rattle.aig_model.specs.Form.{Form, first_gate, with_value, one_if_true}

-- whether a literal is of the variable
abbrev pub is_of : ℕ → ℕ → Bool
is_of x l = l / 2 == x

-- the marks with those of the variables that a gate reads, if it is marked
abbrev pub with_gate : Bool → Gate → (ℕ → Bool) → ℕ → Bool
with_gate true g m = with_value (with_value m (g.first / 2) true) (g.second / 2) true
with_gate false g m = m

-- the marks with those of the variables that marked gates read, from the last gate down. The first is variable k
abbrev pub with_reads : (ℕ → Bool) → ℕ → List Gate → ℕ → Bool
with_reads m k [] = m
with_reads m k (g ∷ gs) = with_gate (with_reads m (k + 1) gs k) g (with_reads m (k + 1) gs)

-- whether a variable stands before the gates, or an output or a latch reads it
abbrev pub begins : Form → ℕ → Bool
begins f x = nat_lt x (first_gate f) || list_any (is_of x) f.outputs || list_any (is_of x) f.latches

-- whether a variable stands before the gates, or outputs and latches depend on it
abbrev pub needs : Form → ℕ → Bool
needs f = with_reads (begins f) (first_gate f) f.gates

-- how many marked variables stand before this one
abbrev pub place : (ℕ → Bool) → ℕ → ℕ
place m zero = 0
place m (suc x) = place m x + one_if_true (m x)

-- a literal of its variable's new number
abbrev pub moved : (ℕ → ℕ) → ℕ → ℕ
moved p l = 2 * p (l / 2) + l % 2

-- a gate of new numbers
abbrev pub moved_gate : (ℕ → ℕ) → Gate → Gate
moved_gate p g = record { first = moved p g.first; second = moved p g.second }

-- a gate before the others, if it is marked
abbrev pub kept_one : Bool → Gate → List Gate → List Gate
kept_one true g gs = g ∷ gs
kept_one false g gs = gs

-- the marked gates, of new numbers. The first of all is variable k
abbrev pub kept : (ℕ → Bool) → (ℕ → ℕ) → ℕ → List Gate → List Gate
kept m p k [] = []
kept m p k (g ∷ gs) = kept_one (m k) (moved_gate p g) (kept m p (k + 1) gs)
