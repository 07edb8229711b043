-- The walk from reset through the phases, round by round: each phase joins what the one before hands over to what it
-- had.
use Rattle.std.specs.Prelude.{ℕ, zero, suc, ◌-◌}
use Rattle.vl_tree.specs.Values.{Name, Design}
use Rattle.label_model.specs.Labels.{join, Labels}
use Rattle.label_model.specs.Phase.{next_labels, first_labels}

-- the labels of both, bit by bit
abbrev pub join_all : Labels → Labels → Labels
join_all l m = record { net = λ n i. join (l.net n i) (m.net n i); word = λ n i. join (l.word n i) (m.word n i) }

-- in the first round each phase has what the one before hands over
abbrev pub first_round : Design → (Name → ℕ) → ℕ → Name → Labels
first_round d owner zero = first_labels d
first_round d owner (suc f) = next_labels d owner (first_round d owner f)

-- in each later one that is joined to what it had. The last of L phases hands over to the first
abbrev pub next_round : Design → (Name → ℕ) → ℕ → (ℕ → Name → Labels) → ℕ → Name → Labels
next_round d owner L old zero n = join_all (old 0 n) (next_labels d owner (old (L - 1)) n)
next_round d owner L old (suc f) n = join_all (old (suc f) n) (next_labels d owner (next_round d owner L old f) n)

-- the registers and memories of each phase after k more rounds than the first
abbrev pub rounds : Design → (Name → ℕ) → ℕ → ℕ → ℕ → Name → Labels
rounds d owner L zero = first_round d owner
rounds d owner L (suc k) = next_round d owner L (rounds d owner L k)
