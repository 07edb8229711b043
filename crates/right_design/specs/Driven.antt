-- The run of a text that a driver drives, cycle by cycle.
use Rattle.std.specs.Prelude.{ℕ, zero, suc, List}
use Rattle.vl_tree.specs.Values.{Name, Design}
use Rattle.vl_model.specs.Whole.{Nets}
use Rattle.noc_model.specs.Plan.{Plan}
use Rattle.noc_model.specs.Driver.{Driver}
use Rattle.gen_kit.specs.Replayed.{Going, at_start, going_next, nets_in, driven_inputs}

-- what a driven text keeps in cycle t, from reset and memories of 0
abbrev pub going_at : Plan → Design → Driver → (ℕ → List ℕ) → ℕ → Going
going_at p d v states zero = at_start d states
going_at p d v states (suc t) = going_next p d v t (going_at p d v states t)

-- its nets, and the numbers that the driver puts on the input ports
abbrev pub driven_nets : Plan → Design → Driver → (ℕ → List ℕ) → ℕ → Nets
driven_nets p d v states t = nets_in p d v t (going_at p d v states t)

-- the numbers that the driver puts on the input ports in cycle t
abbrev pub inputs_at : Plan → Design → Driver → (ℕ → List ℕ) → ℕ → Name → ℕ
inputs_at p d v states t = driven_inputs v t (going_at p d v states t).states 0 p.hosts
