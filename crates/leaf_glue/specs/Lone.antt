-- The switch of a domain with one channel at each port, output by output.
use Rattle.std.specs.Prelude.{ℕ, ◌-◌, List}
use Rattle.vl_tree.specs.Values.{Expr, Item}
use Rattle.noc_model.specs.Plan.{Plan, ports}
use Rattle.leaf_tie.specs.Glue.{switch_names, has_port}
use Rattle.leaf_tie.specs.Names.{leaf_names, net_names}
use Rattle.leaf_tie.specs.Switch.{SwitchNames, lone_heads, lone_nets, lone_moves, chosen_place}

-- the names of the domain's switch
abbrev pub its_switch : ℕ → SwitchNames
its_switch d = switch_names leaf_names net_names d

-- what an output has, where it is there: its pointer, its choice, and what moves the pointer
abbrev pub output_heads : Plan → ℕ → ℕ → ℕ → List Item
output_heads p n d o = lone_heads (its_switch d) (ports p - 1) (has_port p n d) o

-- what it chooses
abbrev pub output_nets : Plan → ℕ → ℕ → ℕ → List Item
output_nets p n d o = lone_nets (its_switch d) (ports p - 1) (has_port p n d) o

-- what moves its pointer
abbrev pub output_moves : Plan → ℕ → ℕ → ℕ → List Item
output_moves p n d o = lone_moves (its_switch d) (ports p - 1) (has_port p n d) o

-- the place that an output chose, where it is there
abbrev pub output_place : Plan → ℕ → ℕ → ℕ → Expr
output_place p n d o = chosen_place (its_switch d) (ports p - 1) (has_port p n d) o
