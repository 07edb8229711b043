-- The items of a buffer among a leaf's, and the word that an arriving link stores.
use Rattle.std.specs.Prelude.{ℕ, ◌+◌, ◌*◌, List, [], ◌∷◌}
use Rattle.vl_tree.specs.Values.{Name, Expr, part, cat, no_parts, parts, Item, wire, assign}
use Rattle.flit_word.specs.Words.{dest_bits}
use Rattle.gen_buffer.specs.Fifo.{fifo_items}
use Rattle.noc_model.specs.Plan.{Plan, at_local}
use Rattle.leaf_tie.specs.Glue.{pop_of, route_bits}
use Rattle.leaf_tie.specs.Names.{own, net_tag, buffer_names, net_names, port_names, leaf_sizes}

-- a net that pushes or pops a buffer
abbrev pub mover_name : ℕ → ℕ → ℕ → Name
mover_name d port k = own (net_tag d (at_local port 13 10) port) k

-- the buffer, and behind two wires
abbrev pub its_buffer : Plan → ℕ → ℕ → ℕ → List Item
its_buffer p d port c = fifo_items (buffer_names d port c) (leaf_sizes p).bh (leaf_sizes p).lh (leaf_sizes p).wh

-- the buffer with its two wires: what pushes it, and whether a flit leaves it
abbrev pub buffer_heads : Plan → ℕ → ℕ → ℕ → List Item
buffer_heads p d port c = wire 0 (buffer_names d port c).push ∷ wire 0 (buffer_names d port c).pop
    ∷ its_buffer p d port c

-- what pushes it, and whether a flit leaves it
abbrev pub buffer_nets : Plan → ℕ → ℕ → ℕ → Expr → List Item
buffer_nets p d port c push = assign (buffer_names d port c).push push
    ∷ assign (buffer_names d port c).pop (pop_of p net_names d port c) ∷ []

-- the route bits of an arriving flit, and the flit
abbrev pub stored_word : Plan → ℕ → ℕ → Expr
stored_word p n port = cat (parts (route_bits p n (net_names.goal port) (dest_bits p)) (parts (part
    ((port_names n).link_in port) (33 + dest_bits p) 0) no_parts))
