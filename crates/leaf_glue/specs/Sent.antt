-- Families of expressions that a domain's nets are joined of.
use Rattle.std.specs.Prelude.{ℕ, ◌+◌, [], ◌∷◌}
use Rattle.vl_tree.specs.Values.{Expr, net, bit, part, choose, cat, no_parts, parts}
use Rattle.flit_word.specs.Words.{dest_bits, channel_bits}
use Rattle.gen_kit.specs.Families.{in_bits}
use Rattle.gen_kit.specs.Mux.{gated_words}
use Rattle.noc_model.specs.Plan.{Plan}
use Rattle.leaf_tie.specs.Glue.{high, able, some_active, port_flit, leaves_place}
use Rattle.leaf_tie.specs.Names.{leaf_names, net_names, port_names, leaf_sizes}

-- the places that are active on a channel for which the output takes a flit
abbrev pub able_place : Plan → ℕ → ℕ → ℕ → ℕ → Expr
able_place p n d o k = choose (able p n leaf_names (port_names n) (leaf_sizes p) d o k) (net ((leaf_names.alloc d
    o).active k)) (in_bits (high p d + 1) 0)

-- whether the last flit of a packet goes by a channel
abbrev pub ends_at_channel : Plan → ℕ → ℕ → ℕ → Expr
ends_at_channel p d o k = some_active p leaf_names d o (net_names.ends d) k

-- the flit at the front of a channel, where it leaves
abbrev pub gated_front : Plan → ℕ → ℕ → ℕ → Expr
gated_front p d port c = gated_words (34 + dest_bits p) (leaves_place p net_names d port)
    (λ k. part (leaf_names.buffer d port k).front (33 + dest_bits p) 0) c

-- the flit of an input port, where the output's choice is the port
abbrev pub gated_port : Plan → ℕ → ℕ → ℕ → ℕ → Expr
gated_port p n d o port = gated_words (34 + dest_bits p) (λ k. bit (leaf_names.switch d o).winner k)
    (port_flit p n net_names (dest_bits p) d) port

-- a channel's number, where a flit goes by the channel
abbrev pub gated_channel : Plan → ℕ → ℕ → ℕ → Expr
gated_channel p d o k = gated_words (channel_bits p) (λ c. net (net_names.on d o c)) (in_bits (channel_bits p)) k

-- whether a flit goes by channel k of output o
abbrev pub on_net : ℕ → ℕ → ℕ → Expr
on_net d o k = net (net_names.on d o k)

-- what the ejection place has of a flit: a bit 1, head, tail, payload
abbrev pub ejected_word : Plan → ℕ → Expr
ejected_word p d = cat (parts (in_bits 1 1) (parts (part (net_names.eject d) (33 + dest_bits p) (32 + dest_bits p))
    (parts (part (net_names.eject d) 31 0) no_parts)))
