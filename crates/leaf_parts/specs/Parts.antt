-- Parts of groups that have a function of their own.
use Rattle.std.specs.Prelude.{ℕ, ◌+◌, ◌-◌, List, [], ◌∷◌, ◌++◌, ◌==◌, if◌then◌else◌}
use Rattle.vl_tree.specs.declared.tree.Op.TheVariants.{Add, Sub, And, Or, Equal}
use Rattle.vl_tree.specs.Values.{Name, Expr, net, bit, not, two, choose, cat, Item, reg, clocked}
use Rattle.noc_model.specs.Plan.{Plan, link_channels, ports}
use Rattle.gen_kit.specs.Families.{in_bits, defined, row_parts}
use Rattle.gen_kit.specs.Rotate.{pointer_moves, is_empty}
use Rattle.leaf_tie.specs.Alloc.{out_count, taken_channels}
use Rattle.leaf_tie.specs.Glue.{high, switch_size}
use Rattle.leaf_tie.specs.Links.{LinkNames}
use Rattle.leaf_tie.specs.Names.{own, row_tag, net_names, leaf_names, alloc_names, switch_rotate, turn_rotate}
use Rattle.leaf_tie.specs.Switch.{place_count, port_part}
use Rattle.leaf_tie.specs.Tie.{alloc_size}

-- ---- counters

-- how many credits there are after an edge where one comes back: a flit that goes out takes one
abbrev pub more_credits : Name → Expr → ℕ → Expr
more_credits count on h = choose on (net count) (two Add (net count) (in_bits (h + 1) 1))

-- and where none comes back
abbrev pub fewer_credits : Name → Expr → ℕ → Expr
fewer_credits count on h = choose on (two Sub (net count) (in_bits (h + 1) 1)) (net count)

-- whether a counter names slot k, where the slot's owner is the domain, or what the rest says
abbrev pub owned_from : Name → ℕ → ℕ → ℕ → ℕ → Expr → Expr
owned_from count h k owner e rest = if owner == e then two Or (two Equal (net count) (in_bits (h + 1) k)) rest else rest

-- ---- a link

-- the names of the link by an output whose slot counter begins at slot k
abbrev pub names_of_link : ℕ → ℕ → LinkNames
names_of_link o k = record {
  owns = (leaf_names.slot k).owns;
  word = λ e. net_names.word e o;
  row = leaf_names.row o;
}

-- the register of a place
abbrev pub row_heads : ℕ → ℕ → ℕ → List Item
row_heads out high i = reg high (own (row_tag out) i) ∷ []

-- a place takes what the place before it has
abbrev pub row_moves : ℕ → ℕ → ℕ → List Item
row_moves out high i = clocked (own (row_tag out) (i + 1)) (record { width = high + 1; value = 0 }) (net (own
    (row_tag out) i)) ∷ []

-- ---- an output's allocation

-- the register of the places that are active on channel w
abbrev pub active_heads : Plan → ℕ → ℕ → ℕ → List Item
active_heads p d o w = reg (high p d) ((alloc_names d o).active w) ∷ []

-- the channel of class k that is taken
abbrev pub taken_net : ℕ → ℕ → ℕ → Expr
taken_net d o k = net ((alloc_names d o).taken k)

-- whether a place wins the output's one channel
abbrev pub some_winner : Plan → ℕ → ℕ → Expr
some_winner p d o = not (is_empty (high p d) (net (alloc_names d o).choice.winner))

-- the places that wait, and the channels that are held
abbrev pub own_moves : Plan → ℕ → ℕ → List Item
own_moves p d o =
    clocked (alloc_names d o).waiting (record { width = high p d + 1; value = 0 }) (two Or (two And (net
    (alloc_names d o).waiting) (not (net (alloc_names d o).choice.winner))) (net (alloc_names d o).led))
    ∷ clocked (alloc_names d o).held (record { width = out_count (alloc_size p d o); value = 0 }) (two Or (two And (net
    (alloc_names d o).held) (not (net (alloc_names d o).freed))) (taken_channels (alloc_names d o) (alloc_size p d o)))
    ∷ []

-- ---- a domain's switch

-- the pointers of the outputs, and of the input ports
abbrev pub choice_heads : Plan → ℕ → ℕ → List Item
choice_heads p d o = reg (ports p - 1) (switch_rotate d o).pointer ∷ []

-- the pointer of an input port
abbrev pub turn_heads : Plan → ℕ → ℕ → List Item
turn_heads p d port = reg (link_channels p d - 1) (turn_rotate d port).pointer ∷ []

-- and what moves them
abbrev pub choice_moves : Plan → ℕ → ℕ → List Item
choice_moves p d o = pointer_moves (switch_rotate d o).pointer (switch_rotate d o).winner (ports p - 1)

-- and what moves the pointer of an input port
abbrev pub turn_moves : Plan → ℕ → ℕ → List Item
turn_moves p d port = pointer_moves (turn_rotate d port).pointer (net_names.granted d port) (link_channels p d - 1)

-- the ready places of an output, and the winner of a port's turn
abbrev pub ready_net : ℕ → ℕ → Expr
ready_net d o = net (net_names.ready d o)

-- the winner of a port's turn
abbrev pub turn_winner : ℕ → ℕ → Expr
turn_winner d port = net (turn_rotate d port).winner

-- what is granted to a port
abbrev pub granted_net : ℕ → ℕ → Expr
granted_net d port = net (net_names.granted d port)

-- whether a port asks for the output
abbrev pub some_asks : Plan → ℕ → ℕ → ℕ → Expr
some_asks p d o port = not (is_empty (link_channels p d - 1) (port_part (switch_size p d) (net_names.asks d o) port))

-- whether an output's choice is the port
abbrev pub wins_port : ℕ → ℕ → ℕ → Expr
wins_port d port o = bit (switch_rotate d o).winner port

-- the places that an output is asked by, and the ports
abbrev pub asks_nets : Plan → ℕ → ℕ → List Item
asks_nets p d o = defined (place_count (switch_size p d) - 1) (net_names.asks d o) (two And (net (net_names.picked d))
    (net (net_names.ready d o)))
    ++ defined (ports p - 1) (switch_rotate d o).request (cat (row_parts (some_asks p d o) (ports p - 1)))
