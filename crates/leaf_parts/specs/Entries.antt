-- The attachment of a domain at a tile, under the leaf's names.
use Rattle.std.specs.Prelude.{ℕ, ◌+◌, ◌-◌, ◌^◌, Bool, List, [], ◌∷◌, ◌++◌, filter}
use Rattle.vl_tree.specs.declared.tree.Op.TheVariants.{And, Or, Equal, Less}
use Rattle.vl_tree.specs.Values.{Expr, net, bit, part, not, two, choose, Item, wire, reg, assign, clocked}
use Rattle.flit_word.specs.Words.{dest_bits}
use Rattle.gen_kit.specs.Families.{in_bits, defined}
use Rattle.gen_kit.specs.Groups.{Group}
use Rattle.noc_model.specs.declared.Range.{Range}
use Rattle.noc_model.specs.Plan.{Plan, hosts}
use Rattle.leaf_tie.specs.Attach.{AttachNames, AttachSize, attach_group, look_nets, looked, in_range, room_expr, next_channel, entry_word}
use Rattle.leaf_tie.specs.Glue.{attach_names, attach_size}
use Rattle.leaf_tie.specs.Names.{leaf_names, net_names, port_names, leaf_sizes}

-- the names of the attachment's nets and registers
abbrev pub its_names : ℕ → AttachNames
its_names d = attach_names leaf_names net_names d

-- the widths of its nets
abbrev pub its_size : Plan → ℕ → AttachSize
its_size p d = attach_size p (leaf_sizes p) (dest_bits p) d

-- the group of the attachment
abbrev pub entry_group : Plan → ℕ → ℕ → Group
entry_group p n d = attach_group p n d (its_names d) (port_names n) (its_size p d)

-- whether the tile of a range hosts the domain
abbrev pub is_reached : Plan → ℕ → Range → Bool
is_reached p d r = hosts p r.tile d

-- the nets of some of the ranges
abbrev pub range_nets : Plan → ℕ → ℕ → List Range → List Item
range_nets p n d rs = look_nets ((port_names n).address d) (its_names d).look (dest_bits p) (filter (is_reached p d) rs)

-- whether channel c is the current one, and its buffer has room
abbrev pub has_room : Plan → ℕ → ℕ → Expr
has_room p d c = two And (two Equal (net (its_names d).current) (in_bits ((its_size p d).ch + 1) c))
    (two Less (net ((its_names d).count c)) (in_bits ((its_size p d).lh + 1) p.buffer))

-- what an address finds among a range and k behind it
abbrev pub range_choice : Plan → ℕ → ℕ → Range → ℕ → Expr
range_choice p n d r k = choose (in_range ((port_names n).address d) r) (in_bits (dest_bits p + 1)
    (2 ^ dest_bits p + r.tile)) (looked (its_names d).look (dest_bits p) k)

-- the net of it
abbrev pub look_net : Plan → ℕ → ℕ → Range → ℕ → List Item
look_net p n d r k = defined (dest_bits p) ((its_names d).look (k + 1)) (range_choice p n d r k)

-- what an address finds among all ranges, of which k are there
abbrev pub found_net : Plan → ℕ → ℕ → List Item
found_net p d k = defined (dest_bits p) (its_names d).found (looked (its_names d).look (dest_bits p) k)

-- whether a word is taken
abbrev pub taken_net : Plan → ℕ → ℕ → List Item
taken_net p n d = defined 0 (its_names d).taken (two And (net ((port_names n).offered d)) (two Or (net
    (its_names d).dropping) (room_expr p d (its_names d) (its_size p d))))

-- whether its packet goes to a tile
abbrev pub goes_net : Plan → ℕ → List Item
goes_net p d = defined 0 (its_names d).goes (two Or (net (its_names d).passing) (two And (not (net
    (its_names d).dropping)) (bit (its_names d).found (dest_bits p))))

-- the tile that it goes to
abbrev pub to_net : Plan → ℕ → List Item
to_net p d = defined (dest_bits p - 1) (its_names d).to (choose (net (its_names d).passing) (net (its_names d).dest)
    (part (its_names d).found (dest_bits p - 1) 0))

-- whether a flit enters, and the word that is stored
abbrev pub enters_nets : Plan → ℕ → ℕ → List Item
enters_nets p n d = defined 0 (its_names d).enters (two And (net (its_names d).taken) (net (its_names d).goes))
    ++ (assign (its_names d).word (entry_word p n (its_names d) ((port_names n).last d) ((port_names n).payload d)
    (dest_bits p)) ∷ [])

-- what it declares
abbrev pub packet_heads : Plan → ℕ → List Item
packet_heads p d = reg 0 (its_names d).passing ∷ reg 0 (its_names d).dropping
    ∷ reg (dest_bits p - 1) (its_names d).dest ∷ []

-- its channel that fills, whether a word was dropped, the word that enters
abbrev pub entry_heads : Plan → ℕ → List Item
entry_heads p d = reg (its_size p d).ch (its_names d).current ∷ reg 0 (its_names d).dropped
    ∷ wire (its_size p d).wh (its_names d).word ∷ []

-- what moves its registers
abbrev pub passing_move : ℕ → ℕ → List Item
passing_move n d = clocked (its_names d).passing (record { width = 1; value = 0 }) (choose (net (its_names d).taken)
    (two And (not (net ((port_names n).last d))) (net (its_names d).goes)) (net (its_names d).passing)) ∷ []

-- a packet without a range is dropped up to its last word
abbrev pub dropping_move : ℕ → ℕ → List Item
dropping_move n d = clocked (its_names d).dropping (record { width = 1; value = 0 }) (choose (net (its_names d).taken)
    (two And (not (net ((port_names n).last d))) (not (net (its_names d).goes))) (net (its_names d).dropping)) ∷ []

-- the destination of a packet's first word is kept
abbrev pub dest_move : Plan → ℕ → List Item
dest_move p d = clocked (its_names d).dest (record { width = dest_bits p; value = 0 })
    (choose (net (its_names d).taken) (net (its_names d).to) (net (its_names d).dest)) ∷ []

-- behind a packet's last word the next channel fills
abbrev pub current_move : Plan → ℕ → ℕ → List Item
current_move p n d = clocked (its_names d).current (record { width = (its_size p d).ch + 1; value = 0 })
    (choose (two And (net (its_names d).enters) (net ((port_names n).last d))) (next_channel p d (its_names d)
    (its_size p d)) (net (its_names d).current)) ∷ []

-- a dropped word gives a pulse in the next cycle
abbrev pub drop_move : ℕ → List Item
drop_move d = clocked (its_names d).dropped (record { width = 1; value = 0 }) (two And (net (its_names d).taken)
    (not (net (its_names d).goes))) ∷ []
