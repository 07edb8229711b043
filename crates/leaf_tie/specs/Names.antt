-- The names of a tile's leaf, its sizes, its groups, and the leaf. A name of its own has a tag and a number. Tags rise
-- in the order in which the text drives the names: the buffers, then the nets, then the registers. `OwnNames` of
-- `gen_kit` says how tags are spelled.
use Rattle.std.specs.Prelude.{ℕ, zero, suc, ◌+◌, ◌-◌, ◌*◌, nat_lt, nat_le, min, List, [], ◌∷◌, ◌++◌, length, is_some, if◌then◌else◌, codes}
use Rattle.vl_tree.specs.Values.{Name, Leaf}
use Rattle.noc_model.specs.Plan.{Plan, link_channels, ports, at_local, hosts}
use Rattle.noc_model.specs.Place.{neighbour}
use Rattle.flit_word.specs.Words.{bits, dest_bits, channel_bits, flit_bits}
use Rattle.gen_kit.specs.Groups.{Group, all_items}
use Rattle.gen_kit.specs.Ports.{name_with}
use Rattle.gen_kit.specs.Rotate.{RotateNames}
use Rattle.gen_kit.specs.Shape.{credit_bits, tile_head}
use Rattle.gen_kit.specs.OwnNames.{own_name_of}
use Rattle.gen_kit.specs.Work.{leaf_name}
use Rattle.gen_buffer.specs.Fifo.{FifoNames}
use Rattle.gen_buffer.specs.Sizes.{index_high, count_high}
use Rattle.leaf_tie.specs.Alloc.{AllocNames}
use Rattle.leaf_tie.specs.Buffers.{BufferSize}
use Rattle.leaf_tie.specs.Glue.{NetNames}
use Rattle.leaf_tie.specs.Outs.{OutNames, link_out_group, local_out_group, credit_out_group}
use Rattle.leaf_tie.specs.Slots.{SlotNames}
use Rattle.leaf_tie.specs.Tie.{LeafNames, PortNames}
use Rattle.leaf_tie.specs.Whole.{each_group, leaf_groups}

-- ---- names of its own

-- a name of its own, by its tag and its number
abbrev pub own : ℕ → ℕ → Name
own tag i = own_name_of tag (i ∷ [])

-- the tag of the buffer of a domain's input channel: a domain's local ones come last
abbrev pub buffer_tag : ℕ → ℕ → ℕ → ℕ
buffer_tag d port c = 64 * d + 8 * at_local port 7 port + c

-- the tag of the slot counter's nets, by the slot's number in cycle 0
abbrev pub owns_tag : ℕ → ℕ
owns_tag k = 1024 + k

-- the tag of an arriving link's nets
abbrev pub arrival_tag : ℕ → ℕ
arrival_tag port = 1536 + port

-- the tag of a domain's nets, by the stage in which they are assigned, and the port
abbrev pub net_tag : ℕ → ℕ → ℕ → ℕ
net_tag d stage port = 2048 + 128 * d + 8 * stage + port

-- the tag of a slot counter
abbrev pub slot_tag : ℕ → ℕ
slot_tag k = 4096 + k

-- the tag of the registers of a leaving link
abbrev pub row_tag : ℕ → ℕ
row_tag o = 4608 + o

-- the tag of a domain's registers, by the stage in which they move, and the port
abbrev pub register_tag : ℕ → ℕ → ℕ → ℕ
register_tag d stage port = 5120 + 64 * d + 8 * stage + port

-- ---- nets: stage 0 before the switch, 1 allocation, 2 to 7 the switch, 8 flits, 9 links, 10 buffers filled from
-- links, 11 and 12 the attachment, 13 buffers that it fills

-- the names of a leaf's nets
abbrev pub net_names : NetNames
net_names = record {
  filled = λ d. own (net_tag d 0 0) 0;
  tails = λ d. own (net_tag d 0 0) 1;
  ends = λ d. own (net_tag d 7 0) 1;
  all = λ d. own (net_tag d 2 0) 0;
  picked = λ d. own (net_tag d 4 0) 0;
  leaves = λ d. own (net_tag d 7 0) 0;
  ready = λ d o. own (net_tag d 1 o) 10;
  asks = λ d o. own (net_tag d 5 o) 0;
  word = λ d o. own (net_tag d 9 o) 8;
  granted = λ d port. own (net_tag d 6 port) 0;
  flit = λ d port. own (net_tag d 8 port) 1;
  look = λ d k. own (net_tag d 11 0) (1 + k);
  found = λ d. own (net_tag d 12 0) 0;
  taken = λ d. own (net_tag d 12 0) 1;
  goes = λ d. own (net_tag d 12 0) 2;
  to = λ d. own (net_tag d 12 0) 3;
  enters = λ d. own (net_tag d 12 0) 4;
  local = λ d. own (net_tag d 12 0) 5;
  eject = λ d. own (net_tag d 11 0) 1;
  goal = λ port. own (arrival_tag port) 0;
  stored = λ port. own (arrival_tag port) 1;
  on = λ d o x. own (net_tag d (at_local o 11 9) o) x;
}

-- ---- registers: stage 0 allocation, 1 and 2 the switch, 3 idle places, 4 credits and pulses, 5 the attachment

-- the counter of a slot, and whether domain e owns it
abbrev pub slot_names : ℕ → SlotNames
slot_names k = record { count = own (slot_tag k) 0; owns = λ e. own (owns_tag k) e }

-- the allocator of a domain at an output
abbrev pub alloc_names : ℕ → ℕ → AllocNames
alloc_names d o = record {
  waiting = own (register_tag d 0 o) 0;
  held = own (register_tag d 0 o) 1;
  active = λ w. own (register_tag d 0 o) (3 + w);
  free = λ k. own (net_tag d 1 o) (1 + 2 * k);
  least = λ k. own (net_tag d 1 o) (2 + 2 * k);
  taken = λ k. own (net_tag d 1 o) (8 + k);
  choice = record {
    request = own (net_tag d 1 o) 5;
    pointer = own (register_tag d 0 o) 2;
    some = own (net_tag d 1 o) 6;
    winner = own (net_tag d 1 o) 7;
  };
  led = own (net_tag d 1 o) 0;
  ends = net_names.ends d;
  freed = own (net_tag d 8 o) 0;
}

-- the round-robin choice of an output
abbrev pub switch_rotate : ℕ → ℕ → RotateNames
switch_rotate d o = record {
  request = own (net_tag d 5 o) 1;
  pointer = own (register_tag d 1 o) 0;
  some = own (net_tag d 5 o) 2;
  winner = own (net_tag d 5 o) 3;
}

-- the round-robin choice of an input port
abbrev pub turn_rotate : ℕ → ℕ → RotateNames
turn_rotate d port = record {
  request = own (net_tag d 3 port) 0;
  pointer = own (register_tag d 2 port) 0;
  some = own (net_tag d 3 port) 1;
  winner = own (net_tag d 3 port) 2;
}

-- the buffer's own names are those of a `BufferSpec` with its tag
abbrev pub buffer_names : ℕ → ℕ → ℕ → FifoNames
buffer_names d port c = record {
  memory = own (buffer_tag d port c) 0;
  read = own (buffer_tag d port c) 1;
  write = own (buffer_tag d port c) 2;
  count = own (buffer_tag d port c) 3;
  front = own (buffer_tag d port c) 4;
  empty = own (buffer_tag d port c) 5;
  push = own (net_tag d (at_local port 13 10) port) (2 * c);
  word = at_local port (net_names.local d) (net_names.stored port);
  pop = own (net_tag d (at_local port 13 10) port) (2 * c + 1);
}

-- the names of a leaf's registers
abbrev pub leaf_names : LeafNames
leaf_names = record {
  slot = slot_names;
  row = λ o i. own (row_tag o) i;
  alloc = alloc_names;
  switch = switch_rotate;
  credits = λ d o x. own (register_tag d 4 o) x;
  turn = turn_rotate;
  pulse = λ d port. own (register_tag d 4 port) 8;
  buffer = buffer_names;
  idle = λ d. own (register_tag d 3 0) 0;
  passing = λ d. own (register_tag d 5 0) 1;
  dropping = λ d. own (register_tag d 5 0) 2;
  dest = λ d. own (register_tag d 5 0) 3;
  current = λ d. own (register_tag d 5 0) 4;
  dropped = λ d. own (register_tag d 5 0) 5;
  ejected = λ d. own (register_tag d 5 0) 0;
}

-- ---- ports

-- the bundle of credits in which a credit number stands: 64 in the first
abbrev pub bundle_name : List ℕ → ℕ → ℕ → ℕ → Name
bundle_name head n o r = if nat_lt r 64 then name_with head (n ∷ o ∷ []) else name_with head (n ∷ o ∷ 1 ∷ [])

-- the input ports of tile n
abbrev pub port_names : ℕ → PortNames
port_names n = record {
  link_in = λ port. name_with (codes "li") (n ∷ port ∷ []);
  credit_in = bundle_name (codes "ci") n;
  credit_bit = λ r. if nat_lt r 64 then r else r - 64;
  offered = λ d. name_with (codes "ov") (n ∷ d ∷ []);
  address = λ d. name_with (codes "oa") (n ∷ d ∷ []);
  payload = λ d. name_with (codes "op") (n ∷ d ∷ []);
  last = λ d. name_with (codes "ol") (n ∷ d ∷ []);
  hears = λ d. name_with (codes "hr") (n ∷ d ∷ []);
}

-- its output ports, but for credits
abbrev pub out_names : ℕ → OutNames
out_names n = record {
  link_out = λ o. name_with (codes "lo") (n ∷ o ∷ []);
  valid = λ d. name_with (codes "ev") (n ∷ d ∷ []);
  head = λ d. name_with (codes "eh") (n ∷ d ∷ []);
  tail = λ d. name_with (codes "et") (n ∷ d ∷ []);
  payload = λ d. name_with (codes "ep") (n ∷ d ∷ []);
  drop = λ d. name_with (codes "dr") (n ∷ d ∷ []);
  ready = λ d. name_with (codes "rd") (n ∷ d ∷ []);
}

-- ---- credits

-- the number of a domain's first credit: the channels on a link of the domains before it
abbrev pub credit_base : Plan → ℕ → ℕ
credit_base p zero = 0
credit_base p (suc d) = credit_base p d + link_channels p d

-- the last domain below k whose first credit is not behind credit r
abbrev pub credit_domain_below : Plan → ℕ → ℕ → ℕ
credit_domain_below p zero r = 0
credit_domain_below p (suc k) r = if nat_le (credit_base p k) r then k else credit_domain_below p k r

-- the domain of a credit number
abbrev pub credit_domain : Plan → ℕ → ℕ
credit_domain p r = credit_domain_below p (length p.domains) r

-- its channel among the domain's credits
abbrev pub credit_channel : Plan → ℕ → ℕ
credit_channel p r = r - credit_base p (credit_domain p r)

-- ---- sizes

-- one less than the bits of a buffer's pointers, of its length, and of its words: a bit for each port, and a flit
abbrev pub leaf_sizes : Plan → BufferSize
leaf_sizes p = record {
  bh = index_high p.buffer;
  lh = count_high p.buffer;
  wh = ports p + 33 + dest_bits p;
}

-- one less than the bits of a slot counter
abbrev pub slot_high : Plan → ℕ
slot_high p = bits (length p.slots) - 1

-- ---- groups

-- all groups but those of the output ports
abbrev pub inner_groups : Plan → ℕ → List Group
inner_groups p n = leaf_groups p n leaf_names net_names (port_names n) (credit_base p) (leaf_sizes p) (slot_high p)
    (dest_bits p) (flit_bits p) (channel_bits p)

-- a bundle of credits that goes out by a port: so many from the first on
abbrev pub credit_bundle : Plan → ℕ → ℕ → ℕ → ℕ → Group
credit_bundle p n o first count = credit_out_group leaf_names (bundle_name (codes "co") n o first) o first count
    (credit_domain p) (credit_channel p)

-- what goes out by a link: its word, and one or two bundles of credits
abbrev pub link_outs : Plan → ℕ → ℕ → List Group
link_outs p n o =
    link_out_group p leaf_names (out_names n) o ∷ credit_bundle p n o 0 (min (credit_bits p) 64)
    ∷ (if nat_lt 64 (credit_bits p) then credit_bundle p n o 64 (credit_bits p - 64) ∷ [] else [])

-- the groups of the output ports: those of links, then those of attachments
abbrev pub out_groups : Plan → ℕ → List Group
out_groups p n = each_group (ports p) (λ o. if is_some (neighbour p n o) then link_outs p n o else [])
    ++ each_group (length p.domains) (λ d. if hosts p n d
    then local_out_group p leaf_names net_names (out_names n) (leaf_sizes p) (dest_bits p) d ∷ [] else [])

-- ---- the leaf

-- the leaf of tile n: its ports, the items of its groups
abbrev pub leaf_module : Plan → ℕ → Leaf
leaf_module p n = record {
  name = leaf_name n;
  ports = (tile_head p n).ports;
  items = all_items (inner_groups p n ++ out_groups p n);
}
