-- The groups of a leaf under its names, in order.
use Rattle.std.specs.Prelude.{ℕ, List, [], ◌∷◌, ◌++◌, length, is_some, if◌then◌else◌}
use Rattle.flit_word.specs.Words.{dest_bits, channel_bits, flit_bits}
use Rattle.gen_kit.specs.Groups.{Group}
use Rattle.noc_model.specs.Plan.{Plan, channels, link_channels, ports, hosts}
use Rattle.noc_model.specs.Place.{neighbour}
use Rattle.leaf_tie.specs.Attach.{enter_at}
use Rattle.leaf_tie.specs.Buffers.{buffer_group}
use Rattle.leaf_tie.specs.Glue.{link_push, pop_of}
use Rattle.leaf_tie.specs.Names.{leaf_names, net_names, port_names, credit_base, leaf_sizes, slot_high, link_outs, out_names}
use Rattle.leaf_tie.specs.Outs.{local_out_group}
use Rattle.leaf_tie.specs.Whole.{each_group, slot_groups, shared_groups, before_switch, behind_switch, channel_groups, sent_groups, link_buffers, local_groups, domain_groups}
use Rattle.leaf_parts.specs.Entries.{its_names, its_size}

-- the slot counters of a tile
abbrev pub its_slots : Plan → ℕ → List Group
its_slots p n = slot_groups p n leaf_names (slot_high p)

-- what all domains share: the rows of its links
abbrev pub its_links : Plan → ℕ → List Group
its_links p n = shared_groups p n leaf_names net_names (port_names n) (leaf_sizes p) (dest_bits p) (flit_bits p)
    (channel_bits p)

-- of a domain: before the switch, and behind it
abbrev pub its_outputs : Plan → ℕ → ℕ → List Group
its_outputs p n d = before_switch p n d leaf_names net_names (port_names n) (leaf_sizes p) (dest_bits p)

-- of a domain: the flits that leave its buffers
abbrev pub its_flits : Plan → ℕ → ℕ → List Group
its_flits p n d = behind_switch p n d leaf_names net_names (dest_bits p)

-- a channel of a leaving link
abbrev pub its_channel : Plan → ℕ → ℕ → ℕ → ℕ → List Group
its_channel p n d o x = channel_groups p d leaf_names net_names (port_names n) (credit_base p) (leaf_sizes p) o x

-- what goes by links
abbrev pub its_words : Plan → ℕ → ℕ → List Group
its_words p n d = sent_groups p n d leaf_names net_names (port_names n) (credit_base p) (leaf_sizes p) (dest_bits p)
    (flit_bits p) (channel_bits p)

-- the buffer of channel c that a link from tile m fills
abbrev pub filled_buffer : Plan → ℕ → ℕ → ℕ → ℕ → ℕ → Group
filled_buffer p n d port m c = buffer_group (leaf_names.buffer d port c) (leaf_sizes p) (link_push p leaf_names
    (port_names n) (flit_bits p) (channel_bits p) d port m c) (pop_of p net_names d port c)

-- the buffers of a domain that links fill
abbrev pub its_buffers : Plan → ℕ → ℕ → List Group
its_buffers p n d = link_buffers p n d leaf_names net_names (port_names n) (leaf_sizes p) (flit_bits p) (channel_bits p)

-- the buffer of channel c that the attachment fills
abbrev pub entered_buffer : Plan → ℕ → ℕ → Group
entered_buffer p d c = buffer_group (leaf_names.buffer d 0 c) (leaf_sizes p) (enter_at (its_names d) (its_size p d) c)
    (pop_of p net_names d 0 c)

-- what a domain has where the tile hosts it
abbrev pub its_attachment : Plan → ℕ → ℕ → List Group
its_attachment p n d = local_groups p n d leaf_names net_names (port_names n) (leaf_sizes p) (dest_bits p)

-- all groups of a domain
abbrev pub its_groups : Plan → ℕ → ℕ → List Group
its_groups p n d = domain_groups p n leaf_names net_names (port_names n) (credit_base p) (leaf_sizes p) (dest_bits p)
    (flit_bits p) (channel_bits p) d

-- what a domain gives out where the tile hosts it
abbrev pub its_outs : Plan → ℕ → ℕ → List Group
its_outs p n d = if hosts p n d then local_out_group p leaf_names net_names (out_names n) (leaf_sizes p) (dest_bits p) d
    ∷ [] else []

-- what goes out by a port
abbrev pub port_outs : Plan → ℕ → ℕ → List Group
port_outs p n o = if is_some (neighbour p n o) then link_outs p n o else []
